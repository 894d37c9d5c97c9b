-- A line: bytes that are no line feed (10), and then a line feed.
use Rattle.std.specs.Prelude.{◌≡◌, ◌≢◌, ℕ, ◌+◌, ◌≤◌, List, [], ◌∷◌, ◌++◌, length, take, Option, All}
use Rattle.insar_ports.specs.Bytes.{with_front, BeginsWith, IsAtEnd}
use Rattle.insar_ports.specs.declared.feed.Line.{Line}
use Rattle.insar_ports.specs.declared.feed.Line.TheVariants.{Whole, Cut, Over}

-- a byte within a line
abbrev pub IsInLine : ℕ → Type 0
IsInLine byte = byte ≢ 10

-- these bytes were left and are gone, and no line feed is among them
abbrev pub AreGone : List ℕ → Option (List ℕ) → Option (List ℕ) → Type 0
AreGone bytes old new = All IsInLine bytes × old ≡ with_front bytes new

-- what a read of a line into `into` says of the bytes that were left and those that are
abbrev pub IsNextLine : Line → List ℕ → Option (List ℕ) → Option (List ℕ) → Type 0
IsNextLine (Whole n) into old new =
    (n ≤ length into) × All IsInLine (take n into) × old ≡ with_front (take n into ++ 10 ∷ []) new
IsNextLine (Cut n) into old new = (n ≤ length into) × AreGone (take n into) old new × IsAtEnd new
IsNextLine Over into old new = AreGone into old new × ((byte : ℕ) × IsInLine byte × BeginsWith byte new)

-- how many bytes a read of a line hands out
abbrev pub bytes_of : Line → List ℕ → ℕ
bytes_of (Whole n) into = n + 1
bytes_of (Cut n) into = n
bytes_of Over into = length into

-- how many bytes it asks for: those that it hands out, and the one that it sees after them
abbrev pub asked_by : Line → List ℕ → ℕ
asked_by (Whole n) into = n + 1
asked_by (Cut n) into = n
asked_by Over into = length into + 1

-- after a fault: the first bytes of `into` are gone
abbrev pub IsPartOfLine : List ℕ → Option (List ℕ) → Option (List ℕ) → ℕ → ℕ → Type 0
IsPartOfLine into old new handed_old handed_new =
    (n : ℕ) × (n ≤ length into) × AreGone (take n into) old new × (handed_new ≡ handed_old + n)
