-- A form of text made of lines, each ended by LF (10), and the first line that breaks it.
use Rattle.std.specs.Prelude.{◌≡◌, ◌≢◌, ◌⊎◌, ℕ, ◌+◌, ◌==◌, Bool, List, [], ◌∷◌, ◌++◌, All, count_by}
use Rattle.insar_ports.specs.Lines.{IsInLine}

-- a form: which texts are of it
abbrev pub Form : Type 1
Form = List ℕ → Type 0

-- this text alone
abbrev pub IsText : List ℕ → Form
IsText whole text = text ≡ whole

-- one line of this text
abbrev pub IsLine : List ℕ → Form
IsLine line text = text ≡ line ++ 10 ∷ []

-- a line of a kind, and its LF
abbrev pub LineOf : (List ℕ → Type 0) → Form
LineOf D text = (line : List ℕ) × (D line × (text ≡ line ++ 10 ∷ []))

-- some text of the form begins with these bytes; and needs more than these
abbrev pub Begins : Form → List ℕ → Type 0
Begins F bytes = (more : List ℕ) × F (bytes ++ more)

abbrev pub NeedsMore : Form → List ℕ → Type 0
NeedsMore F bytes = (more : List ℕ) × ((more ≢ []) × F (bytes ++ more))

-- how many lines end in the bytes
abbrev pub is_line_feed : ℕ → Bool
is_line_feed byte = byte == 10

abbrev pub lines_in : List ℕ → ℕ
lines_in bytes = count_by is_line_feed bytes

-- whole lines: nothing, or bytes that end with LF
abbrev pub AreWholeLines : List ℕ → Type 0
AreWholeLines bytes = (bytes ≡ []) ⊎ ((front : List ℕ) × (bytes ≡ front ++ 10 ∷ []))

-- `before` are whole lines of which P holds, and `line`, in which no LF stands, belongs to the next, which has the number n, from 1
pub record IsInLineOf (P : List ℕ → Type 0) (n : ℕ) (before line : List ℕ) : Type 0 where
  pub whole : AreWholeLines before
  pub holds : P before
  pub inside : All IsInLine line
  pub number : n ≡ lines_in before + 1

-- the bytes end in line n, in front of its LF
abbrev pub EndsIn : (List ℕ → Type 0) → ℕ → List ℕ → Type 0
EndsIn P n bytes = (before : List ℕ) × (line : List ℕ) × (IsInLineOf P n before line × (bytes ≡ before ++ line))

-- The bytes end with the LF of line n, the first with which no text of the form begins.
abbrev pub BreaksAt : (List ℕ → Type 0) → Form → ℕ → List ℕ → Type 0
BreaksAt P F n bytes = (before : List ℕ) × (line : List ℕ) × (IsInLineOf P n before line × ((bytes ≡ before ++ (line ++ 10 ∷ [])) × (Begins F bytes → ⊥)))
