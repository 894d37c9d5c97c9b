-- Why a text in lines is not read.
use Rattle.std.specs.Prelude.{◌≡◌, ◌⊎◌, ℕ, ◌+◌, ◌-◌, ◌≤◌, ◌<◌, List, [], ◌++◌, length, take, ⊤}
use Rattle.insar_ports.specs.Bytes.{HasMore, HasRisen}
use Rattle.insar_ports.specs.Calls.{Call, Takes}
use Rattle.text_lines.specs.declared.fault.LineFault.{LineFault}
use Rattle.text_lines.specs.declared.fault.LineFault.TheVariants.{Line, TooLong, ReadFault, Memory}
use Rattle.text_lines.specs.Forms.{Form, NeedsMore, BreaksAt, EndsIn}

-- the bytes that were taken end with line n, the first that breaks the form
abbrev pub BreaksFormAt : Form → ℕ → List ℕ → Type 0
BreaksFormAt F n text = BreaksAt (NeedsMore F) F n text

-- they end in line n, of a text that needs more
abbrev pub EndsFormIn : Form → ℕ → List ℕ → Type 0
EndsFormIn F n text = EndsIn (NeedsMore F) n text

-- Why a text of the form F, before which `done` lines were read, was not read. Where bytes are told: those that were taken end
-- with the first line that breaks the form, or the input ends in a line that the form needs; or the limit cuts such a line.
-- Otherwise a fault of the source was counted, or memory ran out.
abbrev pub HasLineCause : Form → ℕ → Call → LineFault → Type 0
HasLineCause F done call (Line n) = Takes call (λ text rest. (k : ℕ) × ((n ≡ done + k) × (BreaksFormAt F k text ⊎ (EndsFormIn F k text × (rest ≡ [])))))
HasLineCause F done call TooLong = (call.end ≡ call.limit) × (HasMore call.left × Takes call (λ text rest. (k : ℕ) × EndsFormIn F k text))
HasLineCause F done call ReadFault = HasRisen call.before call.after
HasLineCause F done call Memory = ⊤

-- a feed that lets out so many bytes meets a first broken line in these bytes, and it has the number n
abbrev pub HasBrokenLine : Form → ℕ → ℕ → List ℕ → Type 0
HasBrokenLine F room n bytes = ((front : List ℕ) × (rest : List ℕ) × ((bytes ≡ front ++ rest) × ((length front ≤ room) × BreaksFormAt F n front))) ⊎ ((length bytes ≤ room) × EndsFormIn F n bytes)

-- of bytes of which so many are let out, these begin with a text of the form; or the limit cuts a line that the form needs
abbrev pub StandsInFront : Form → ℕ → List ℕ → Type 0
StandsInFront F room bytes = (text : List ℕ) × (rest : List ℕ) × (F text × ((length text ≤ room) × (bytes ≡ text ++ rest)))

abbrev pub IsCutIn : Form → ℕ → List ℕ → Type 0
IsCutIn F room bytes = (room < length bytes) × ((n : ℕ) × EndsFormIn F n (take room bytes))

-- bytes in front of which no text of the form stands have a first broken line, unless the limit cuts a line; and one only
abbrev pub TextOrBreak : Form → Type 0
TextOrBreak F = (room : ℕ) (bytes : List ℕ) → StandsInFront F room bytes ⊎ (((n : ℕ) × HasBrokenLine F room n bytes) ⊎ IsCutIn F room bytes)

abbrev pub OneBrokenLine : Form → Type 0
OneBrokenLine F = (room m n : ℕ) (bytes : List ℕ) → HasBrokenLine F room m bytes → HasBrokenLine F room n bytes → m ≡ n

-- how many bytes the limit still lets out
abbrev pub room_of : Call → ℕ
room_of call = call.limit - call.at
