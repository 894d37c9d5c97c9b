-- Texts that are read to the end of the input: why one is not read, and what reading it promises.
use Rattle.std.specs.Prelude.{◌≡◌, ◌⊎◌, ℕ, ◌≤◌, ◌<◌, List, [], ◌++◌, length, take, Some, IfErr, IfOk, Result, Ok, Err, ⊤}
use Rattle.insar_ports.specs.Bytes.{HasMore, HasRisen}
use Rattle.insar_ports.specs.Calls.{Call, Takes}
use Rattle.text_lines.specs.Forms.{Form, Begins, BreaksAt, EndsIn}
use Rattle.text_lines.specs.declared.fault.LineFault.{LineFault}
use Rattle.text_lines.specs.declared.fault.LineFault.TheVariants.{Line, TooLong, ReadFault, Memory}
use Rattle.text_parts.specs.Steps.{TextOf}

-- the bytes that were taken end with line n, the first with which no text of the form begins; they end in line n, and are no text of it
abbrev pub BreaksTextAt : Form → ℕ → List ℕ → Type 0
BreaksTextAt F n text = BreaksAt (Begins F) F n text

abbrev pub EndsTextIn : Form → ℕ → List ℕ → Type 0
EndsTextIn F n text = EndsIn (Begins F) n text × (F text → ⊥)

-- Where bytes are told: those that were taken end with the first line that breaks the form, or the input ends in a line that is
-- cut or missing; or the limit cuts a line. Otherwise a fault of the source was counted, or memory ran out.
abbrev pub HasTextCause : Form → Call → LineFault → Type 0
HasTextCause F call (Line n) = Takes call (λ text rest. BreaksTextAt F n text ⊎ (EndsTextIn F n text × (rest ≡ [])))
HasTextCause F call TooLong = (call.end ≡ call.limit) × (HasMore call.left × Takes call (λ text rest. (n : ℕ) × EndsIn (Begins F) n text))
HasTextCause F call ReadFault = HasRisen call.before call.after
HasTextCause F call Memory = ⊤

-- What was taken is the text of what was read, and nothing is left; or there is a cause.
abbrev pub IsReaderOf : {R : Type 0} → Form → (R → Type 0) → (R → List ℕ) → Call → Result R LineFault → Type 0
IsReaderOf F MayStand text call result = IfOk result (λ r. Takes call (λ taken rest. (taken ≡ text r) × (rest ≡ []))) × (IfOk result MayStand × IfErr result (HasTextCause F call))

-- so it is of what is read as `told` shows it
abbrev pub IsTextReader : {R A : Type 0} → (R → A) → (A → Type 0) → (A → List ℕ) → Call → Result R LineFault → Type 0
IsTextReader told MayStand text call result = IsReaderOf (TextOf MayStand text) (λ r. MayStand (told r)) (λ r. text (told r)) call result

-- of bytes of which so many are let out, line n is the first that breaks the form
abbrev pub HasBrokenTextLine : Form → ℕ → ℕ → List ℕ → Type 0
HasBrokenTextLine F room n bytes = ((front : List ℕ) × (rest : List ℕ) × ((bytes ≡ front ++ rest) × ((length front ≤ room) × BreaksTextAt F n front))) ⊎ ((length bytes ≤ room) × EndsTextIn F n bytes)

-- a text is read as what has it, and nothing is left; or a fault of the source was counted, or memory ran out
abbrev pub IsTextRead : {R A : Type 0} → (R → A) → (A → List ℕ) → Call → List ℕ → Result R LineFault → Type 0
IsTextRead told text call bytes (Ok r) = (text (told r) ≡ bytes) × (call.left ≡ Some [])
IsTextRead told text call bytes (Err (Line n)) = ⊥
IsTextRead told text call bytes (Err TooLong) = ⊥
IsTextRead told text call bytes (Err ReadFault) = HasRisen call.before call.after
IsTextRead told text call bytes (Err Memory) = ⊤

-- a first broken line is told; or one of the same happened
abbrev pub IsTextRefusedAt : {R : Type 0} → Call → ℕ → Result R LineFault → Type 0
IsTextRefusedAt call n (Ok r) = ⊥
IsTextRefusedAt call n (Err (Line m)) = m ≡ n
IsTextRefusedAt call n (Err TooLong) = ⊥
IsTextRefusedAt call n (Err ReadFault) = HasRisen call.before call.after
IsTextRefusedAt call n (Err Memory) = ⊤

-- bytes have no two first broken lines, however many are let out, and a text of the form has none
abbrev pub BrokenTextLineIsOne : Form → Type 0
BrokenTextLineIsOne F = (bytes : List ℕ) (room more m n : ℕ) → HasBrokenTextLine F room m bytes → HasBrokenTextLine F more n bytes → (m ≡ n) × (F bytes → ⊥)

-- so many of the bytes are let out, and the limit cuts a line after lines with which a text of the form begins
abbrev pub IsTextCutIn : Form → ℕ → List ℕ → Type 0
IsTextCutIn F room bytes = (room < length bytes) × ((n : ℕ) × EndsIn (Begins F) n (take room bytes))

-- bytes are a text of the form and all let out, or have a first broken line, or the limit cuts a line
abbrev pub TextOrBrokenLine : Form → Type 0
TextOrBrokenLine F = (room : ℕ) (bytes : List ℕ) → ((length bytes ≤ room) × F bytes) ⊎ (((n : ℕ) × HasBrokenTextLine F room n bytes) ⊎ IsTextCutIn F room bytes)

-- no line is broken before one that the limit cuts
abbrev pub CutTextHasNoBreak : Form → Type 0
CutTextHasNoBreak F = (room n : ℕ) (bytes : List ℕ) → HasBrokenTextLine F room n bytes → IsTextCutIn F room bytes → ⊥
