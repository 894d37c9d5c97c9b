-- A line as it is read: words of helpers and of `Lines`.
use Rattle.std.specs.Prelude.{◌≡◌, ℕ, ◌+◌, ◌<◌, Bool, true, false, List, [], ◌∷◌, ◌++◌, All, Option, Some, None, length, take, ⊤}
use Rattle.insar_ports.specs.Bytes.{HasMore, HasRisen}
use Rattle.insar_ports.specs.Calls.{Call, Takes}
use Rattle.insar_ports.specs.Lines.{IsInLine}
use Rattle.text_lines.specs.Forms.{Form, lines_in}
use Rattle.text_lines.specs.declared.fault.LineFault.{LineFault}
use Rattle.text_lines.specs.declared.fault.LineFault.TheVariants as faults
use Rattle.text_lines.specs.declared.lines.LineEnd.{LineEnd}
use Rattle.text_lines.specs.declared.lines.LineEnd.TheVariants.{Whole, Long, Cut}
use Rattle.text_lines.specs.declared.lines.Lines.{Lines}

-- the bytes of the line that was read last, without its LF, and its number
abbrev pub kept_line : Lines → List ℕ
kept_line lines = lines.line.items

abbrev pub lines_read : Lines → ℕ
lines_read lines = lines.number

-- What the read of a line says of the bytes that are told: a line and its LF were taken, and the line is kept; or a line of more
-- than `most` bytes; or the input ended within a line.
abbrev pub IsLineRead : ℕ → List ℕ → Call → LineEnd → Type 0
IsLineRead most kept call Whole = Takes call (λ text rest. (text ≡ kept ++ 10 ∷ []) × All IsInLine kept)
IsLineRead most kept call Long = Takes call (λ text rest. (line : List ℕ) × ((text ≡ line ++ 10 ∷ []) × (All IsInLine line × (most < length line))))
IsLineRead most kept call Cut = Takes call (λ text rest. All IsInLine text × (rest ≡ []))

-- LF, or nothing
abbrev pub feed_if : Bool → List ℕ
feed_if true = 10 ∷ []
feed_if false = []

-- a text is a part of a line, and LF if it ended the line; of what was kept before and the part the first `most` bytes are kept
abbrev pub KeepsPart : ℕ → List ℕ → List ℕ → Bool → List ℕ → List ℕ → Type 0
KeepsPart most old new ended text rest = (part : List ℕ) × ((text ≡ part ++ feed_if ended) × (All IsInLine part × (new ≡ take most (old ++ part))))

-- What the read of a part of a line says of the bytes that are told: the part was taken, or the input ended.
abbrev pub IsPartTaken : ℕ → List ℕ → List ℕ → Call → Option Bool → Type 0
IsPartTaken most old new call (Some ended) = Takes call (KeepsPart most old new ended)
IsPartTaken most old new call None = Takes call (λ text rest. (text ≡ []) × (rest ≡ []))

-- why no line was read
abbrev pub HasNextCause : Call → LineFault → Type 0
HasNextCause call (faults.Line n) = ⊥
HasNextCause call faults.TooLong = (call.end ≡ call.limit) × (HasMore call.left × Takes call (λ text rest. All IsInLine text))
HasNextCause call faults.ReadFault = HasRisen call.before call.after
HasNextCause call faults.Memory = ⊤

-- Lines of the form F were taken: so many lines were read before them, and so many have been read now.
abbrev pub TakesLines : Form → ℕ → ℕ → Call → Type 0
TakesLines F done now call = Takes call (λ text rest. F text × (now ≡ done + lines_in text))
