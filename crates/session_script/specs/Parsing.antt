-- Parsing a session from left to right: words of helpers, which no clause of a public function cites. A parser is told whether
-- more bytes come after those that it is given, the place of the first of them, and them. Where it needs a byte that comes, its
-- outcome is the fault that bytes are too many: it is used where the limit lets no more out.
use Rattle.std.specs.Prelude.{◌≡◌, ℕ, zero, suc, ◌+◌, ◌==◌, ◌&&◌, nat_lt, Bool, true, false, if◌then◌else◌, List, [], ◌∷◌, ◌++◌, length, Option, Some, None, Result, Ok, Err, ⊤}
use Rattle.insar_ports.specs.Bytes.{HasMore, HasRisen}
use Rattle.insar_ports.specs.Calls.{Call, Moves}
use Rattle.pgm_planes.specs.declared.fault.InputFault.{InputFault}
use Rattle.pgm_planes.specs.declared.fault.InputFault.TheVariants.{TooLong, Plane, SizesDiffer, ScriptLine, NoEnd, AfterEnd}
use Rattle.pgm_planes.specs.declared.fault.Role.{Role}
use Rattle.pgm_planes.specs.declared.fault.Role.TheVariants.{Phase, Weight, Mask}
use Rattle.pgm_planes.specs.declared.extent.Extent.{Extent}
use Rattle.pgm_planes.specs.Planes.{PlaneOf, Sought, sought_within}
use Rattle.pgm_planes.specs.Reading.{Reading, Told, sought_at}
use Rattle.session_script.specs.declared.fault.SessionFault.{SessionFault}
use Rattle.session_script.specs.declared.fault.SessionFault.TheVariants.{Input, ReadFault, Memory}
use Rattle.session_script.specs.declared.sections.TheConstants.{MAX_SECTION_LINES}
use Rattle.session_script.specs.declared.session_use.SessionUse.{SessionUse}
use Rattle.session_script.specs.declared.session_use.SessionUse.TheVariants.{Alone, BeforeReport}
use Rattle.session_script.specs.declared.word.Word.{Word}
use Rattle.session_script.specs.declared.word.Word.TheVariants as words
use Rattle.session_script.specs.Fields.{word_in}
use Rattle.session_script.specs.Sections.{Sections, Frame, line_count, word_broken, with_command, with_word}
use Rattle.session_script.specs.Scripts.{usual, meant}
use Rattle.session_script.specs.Layouts.{Layout, extent_of}
use Rattle.session_script.specs.Sessions.{ones_of, is_p, frame_laid}

-- a value, the place after it and the bytes from there; or a fault
abbrev pub Parse : Type 0 → Type 0
Parse A = Result (A × ℕ × List ℕ) InputFault

abbrev pub Parser : Type 0 → Type 0
Parser A = Bool → ℕ → List ℕ → Parse A

abbrev pub parsed : {A : Type 0} → A → Parser A
parsed x more at bytes = Ok (x, at, bytes)

abbrev pub fails : {A : Type 0} → InputFault → Parser A
fails fault more at bytes = Err fault

-- the outcome at the end of the bytes, where no more come
abbrev pub if_no_more : {A : Type 0} → Bool → Parse A → Parse A
if_no_more true outcome = Err TooLong
if_no_more false outcome = outcome

-- one parser after the other
abbrev pub and_then : {A B : Type 0} → Parse A → (A → ℕ → List ℕ → Parse B) → Parse B
and_then (Ok x) f = f x.0 x.1 x.2
and_then (Err fault) f = Err fault

unfoldable pub chain : {A B : Type 0} → Parser A → (A → Parser B) → Parser B
chain p f more at bytes = and_then (p more at bytes) (λ x. f x more)

-- the next byte, which stays
abbrev pub peek_parser : Parser (Option ℕ)
peek_parser more at [] = if_no_more more (Ok (None, at, []))
peek_parser more at (b ∷ bytes) = Ok (Some b, at, b ∷ bytes)

-- ---- lines

abbrev pub word_or_fault : ℕ → Option Word → Parser Word
word_or_fault n None = fails (ScriptLine n)
word_or_fault n (Some w) = parsed w

-- the line with the number n, of which `line` was read: it is judged at its line feed or at its 65th byte
abbrev pub line_parser : ℕ → List ℕ → Parser Word
line_parser n line more at [] = if_no_more more (Err NoEnd)
line_parser n line more at (b ∷ bytes) = if b == 10 then word_or_fault n (word_in line) more (at + 1) bytes else (if nat_lt 63 (length line) then Err (ScriptLine n) else line_parser n (line ++ b ∷ []) more (at + 1) bytes)

-- a word after sections; `next` is what parses the lines after it
abbrev pub on_word : (Sections → Parser Sections) → Sections → Word → Option InputFault → Parser Sections
on_word next ss word (Some fault) = fails fault
on_word next ss words.Analyst None = next (with_word words.Analyst ss)
on_word next ss words.End None = parsed ss
on_word next ss (words.Command c) None = next (with_command c ss)

-- the lines after some sections, of which so many at most may come
unfoldable pub sections_parser : Frame → ℕ → Sections → Parser Sections
sections_parser frame zero ss = fails NoEnd
sections_parser frame (suc k) ss = chain (line_parser (line_count ss + 1) []) (λ w. on_word (sections_parser frame k) ss w (word_broken frame (line_count ss + 1) ss w))

-- the most lines of sections within the limits, and the line `end`
abbrev pub most_lines : ℕ
most_lines = MAX_SECTION_LINES + 1

abbrev pub lines_parser : Frame → Parser Sections
lines_parser frame = sections_parser frame most_lines []

-- ---- the script part

-- after the line `end` of a session that stands alone
abbrev pub alone_end : Sections → Option ℕ → Parser Sections
alone_end ss None = parsed (meant ss)
alone_end ss (Some b) = λ more at bytes. Err (AfterEnd at)

abbrev pub alone_script : Frame → Option ℕ → Parser Sections
alone_script frame None = parsed usual
alone_script frame (Some b) = chain (lines_parser frame) (λ ss. chain peek_parser (alone_end ss))

abbrev pub script_parser : Frame → SessionUse → Parser Sections
script_parser frame Alone = chain peek_parser (alone_script frame)
script_parser frame BeforeReport = chain (lines_parser frame) (λ ss. parsed (meant ss))

-- ---- the planes

abbrev pub as_parse : {A : Type 0} → Role → Reading A → Parse A
as_parse role (Ok x) = Ok x
as_parse role (Err (Some fault)) = Err (Plane role fault)
as_parse role (Err None) = Err TooLong

abbrev pub plane_parser : Sought → Parser PlaneOf
plane_parser sought more at bytes = as_parse sought.role (sought_at sought more at bytes)

abbrev pub has_size : PlaneOf → PlaneOf → Bool
has_size p q = (q.width == p.width) && (q.height == p.height)

abbrev pub where_sized : Role → PlaneOf → Bool → Parser PlaneOf
where_sized role plane true = parsed plane
where_sized role plane false = fails (SizesDiffer role)

abbrev pub if_sized : Role → PlaneOf → PlaneOf → Parser PlaneOf
if_sized role phase p = where_sized role p (has_size phase p)

abbrev pub is_begun : Option ℕ → Bool
is_begun None = false
is_begun (Some b) = is_p b

abbrev pub later_plane : Sought → PlaneOf → Bool → Parser PlaneOf
later_plane sought phase true = chain (plane_parser sought) (if_sized sought.role phase)
later_plane sought phase false = parsed (ones_of phase)

abbrev pub later_parser : Sought → PlaneOf → Parser PlaneOf
later_parser sought phase = chain peek_parser (λ got. later_plane sought phase (is_begun got))

pub record ThreePlanes : Type 0 where
  pub phase : PlaneOf
  pub weights : PlaneOf
  pub mask : PlaneOf

abbrev pub three : PlaneOf → PlaneOf → PlaneOf → ThreePlanes
three phase weights mask = record { phase = phase; weights = weights; mask = mask }

abbrev pub planes_parser : Extent → Parser ThreePlanes
planes_parser extent = chain (plane_parser (sought_within extent Phase)) (λ p. chain (later_parser (sought_within extent Weight) p) (λ w. chain (later_parser (sought_within extent Mask) p) (λ m. parsed (three p w m))))

-- ---- a session

abbrev pub session_parser : SessionUse → Layout → Parser (ThreePlanes × Sections)
session_parser usage layout = chain (planes_parser (extent_of layout)) (λ p. chain (script_parser (frame_laid layout p.phase) usage) (λ ss. parsed (p, ss)))

-- ---- calls on a feed

-- the limit was handed out and another byte is there
abbrev pub IsFull : Call → Type 0
IsFull call = (call.end ≡ call.limit) × HasMore call.left

-- the call's outcome is the parser's, of the bytes that the limit lets out; or a read fault was counted; lack of memory has no cause
abbrev pub IsOutcome : {X A : Type 0} → (X → A) → Result X SessionFault → Call → Parser A → Type 0
IsOutcome view (Ok x) call p = Told call (λ more bytes rest. p more call.at bytes ≡ Ok (view x, call.end, rest))
IsOutcome view (Err (Input fault)) call p = Told call (λ more bytes rest. p more call.at bytes ≡ Err fault) × (fault ≡ TooLong → IsFull call)
IsOutcome view (Err ReadFault) call p = HasRisen call.before call.after
IsOutcome view (Err Memory) call p = ⊤

pub record Parses {X A : Type 0} (view : X → A) (result : Result X SessionFault) (c : Call) (p : Parser A) : Type 0 where
  pub moves : Moves c
  pub outcome : IsOutcome view result c p
