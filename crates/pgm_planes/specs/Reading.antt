-- Reading a plane from left to right, with the first break that is met. A place counts from the start of the source.
-- After the bytes that are read others may come, unseen: where the end of those that are read is met, they are asked for.
use Rattle.std.specs.Prelude.{◌≡◌, ℕ, zero, suc, ◌+◌, ◌*◌, ◌-◌, min, nat_lt, ◌==◌, ◌&&◌, ◌||◌, Bool, true, false, not, if◌then◌else◌, List, [], ◌∷◌, length, take, Option, Some, None, Result, Ok, Err}
use Rattle.insar_ports.specs.Bytes.{HasMore, HasRisen}
use Rattle.insar_ports.specs.Calls.{Call, Moves}
use Rattle.pgm_planes.specs.declared.extent.Extent.{Extent}
use Rattle.pgm_planes.specs.declared.extent.Extent.TheVariants.{Tiled}
use Rattle.pgm_planes.specs.declared.fault.Role.{Role}
use Rattle.pgm_planes.specs.declared.fault.Role.TheVariants.{Phase, Weight, Mask}
use Rattle.pgm_planes.specs.declared.fault.PlaneFault.{PlaneFault}
use Rattle.pgm_planes.specs.declared.fault.PlaneFault.TheVariants.{Magic, Form, Size, PhaseMaxval, SampleAbove, Short}
use Rattle.pgm_planes.specs.declared.fault.ReadPlaneFault.{ReadPlaneFault}
use Rattle.pgm_planes.specs.declared.fault.ReadPlaneFault.TheVariants as errors
use Rattle.pgm_planes.specs.declared.header.Header.{Header}
use Rattle.pgm_planes.specs.declared.spelling.Spelling.{Spelling}
use Rattle.pgm_planes.specs.declared.spelling.Spelling.TheVariants.{Raw, Plain}
use Rattle.pgm_planes.specs.declared.samples.SampleForm.{SampleForm}
use Rattle.pgm_planes.specs.declared.samples.SampleForm.TheVariants.{Narrow, Wide, Digits}
use Rattle.pgm_planes.specs.Gaps.{is_space, is_line_end, is_digit}
use Rattle.pgm_planes.specs.Planes.{Sought, sought_within, PlaneOf, max_sample, max_side_within, max_pixels_within}

-- a value, the place after it and the bytes from there, or the break, or none where another byte is asked for
abbrev pub Reading : Type 0 → Type 0
Reading A = Result (A × ℕ × List ℕ) (Option PlaneFault)

-- what reads a value from a place and the bytes from there on, after which more come (true) or none
abbrev pub Reader : Type 0 → Type 0
Reader A = Bool → ℕ → List ℕ → Reading A

infixl 10 ◌⟫◌
abbrev pub ◌⟫◌ : {A B : Type 0} → Reading A → (A → ℕ → List ℕ → Reading B) → Reading B
(Ok x) ⟫ f = f x.0 x.1 x.2
(Err e) ⟫ f = Err e

abbrev pub breaks : {A : Type 0} → PlaneFault → Reading A
breaks fault = Err (Some fault)

abbrev pub asks : {A : Type 0} → Reading A
asks = Err None

-- what is read at the end of the bytes, where no more come
abbrev pub unless_more : {A : Type 0} → Bool → Reading A → Reading A
unless_more true reading = asks
unless_more false reading = reading

abbrev pub nothing : Unit {0}
nothing = tt

-- ---- readers one after another

-- a reader, and then the one that its value names
infixl 10 ◌▸◌
abbrev pub ◌▸◌ : {A B : Type 0} → Reader A → (A → Reader B) → Reader B
(p ▸ f) more at bytes = p more at bytes ⟫ λ x after rest. f x more after rest

-- a value, of which no byte is read, and the place
abbrev pub pure : {A : Type 0} → A → Reader A
pure x more at rest = Ok (x, at, rest)

abbrev pub here : Reader ℕ
here more at rest = Ok (at, at, rest)

-- the next byte, which is taken or stays, and none at the end
unfoldable pub byte_at : Reader (Option ℕ)
byte_at more at [] = unless_more more (Ok (None, at, []))
byte_at more at (b ∷ rest) = Ok (Some b, at + 1, rest)

unfoldable pub sight_at : Reader (Option ℕ)
sight_at more at [] = unless_more more (Ok (None, at, []))
sight_at more at (b ∷ rest) = Ok (Some b, at, b ∷ rest)

abbrev pub fails : {A : Type 0} → PlaneFault → Reader A
fails fault more at rest = breaks fault

-- what a value or a break is, or none
abbrev pub or_fails : {A : Type 0} → PlaneFault → Option A → Reader A
or_fails fault None = fails fault
or_fails fault (Some x) = pure x

-- the next byte, which is taken, or `cut` at the end
unfoldable pub octet_at : PlaneFault → Reader ℕ
octet_at cut = byte_at ▸ or_fails cut

-- what P and the byte after it stand for: P5 is raw and P2 plain
abbrev pub spelling_of : ℕ → ℕ → Option Spelling
spelling_of a b = if (a == 80) && (b == 53) then Some Raw else (if (a == 80) && (b == 50) then Some Plain else None)

unfoldable pub magic_at : Reader Spelling
magic_at = octet_at Magic ▸ λ a. octet_at Magic ▸ λ b. or_fails Magic (spelling_of a b)

-- white space, where the byte was taken from the place
abbrev pub space_or : ℕ → ℕ → Reader (Unit {0})
space_or place b = if is_space b then pure nothing else fails (Form place)

unfoldable pub space_at : Reader (Unit {0})
space_at = here ▸ λ place. octet_at (Form place) ▸ space_or place

-- whether a comment is open after a byte of white space or of a comment; none after any other byte
abbrev pub inside_after : Bool → ℕ → Option Bool
inside_after true b = Some (not (is_line_end b))
inside_after false b = if is_space b then Some false else (if b == 35 then Some true else None)

-- what stays where a step goes on to no state, and else what its state stands for
abbrev pub on_step : {S R : Type 0} → Option S → R → (S → R) → R
on_step None stays goes = stays
on_step (Some t) stays goes = goes t

-- bytes are taken as long as a step goes on with them from one state to another; what is read then is that of the last state
unfoldable pub scan_at : {S A : Type 0} → (S → ℕ → Option S) → (S → Reader A) → S → Reader A
scan_at step ends s more at [] = unless_more more (ends s more at [])
scan_at step ends s more at (b ∷ rest) = on_step (step s b) (ends s more at (b ∷ rest)) (λ t. scan_at step ends t more (at + 1) rest)

-- white space and comments, from outside a comment or from inside one, which may not stay open
abbrev pub filling_end : Bool → Reader (Unit {0})
filling_end true more at rest = breaks (Form at)
filling_end false more at rest = Ok (nothing, at, rest)

abbrev pub filling_at : Bool → Reader (Unit {0})
filling_at = scan_at inside_after filling_end

-- white space
abbrev pub blanks_at : Reader (Unit {0})
blanks_at = scan_at (λ s b. if is_space b then Some s else None) pure nothing

-- one more digit; numbers stop growing at 4,294,967,295
abbrev pub with_digit : ℕ → ℕ → ℕ
with_digit n b = min (10 * n + (b - 48)) 4294967295

abbrev pub digits_at : ℕ → Reader ℕ
digits_at = scan_at (λ n b. if is_digit b then Some (with_digit n b) else None) pure

-- a number, whose first byte was taken from the place
abbrev pub number_or : ℕ → ℕ → Reader ℕ
number_or place b = if is_digit b then digits_at (b - 48) else fails (Form place)

-- a number, or `cut` where the input ends before it
unfoldable pub numeral_at : PlaneFault → Reader ℕ
numeral_at cut = here ▸ λ place. octet_at cut ▸ number_or place

-- a gap and a number, with the place of its first digit
unfoldable pub field_at : Reader (ℕ × ℕ)
field_at = space_at ▸ λ _. filling_at false ▸ λ _. here ▸ λ place. numeral_at (Form place) ▸ λ n. pure (n, place)

pub record HeaderOf : Type 0 where
  pub width : ℕ
  pub height : ℕ
  pub maxval : ℕ

-- a side or the pixels break a limit
abbrev pub is_too_large : Extent → ℕ → ℕ → Bool
is_too_large extent width height = (width == 0) || (nat_lt (max_side_within extent) width) || (height == 0) || (nat_lt (max_side_within extent) height) || (nat_lt (max_pixels_within extent) (width * height))

-- what is wrong with a maxval whose first digit stands at the place
abbrev pub maxval_break : Role → ℕ → ℕ → Option PlaneFault
maxval_break Phase maxval place = if maxval == max_sample then None else Some (PhaseMaxval maxval)
maxval_break Weight maxval place = if (maxval == 0) || (nat_lt max_sample maxval) then Some (Form place) else None
maxval_break Mask maxval place = if (maxval == 0) || (nat_lt max_sample maxval) then Some (Form place) else None

-- the size is judged before the maxval
abbrev pub header_break : Sought → ℕ → ℕ → ℕ → ℕ → Option PlaneFault
header_break sought width height maxval place = if is_too_large sought.extent width height then Some (Size width height) else maxval_break sought.role maxval place

abbrev pub unless_broken : {A : Type 0} → Option PlaneFault → Reading A → Reading A
unless_broken None reading = reading
unless_broken (Some fault) reading = breaks fault

unfoldable pub header_at : Sought → Reader HeaderOf
header_at sought = field_at ▸ λ w. field_at ▸ λ h. field_at ▸ λ m. space_at ▸ λ _ more at rest. unless_broken (header_break sought w.0 h.0 m.0 m.1) (Ok (record { width = w.0; height = h.0; maxval = m.0 }, at, rest))

-- the sample with the given index, if it is not above maxval
abbrev pub judged : ℕ → ℕ → ℕ → Result ℕ PlaneFault
judged maxval index v = if nat_lt maxval v then Err (SampleAbove index v) else Ok v

abbrev pub judged_at : ℕ → ℕ → ℕ → Reader ℕ
judged_at maxval index v = if nat_lt maxval v then fails (SampleAbove index v) else pure v

-- how the samples of a plane are spelled
abbrev pub form_of : Spelling → ℕ → SampleForm
form_of Raw maxval = if nat_lt 255 maxval then Wide else Narrow
form_of Plain maxval = Digits

-- one sample, that with the given index
unfoldable pub spelled_sample_at : SampleForm → ℕ → ℕ → Reader ℕ
spelled_sample_at Narrow maxval index = octet_at (Short index) ▸ judged_at maxval index
spelled_sample_at Wide maxval index = octet_at (Short index) ▸ λ high. octet_at (Short index) ▸ λ low. judged_at maxval index (256 * high + low)
spelled_sample_at Digits maxval index = blanks_at ▸ λ _. numeral_at (Short index) ▸ judged_at maxval index

-- so many samples, the first with the given index
unfoldable pub samples_at : SampleForm → ℕ → ℕ → ℕ → Reader (List ℕ)
samples_at form maxval zero index more at bytes = Ok ([], at, bytes)
samples_at form maxval (suc n) index more at bytes = spelled_sample_at form maxval index more at bytes ⟫ λ v after rest. samples_at form maxval n (index + 1) more after rest ⟫ λ vs end others. Ok (v ∷ vs, end, others)

-- the white space after the last sample of a plain raster
abbrev pub end_or : ℕ → Option ℕ → Reader (Unit {0})
end_or place None = pure nothing
end_or place (Some b) = if is_space b then blanks_at else fails (Form place)

unfoldable pub end_at : Reader (Unit {0})
end_at = here ▸ λ place. sight_at ▸ end_or place

abbrev pub end_of : Spelling → List ℕ → Reader (List ℕ)
end_of Raw vs = pure vs
end_of Plain vs = end_at ▸ λ _. pure vs

unfoldable pub raster_at : Spelling → ℕ → ℕ → Reader (List ℕ)
raster_at spelling maxval count = samples_at (form_of spelling maxval) maxval count 0 ▸ end_of spelling

unfoldable pub sought_at : Sought → Reader PlaneOf
sought_at sought = magic_at ▸ λ spelling. header_at sought ▸ λ h. raster_at spelling h.maxval (h.width * h.height) ▸ λ vs. pure (record { width = h.width; height = h.height; maxval = h.maxval; samples = vs })

-- the same of a raster that may have tiles
abbrev pub plane_at : Role → Reader PlaneOf
plane_at role = sought_at (sought_within Tiled role)

-- ---- calls on a feed

-- a break as a refusal
abbrev pub as_refusal : {A : Type 0} → Result A PlaneFault → Result A ReadPlaneFault
as_refusal (Ok x) = Ok x
as_refusal (Err fault) = Err (errors.Plane fault)

-- bytes at a place go beyond the limit
abbrev pub goes_beyond : ℕ → ℕ → List ℕ → Bool
goes_beyond limit at bytes = nat_lt limit (at + length bytes)

-- Where bytes are told: whether they go beyond the limit, and what it lets out of them and of those that are left.
abbrev pub Told : Call → (Bool → List ℕ → List ℕ → Type 0) → Type 0
Told call P = (bytes rest : List ℕ) → call.told ≡ Some bytes → call.left ≡ Some rest → P (goes_beyond call.limit call.at bytes) (take (call.limit - call.at) bytes) (take (call.limit - call.end) rest)

-- the call answers what the reader gives; a read fault was counted; lack of memory has no cause
abbrev pub AnswersReader : {X A : Type 0} → (X → A) → Result X ReadPlaneFault → Call → Reader A → Type 0
AnswersReader view (Ok x) call read = Told call (λ more bytes rest. read more call.at bytes ≡ Ok (view x, call.end, rest))
AnswersReader view (Err (errors.Plane fault)) call read = Told call (λ more bytes rest. read more call.at bytes ≡ breaks fault)
AnswersReader view (Err errors.TooLong) call read = ((call.end ≡ call.limit) × HasMore call.left) × Told call (λ more bytes rest. read more call.at bytes ≡ asks)
AnswersReader view (Err errors.ReadFault) call read = HasRisen call.before call.after
AnswersReader view (Err errors.Memory) call read = Unit {0}

pub record Reads {X A : Type 0} (view : X → A) (result : Result X ReadPlaneFault) (c : Call) (read : Reader A) : Type 0 where
  pub moves : Moves c
  pub answers : AnswersReader view result c read

abbrev pub header_of : Header → HeaderOf
header_of h = record { width = h.width; height = h.height; maxval = h.maxval }
