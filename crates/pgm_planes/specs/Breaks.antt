-- The first break of bytes that begin with no plane, by cases: the pieces before it are spelled so, and here stands a byte
-- that cannot, or the input ends, or a number breaks a limit. Places count from the start of the source, where the first
-- of the bytes has the place `at`.
use Rattle.std.specs.Prelude.{◌≡◌, ◌≢◌, ℕ, ◌+◌, ◌*◌, ◌≤◌, ◌<◌, ◌==◌, Bool, false, not, IsTrue, if◌then◌else◌, List, [], ◌∷◌, ◌++◌, length, All, ⊤, ◌⊎◌}
use Rattle.std.specs.List.{list_all}
use Rattle.pgm_planes.specs.declared.extent.Extent.TheVariants.{Tiled}
use Rattle.pgm_planes.specs.declared.fault.Role.{Role}
use Rattle.pgm_planes.specs.declared.fault.Role.TheVariants.{Phase}
use Rattle.pgm_planes.specs.declared.fault.PlaneFault.{PlaneFault}
use Rattle.pgm_planes.specs.declared.fault.PlaneFault.TheVariants.{Magic, Form, Size, PhaseMaxval, SampleAbove, Short}
use Rattle.pgm_planes.specs.declared.spelling.Spelling.{Spelling}
use Rattle.pgm_planes.specs.declared.spelling.Spelling.TheVariants.{Raw, Plain}
use Rattle.pgm_planes.specs.Gaps.{is_space, is_line_end, is_digit, is_gap, is_blank, is_number, capped_number, begins}
use Rattle.pgm_planes.specs.Planes.{Sought, sought_within, HasMaxval, IsSizeWithin, max_sample, AreNumbers, digit_of, HasHeader, is_wide, AreSamples}

abbrev pub is_hash : ℕ → Bool
is_hash b = b == 35

abbrev pub is_in_comment : ℕ → Bool
is_in_comment b = not (is_line_end b)

-- the bytes begin with neither magic
abbrev pub HasNoMagic : List ℕ → Type 0
HasNoMagic bytes = (spelling : Spelling) (behind : List ℕ) → bytes ≢ 80 ∷ digit_of spelling ∷ behind

-- After so many numbers of a header no gap begins, nor does the number go on.
pub record HasNoGap (numbers : ℕ) (part rest : List ℕ) : Type 0 where
  pub header : numbers ≤ 3
  pub none : part ≡ []
  pub no_space : begins is_space rest ≡ false
  pub no_digit : 1 ≤ numbers → begins is_digit rest ≡ false

-- After so many numbers a gap stands, which does not go on, and no number begins.
pub record HasNoNumber (numbers : ℕ) (part rest : List ℕ) : Type 0 where
  pub header : numbers < 3
  pub gap : IsTrue (is_gap part)
  pub no_space : begins is_space rest ≡ false
  pub no_comment : begins is_hash rest ≡ false
  pub no_digit : begins is_digit rest ≡ false

-- After so many numbers the input ends in a comment of a gap.
pub record EndsInComment (numbers : ℕ) (part rest : List ℕ) : Type 0 where
  pub header : numbers < 3
  pub gap : List ℕ
  pub comment : List ℕ
  pub parts : part ≡ gap ++ 35 ∷ comment
  pub is : IsTrue (is_gap gap)
  pub inside : IsTrue (list_all is_in_comment comment)
  pub ended : rest ≡ []

-- The header breaks where `rest` begins: after some of its numbers and a part of the next gap.
pub record BreaksInHeader (bytes rest : List ℕ) : Type 0 where
  pub spelling : Spelling
  pub numbers : List ℕ
  pub values : List ℕ
  pub part : List ℕ
  pub whole : bytes ≡ 80 ∷ digit_of spelling ∷ (numbers ++ (part ++ rest))
  pub are : AreNumbers is_gap numbers values
  pub stuck : HasNoGap (length values) part rest ⊎ (HasNoNumber (length values) part rest ⊎ EndsInComment (length values) part rest)

-- The size is good and the role's maxval is not, where the role is no phase; `rest` begins with maxval's digits.
pub record BreaksAtMaxval (sought : Sought) (bytes rest : List ℕ) : Type 0 where
  pub spelling : Spelling
  pub numbers : List ℕ
  pub width : ℕ
  pub height : ℕ
  pub gap : List ℕ
  pub digits : List ℕ
  pub behind : List ℕ
  pub whole : bytes ≡ 80 ∷ digit_of spelling ∷ (numbers ++ (gap ++ rest))
  pub are : AreNumbers is_gap numbers (width ∷ height ∷ [])
  pub is : IsTrue (is_gap gap)
  pub maxval : rest ≡ digits ++ behind
  pub number : IsTrue (is_number digits)
  pub space : IsTrue (begins is_space behind)
  pub size : IsSizeWithin sought.extent width height
  pub other_role : sought.role ≢ Phase
  pub refused : HasMaxval sought.role (capped_number digits) → ⊥

-- The header is good; then so many good samples stand, in `samples`, fewer than there are pixels or all, and then `rest`.
pub record HasSamples (spelling : Spelling) (sought : Sought) (bytes samples values rest : List ℕ) (maxval pixels : ℕ) : Type 0 where
  pub width : ℕ
  pub height : ℕ
  pub header : HasHeader spelling bytes width height maxval (samples ++ rest)
  pub size : IsSizeWithin sought.extent width height
  pub pixels_are : pixels ≡ width * height
  pub fits : HasMaxval sought.role maxval
  pub below : All (λ v. v ≤ maxval) values

-- A plain raster breaks where `rest` begins: after some samples and white space, none of it after the last sample.
pub record BreaksInRaster (sought : Sought) (bytes rest : List ℕ) : Type 0 where
  pub samples : List ℕ
  pub values : List ℕ
  pub blank : List ℕ
  pub byte : ℕ
  pub behind : List ℕ
  pub maxval : ℕ
  pub pixels : ℕ
  pub good : HasSamples Plain sought bytes samples values (blank ++ rest) maxval pixels
  pub are : AreNumbers is_blank samples values
  pub some : length values ≤ pixels
  pub blanks : IsTrue (list_all is_space blank)
  pub last : length values ≡ pixels → blank ≡ []
  pub stands : rest ≡ byte ∷ behind
  pub no_space : is_space byte ≡ false
  pub no_digit : is_digit byte ≡ false

-- a sample has ended where these bytes follow
abbrev pub HasEnded : Spelling → List ℕ → Type 0
HasEnded Raw rest = ⊤
HasEnded Plain rest = begins is_digit rest ≡ false

-- After so many good samples stands one that is above maxval.
pub record IsAbove (sought : Sought) (bytes : List ℕ) (index value : ℕ) : Type 0 where
  pub spelling : Spelling
  pub samples : List ℕ
  pub values : List ℕ
  pub rest : List ℕ
  pub maxval : ℕ
  pub pixels : ℕ
  pub good : HasSamples spelling sought bytes samples values rest maxval pixels
  pub are : AreSamples spelling maxval samples (values ++ value ∷ [])
  pub ended : HasEnded spelling rest
  pub place : index ≡ length values
  pub some : index < pixels
  pub above : maxval < value

-- less than a sample
abbrev pub IsPartOfSample : Spelling → ℕ → List ℕ → Type 0
IsPartOfSample Raw maxval part = length part < (if is_wide maxval then 2 else 1)
IsPartOfSample Plain maxval part = IsTrue (list_all is_space part)

-- The input ends after so many good samples and less than another.
pub record IsShort (sought : Sought) (bytes : List ℕ) (found : ℕ) : Type 0 where
  pub spelling : Spelling
  pub samples : List ℕ
  pub values : List ℕ
  pub part : List ℕ
  pub maxval : ℕ
  pub pixels : ℕ
  pub good : HasSamples spelling sought bytes samples values part maxval pixels
  pub are : AreSamples spelling maxval samples values
  pub cut : IsPartOfSample spelling maxval part
  pub count : found ≡ length values
  pub some : found < pixels

-- The size is good and the role is phase, but maxval is another than 65535.
pub record HasOtherMaxval (sought : Sought) (bytes : List ℕ) (maxval : ℕ) : Type 0 where
  pub spelling : Spelling
  pub width : ℕ
  pub height : ℕ
  pub behind : List ℕ
  pub header : HasHeader spelling bytes width height maxval behind
  pub size : IsSizeWithin sought.extent width height
  pub phase : sought.role ≡ Phase
  pub other : maxval ≢ max_sample

-- The header was read, and its size is beyond the limits.
pub record HasSizeBeyond (sought : Sought) (bytes : List ℕ) (width height : ℕ) : Type 0 where
  pub spelling : Spelling
  pub maxval : ℕ
  pub behind : List ℕ
  pub header : HasHeader spelling bytes width height maxval behind
  pub beyond : ¬ IsSizeWithin sought.extent width height

-- the first break, by its kind
abbrev pub SoughtBreak : Sought → ℕ → List ℕ → PlaneFault → Type 0
SoughtBreak sought at bytes Magic = HasNoMagic bytes
SoughtBreak sought at bytes (Form place) = (rest : List ℕ) × (at + length bytes ≡ place + length rest) × (BreaksInHeader bytes rest ⊎ (BreaksAtMaxval sought bytes rest ⊎ BreaksInRaster sought bytes rest))
SoughtBreak sought at bytes (Size width height) = HasSizeBeyond sought bytes width height
SoughtBreak sought at bytes (PhaseMaxval maxval) = HasOtherMaxval sought bytes maxval
SoughtBreak sought at bytes (SampleAbove index value) = IsAbove sought bytes index value
SoughtBreak sought at bytes (Short found) = IsShort sought bytes found

-- the same of a raster that may have tiles
abbrev pub FirstBreak : Role → ℕ → List ℕ → PlaneFault → Type 0
FirstBreak role at bytes fault = SoughtBreak (sought_within Tiled role) at bytes fault
