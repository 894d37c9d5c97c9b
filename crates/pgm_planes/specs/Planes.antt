-- PGM planes as bytes: pgm(5), "The Format".
use Rattle.std.specs.Prelude.{◌≡◌, ℕ, ◌+◌, ◌*◌, ◌≤◌, nat_lt, Bool, true, false, IsTrue, List, [], ◌∷◌, ◌++◌, length, All}
use Rattle.std.specs.List.{list_all}
use Rattle.raster_model.specs.declared.plane.Plane.{Plane}
use Rattle.pgm_planes.specs.declared.fault.Role.{Role}
use Rattle.pgm_planes.specs.declared.fault.Role.TheVariants.{Phase, Weight, Mask}
use Rattle.pgm_planes.specs.declared.extent.Extent.{Extent}
use Rattle.pgm_planes.specs.declared.extent.Extent.TheVariants.{Tiled, Whole}
use Rattle.pgm_planes.specs.declared.header.TheConstants.{MAX_SAMPLE}
use Rattle.pgm_planes.specs.declared.spelling.Spelling.{Spelling}
use Rattle.pgm_planes.specs.declared.spelling.Spelling.TheVariants.{Raw, Plain}
use Rattle.pgm_planes.specs.Gaps.{is_space, is_gap, is_blank, is_number, capped_number, begins}
use Rattle.raster_model.specs.Limits.{max_pixels, max_side, max_tiled_pixels, max_tiled_side}

-- a plane without where its samples lie in memory
pub record PlaneOf : Type 0 where
  pub width : ℕ
  pub height : ℕ
  pub maxval : ℕ
  pub samples : List ℕ

abbrev pub plane_of : Plane → PlaneOf
plane_of p = record { width = p.width; height = p.height; maxval = p.maxval; samples = p.samples.items }

-- the most that a sample may be
abbrev pub max_sample : ℕ
max_sample = MAX_SAMPLE

-- a phase plane has the maxval 65535, and the others any from 1 to 65535
abbrev pub HasMaxval : Role → ℕ → Type 0
HasMaxval Phase maxval = maxval ≡ max_sample
HasMaxval Weight maxval = (1 ≤ maxval) × (maxval ≤ max_sample)
HasMaxval Mask maxval = (1 ≤ maxval) × (maxval ≤ max_sample)

-- the most pixels along a side of a raster of this extent, and in all
abbrev pub max_side_within : Extent → ℕ
max_side_within Tiled = max_tiled_side
max_side_within Whole = max_side

abbrev pub max_pixels_within : Extent → ℕ
max_pixels_within Tiled = max_tiled_pixels
max_pixels_within Whole = max_pixels

-- sides from 1 to the most of the extent, and no more pixels than that
pub record IsSizeWithin (extent : Extent) (width height : ℕ) : Type 0 where
  pub across : (1 ≤ width) × (width ≤ max_side_within extent)
  pub along : (1 ≤ height) × (height ≤ max_side_within extent)
  pub pixels : width * height ≤ max_pixels_within extent

-- sides from 1 to 4,096, and at most 4,194,304 pixels
abbrev pub IsSize : ℕ → ℕ → Type 0
IsSize width height = IsSizeWithin Tiled width height

-- which plane is sought: what for, and how large it may be
pub record Sought : Type 0 where
  pub role : Role
  pub extent : Extent

abbrev pub sought_within : Extent → Role → Sought
sought_within extent role = record { role = role; extent = extent }

-- a size within the limits, a maxval of the role, a sample for each pixel, none above maxval
pub record IsSoughtPlane (sought : Sought) (p : PlaneOf) : Type 0 where
  pub size : IsSizeWithin sought.extent p.width p.height
  pub maxval : HasMaxval sought.role p.maxval
  pub count : length p.samples ≡ p.width * p.height
  pub samples : All (λ v. v ≤ p.maxval) p.samples

-- Numbers one after the other, each after a gap that passes the test.
abbrev pub AreNumbers : (List ℕ → Bool) → List ℕ → List ℕ → Type 0
AreNumbers gaps bytes [] = bytes ≡ []
AreNumbers gaps bytes (n ∷ ns) = (gap : List ℕ) × (digits : List ℕ) × (others : List ℕ) × (bytes ≡ gap ++ (digits ++ others)) × IsTrue (gaps gap) × IsTrue (is_number digits) × (n ≡ capped_number digits) × AreNumbers gaps others ns

-- the second byte of the magic: P5 is a raw plane and P2 a plain one
abbrev pub digit_of : Spelling → ℕ
digit_of Raw = 53
digit_of Plain = 50

-- The bytes begin with the magic, the width, the height and maxval, and then stands `behind`, whose first byte is white space.
pub record HasHeader (spelling : Spelling) (bytes : List ℕ) (width height maxval : ℕ) (behind : List ℕ) : Type 0 where
  pub numbers : List ℕ
  pub whole : bytes ≡ 80 ∷ digit_of spelling ∷ (numbers ++ behind)
  pub are : AreNumbers is_gap numbers (width ∷ height ∷ maxval ∷ [])
  pub space : IsTrue (begins is_space behind)

-- Samples of a raw raster: one byte each (false), or two, the most significant first (true).
abbrev pub IsRaster : Bool → List ℕ → List ℕ → Type 0
IsRaster wide bytes [] = bytes ≡ []
IsRaster wide [] (v ∷ vs) = ⊥
IsRaster false (b ∷ bytes) (v ∷ vs) = (v ≡ b) × IsRaster false bytes vs
IsRaster true (high ∷ []) (v ∷ vs) = ⊥
IsRaster true (high ∷ low ∷ bytes) (v ∷ vs) = (v ≡ 256 * high + low) × IsRaster true bytes vs

-- a sample is two bytes where maxval is from 256 on
abbrev pub is_wide : ℕ → Bool
is_wide maxval = nat_lt 255 maxval

-- The white space byte after maxval, and samples. In a plain raster each sample is a number after white space, and the
-- first one's begins with the byte after maxval.
abbrev pub AreSamples : Spelling → ℕ → List ℕ → List ℕ → Type 0
AreSamples Raw maxval bytes vs = (space : ℕ) × (raster : List ℕ) × (bytes ≡ space ∷ raster) × IsTrue (is_space space) × IsRaster (is_wide maxval) raster vs
AreSamples Plain maxval bytes vs = AreNumbers is_blank bytes vs

-- What of white space belongs to the plane after its last sample, and what may follow: after a plain sample white space
-- or the end, and all white space there is taken.
abbrev pub IsPlaneEnd : Spelling → List ℕ → List ℕ → Type 0
IsPlaneEnd Raw blank rest = blank ≡ []
IsPlaneEnd Plain blank rest = IsTrue (list_all is_space blank) × (begins is_space rest ≡ false) × (blank ≡ [] → rest ≡ [])

-- The bytes spell a plane, where `rest` follows: the header, the samples and the end.
pub record IsSoughtText (spelling : Spelling) (sought : Sought) (bytes : List ℕ) (p : PlaneOf) (rest : List ℕ) : Type 0 where
  pub samples : List ℕ
  pub end : List ℕ
  pub header : HasHeader spelling bytes p.width p.height p.maxval (samples ++ end)
  pub raster : AreSamples spelling p.maxval samples p.samples
  pub ended : IsPlaneEnd spelling end rest
  pub plane : IsSoughtPlane sought p

-- the bytes spell a plane in either way, where `rest` follows
abbrev pub SpellsSought : Sought → List ℕ → PlaneOf → List ℕ → Type 0
SpellsSought sought bytes p rest = (spelling : Spelling) × IsSoughtText spelling sought bytes p rest

-- the bytes are a plane's text and then `rest`
abbrev pub IsSoughtIn : Sought → List ℕ → PlaneOf → List ℕ → Type 0
IsSoughtIn sought bytes p rest = (text : List ℕ) × (bytes ≡ text ++ rest) × SpellsSought sought text p rest

-- ---- the same of a raster that may have tiles

abbrev pub IsPlane : Role → PlaneOf → Type 0
IsPlane role p = IsSoughtPlane (sought_within Tiled role) p

abbrev pub IsPlaneText : Spelling → Role → List ℕ → PlaneOf → List ℕ → Type 0
IsPlaneText spelling role bytes p rest = IsSoughtText spelling (sought_within Tiled role) bytes p rest

abbrev pub SpellsPlane : Role → List ℕ → PlaneOf → List ℕ → Type 0
SpellsPlane role bytes p rest = SpellsSought (sought_within Tiled role) bytes p rest

abbrev pub IsPlaneIn : Role → List ℕ → PlaneOf → List ℕ → Type 0
IsPlaneIn role bytes p rest = IsSoughtIn (sought_within Tiled role) bytes p rest
