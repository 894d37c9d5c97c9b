-- Bytes that are judged at their end: a reader of them asks for a byte after the last one.
use Rattle.std.specs.Prelude.{◌≡◌, ℕ, ◌<◌, List, [], length, ◌⊎◌}
use Rattle.pgm_planes.specs.declared.extent.Extent.TheVariants.{Tiled}
use Rattle.pgm_planes.specs.declared.fault.Role.{Role}
use Rattle.pgm_planes.specs.declared.spelling.Spelling.TheVariants.{Plain}
use Rattle.pgm_planes.specs.Planes.{Sought, sought_within, PlaneOf, IsSoughtText}
use Rattle.pgm_planes.specs.Breaks.{BreaksInHeader, IsAbove, IsShort}

-- the digits of a plain sample that is above maxval end with the bytes
pub record EndsAbove (sought : Sought) (bytes : List ℕ) : Type 0 where
  pub index : ℕ
  pub value : ℕ
  pub sample : IsAbove sought bytes index value
  pub plain : sample.spelling ≡ Plain
  pub ended : sample.rest ≡ []

-- samples are missing; or a plain sample ends with the bytes, which is above maxval or the last, perhaps after more digits or white space
abbrev pub EndsInRaster : Sought → List ℕ → Type 0
EndsInRaster sought bytes = ((found : ℕ) × IsShort sought bytes found) ⊎ (EndsAbove sought bytes ⊎ ((plane : PlaneOf) × IsSoughtText Plain sought bytes plane []))

-- the magic is judged at its second byte, a header and a raster at the byte after each of their numbers
abbrev pub SoughtAsks : Sought → List ℕ → Type 0
SoughtAsks sought bytes = (length bytes < 2) ⊎ (BreaksInHeader bytes [] ⊎ EndsInRaster sought bytes)

-- the same of a raster that may have tiles
abbrev pub AsksForMore : Role → List ℕ → Type 0
AsksForMore role bytes = SoughtAsks (sought_within Tiled role) bytes
