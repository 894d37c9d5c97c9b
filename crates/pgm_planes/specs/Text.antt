-- The text that a plane is written as: pgm(5), "The Format", raw.
use Rattle.std.specs.Prelude.{ℕ, ◌/◌, ◌%◌, Bool, true, false, List, [], ◌∷◌, ◌++◌, codes, decimal, flat_map}
use Rattle.pgm_planes.specs.Planes.{PlaneOf, is_wide}

-- a sample as one byte (false) or as two, the most significant first (true)
abbrev pub sample_text : Bool → ℕ → List ℕ
sample_text false v = v ∷ []
sample_text true v = (v / 256) ∷ (v % 256) ∷ []

abbrev pub raster_text : Bool → List ℕ → List ℕ
raster_text wide samples = flat_map (sample_text wide) samples

-- P5, LF, width, SP, height, LF, maxval, LF
unfoldable pub plane_header_text : ℕ → ℕ → ℕ → List ℕ
plane_header_text width height maxval = codes "P5\n" ++ (decimal width ++ (codes " " ++ (decimal height ++ (codes "\n" ++ (decimal maxval ++ codes "\n")))))

unfoldable pub plane_text : PlaneOf → List ℕ
plane_text plane = plane_header_text plane.width plane.height plane.maxval ++ raster_text (is_wide plane.maxval) plane.samples
