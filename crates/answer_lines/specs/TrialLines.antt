-- The summary of a session: its pixels, its residues, its open pixels and the least cost of its tiles, in four lines.
use Rattle.std.specs.Prelude.{◌≡◌, ℕ, ◌-◌, ◌*◌, ◌<◌, ℤ, pos, Bool, not, List, [], ◌∷◌, ◌++◌, codes, decimal}
use Rattle.std.specs.Ordering.{int_eq}
use Rattle.raster_model.specs.declared.session.Session.{Session}
use Rattle.raster_model.specs.Best.{tiles_cost}
use Rattle.raster_model.specs.Certificates.{IsLeastInTile}
use Rattle.raster_model.specs.Masks.{open_at}
use Rattle.raster_model.specs.Raster.{Raster, IsCongruent, residue}
use Rattle.raster_model.specs.Scene.{raster_of}
use Rattle.raster_model.specs.Sums.{Field}
use Rattle.sums_and_lists.specs.Sums.{count_below, one_if}

-- how many of the first w places of row y pass a test, and how many of the first h rows' places
abbrev pub count_row : ℕ → Field Bool → ℕ → ℕ
count_row w test y = count_below w (λ x. one_if (test x y))

abbrev pub count_grid : ℕ → ℕ → Field Bool → ℕ
count_grid width height test = count_below height (count_row width test)

-- a cell has a residue other than 0; how many cells of the whole raster have one, and how many pixels are open in the first mask
abbrev pub has_residue : Raster → Field Bool
has_residue raster x y = not (int_eq (residue raster x y) (pos 0))

abbrev pub residues_of : Raster → ℕ
residues_of raster = count_grid (raster.width - 1) (raster.height - 1) (has_residue raster)

abbrev pub open_pixels_of : Session → ℕ
open_pixels_of session = count_grid session.scene.phase.width session.scene.phase.height (open_at session.first_mask)

-- a congruent surface, than which no other costs less in a tile
pub record IsLeastInTiles (raster : Raster) (mask : Field Bool) (S : Field ℤ) : Type 0 where
  pub congruent : IsCongruent raster mask S
  pub least : (t : ℕ) → t < raster.tile_count → IsLeastInTile raster mask t S

-- there is such a surface, and this is what the tiles cost together of each
pub record IsLeastCost (raster : Raster) (mask : Field Bool) (cost : ℕ) : Type 0 where
  pub surface : Field ℤ
  pub is_least : IsLeastInTiles raster mask surface
  pub of_each : (S : Field ℤ) → IsLeastInTiles raster mask S → tiles_cost raster mask S ≡ pos cost

-- a line of a word and a number; the four lines
abbrev pub number_line : List ℕ → ℕ → List ℕ
number_line word n = word ++ (decimal n ++ 10 ∷ [])

unfoldable pub four_lines : ℕ → ℕ → ℕ → ℕ → List ℕ
four_lines pixels residues unmasked cost = number_line (codes "pixels ") pixels ++ (number_line (codes "residues ") residues ++ (number_line (codes "unmasked ") unmasked ++ number_line (codes "cost ") cost))

-- the text is the four lines of a session, by the whole raster, the first mask and the least cost of the tiles
pub record AreLinesOf (session : Session) (text : List ℕ) : Type 0 where
  pub cost : ℕ
  pub least : IsLeastCost (raster_of session.scene) (open_at session.first_mask) cost
  pub spelled : text ≡ four_lines (session.scene.phase.width * session.scene.phase.height) (residues_of (raster_of session.scene)) (open_pixels_of session) cost
