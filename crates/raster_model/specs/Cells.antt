-- Faces as a list: one number for each cell of the tile, in row order.
use Rattle.std.specs.Prelude.{◌≡◌, ℕ, ◌+◌, ℤ, pos, List, length, slice_index_or, Bool}
use Rattle.raster_model.specs.Sums.{Field}
use Rattle.raster_model.specs.Raster.{Raster}
use Rattle.raster_model.specs.Certificates.{is_cell, IsTileCertificate}
use Rattle.sums_and_lists.specs.Sums.{count_below, one_if}

-- how many cells of tile t there are among the first x of row y, and before (x, y) in row order
abbrev pub cells_in_row : Raster → ℕ → Field ℕ
cells_in_row raster tile x y = count_below x (λ i. one_if (is_cell raster tile i y))

abbrev pub cells_before : Raster → ℕ → Field ℕ
cells_before raster tile x y = count_below y (cells_in_row raster tile raster.width) + cells_in_row raster tile x y

-- how many there are
unfoldable pub cell_count : Raster → ℕ → ℕ
cell_count raster tile = cells_before raster tile 0 raster.height

-- the face that a list has at a cell
unfoldable pub face_at : Raster → ℕ → List ℤ → Field ℤ
face_at raster tile faces x y = slice_index_or faces (cells_before raster tile x y) (pos 0)

-- the list certifies the tile: it has one number for each of its cells, and they certify
abbrev pub IsCertifiedTile : Raster → Field Bool → ℕ → Field ℤ → List ℤ → Type 0
IsCertifiedTile raster mask tile S faces = (length faces ≡ cell_count raster tile) × IsTileCertificate raster mask tile S (face_at raster tile faces)
