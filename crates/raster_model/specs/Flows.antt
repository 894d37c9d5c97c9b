-- Flows as a list: one number for each seam edge, in edge order.
use Rattle.std.specs.Prelude.{◌≡◌, ℕ, ◌+◌, ℤ, pos, List, length, slice_index_or, Bool, ◌&&◌, if◌then◌else◌}
use Rattle.raster_model.specs.declared.edge.Edge.{Edge}
use Rattle.raster_model.specs.Sums.{Field, is_edge, right_edge, down_edge}
use Rattle.raster_model.specs.Raster.{Raster, is_seam}
use Rattle.raster_model.specs.Seams.{IsSeamCertificate}
use Rattle.sums_and_lists.specs.Sums.{count_below, one_if}

abbrev pub is_seam_edge : Raster → Edge → Bool
is_seam_edge raster edge = is_edge raster.width raster.height edge && is_seam raster edge

-- how many seam edges start at a pixel, in the first x pixels of row y, and before (x, y) in row order
abbrev pub seams_from : Raster → Field ℕ
seams_from raster x y = one_if (is_seam_edge raster (right_edge x y)) + one_if (is_seam_edge raster (down_edge x y))

abbrev pub seams_in_row : Raster → Field ℕ
seams_in_row raster x y = count_below x (λ i. seams_from raster i y)

abbrev pub seams_before : Raster → Field ℕ
seams_before raster x y = count_below y (seams_in_row raster raster.width) + seams_in_row raster x y

-- how many there are, and how many come before an edge in edge order
unfoldable pub seam_count : Raster → ℕ
seam_count raster = seams_before raster 0 raster.height

unfoldable pub seam_place : Raster → Edge → ℕ
seam_place raster edge = seams_before raster edge.x edge.y + (if edge.down then one_if (is_seam_edge raster (right_edge edge.x edge.y)) else 0)

-- the flow that a list has at a seam edge
unfoldable pub flow_at : Raster → List ℤ → Edge → ℤ
flow_at raster flows edge = slice_index_or flows (seam_place raster edge) (pos 0)

-- the list certifies the seams: it has one number for each, and they certify
abbrev pub AreCertifiedSeams : Raster → Field Bool → Field ℤ → List ℤ → Type 0
AreCertifiedSeams raster mask S flows = (length flows ≡ seam_count raster) × IsSeamCertificate raster mask S (flow_at raster flows)
