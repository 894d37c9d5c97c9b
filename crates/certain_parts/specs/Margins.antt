-- How much more than a certified surface any other surface costs, edge by edge.
use Rattle.std.specs.Prelude.{ℕ, ◌*◌, ℤ, pos, ◌+ℤ◌, ◌-ℤ◌, ◌*ℤ◌, Bool}
use Rattle.std.specs.Int.{int_min}
use Rattle.sums_and_lists.specs.Sums.{where_true}
use Rattle.raster_model.specs.declared.edge.Edge.{Edge}
use Rattle.raster_model.specs.Sums.{Field}
use Rattle.raster_model.specs.Raster.{Raster, IsCongruent, departure, has_open_ends, masked_weight, over, steps}
use Rattle.raster_model.specs.Certificates.{IsTileCertificate, face_difference, faces_of_tile}
use Rattle.raster_model.specs.Whole.{whole_of}

-- a surface of a raster under a mask, and a face for each cell
pub record Faced : Type 0 where
  pub raster : Raster
  pub mask : Field Bool
  pub surface : Field ℤ
  pub faces : Field ℤ

-- the faces certify the surface over the whole raster
pub record IsCertified (faced : Faced) : Type 0 where
  pub congruent : IsCongruent faced.raster faced.mask faced.surface
  pub certified : IsTileCertificate (whole_of faced.raster) faced.mask 0 faced.surface faced.faces

-- the face on one side of an edge less that on the other, by how much it is above the weight, and the cycles by which the surface departs there
abbrev pub face_step : Faced → Edge → ℤ
face_step faced edge = face_difference (faces_of_tile (whole_of faced.raster) 0 faced.faces) edge

abbrev pub above_weight : Faced → Edge → ℕ
above_weight faced edge = over (masked_weight faced.raster faced.mask edge) (face_step faced edge)

abbrev pub departure_at : Faced → Edge → ℤ
departure_at faced edge = departure faced.raster faced.surface edge

-- the excess of a departure of j cycles at an edge: what it costs, less its part of what the faces prove
abbrev pub excess : Faced → Edge → ℤ → ℤ
excess faced edge j = pos (masked_weight faced.raster faced.mask edge * steps faced.raster.steep j) -ℤ face_step faced edge *ℤ j +ℤ pos (above_weight faced edge)

-- the margin of an edge: the lesser excess of one cycle more and of one less than the surface has there
abbrev pub margin : Faced → Edge → ℤ
margin faced edge = int_min (excess faced edge (departure_at faced edge +ℤ pos 1)) (excess faced edge (departure_at faced edge -ℤ pos 1))

-- what an edge with open ends adds to what another surface costs more
abbrev pub extra_cost : Faced → Field ℤ → Edge → ℤ
extra_cost faced other edge = where_true (has_open_ends faced.mask edge) (excess faced edge (departure faced.raster other edge))
