-- What the departure and the residue are, with no division.
use Rattle.std.specs.Prelude.{◌≡◌, ℕ, ◌≤◌, ℤ, pos, ◌+ℤ◌, ◌-ℤ◌, ◌*ℤ◌, Bool, IsTrue, unsigned_abs}
use Rattle.raster_model.specs.declared.edge.Edge.{Edge}
use Rattle.raster_model.specs.Sums.{Field, at_edge_start, at_edge_end, is_edge, sum_edges}
use Rattle.raster_model.specs.Certificates.{face_total, face_difference, faces_of_tile}
use Rattle.raster_model.specs.Raster.{Raster, IsCongruent, gradient, round_cell, residue, departure, lifted, cycle_departure, has_open_ends}

-- on an edge with open ends a congruent surface rises by the wrapped difference and the departure's whole cycles
abbrev pub DepartureIsExact : Type 0
DepartureIsExact = (raster : Raster) (mask : Field Bool) (S : Field ℤ) → IsCongruent raster mask S → (edge : Edge) → IsTrue (is_edge raster.width raster.height edge) → IsTrue (has_open_ends mask edge) → at_edge_end S edge -ℤ at_edge_start S edge ≡ gradient raster edge +ℤ pos 65536 *ℤ departure raster S edge

-- a surface of whole cycles above the phase is congruent under any mask, and its departures are those of its cycles
abbrev pub LiftedIsCongruent : Type 0
LiftedIsCongruent = (raster : Raster) (mask : Field Bool) (cycles : Field ℤ) → IsCongruent raster mask (lifted raster cycles)

abbrev pub CyclesDepart : Type 0
CyclesDepart = (raster : Raster) (cycles : Field ℤ) (edge : Edge) → departure raster (lifted raster cycles) edge ≡ cycle_departure raster cycles edge

-- the wrapped differences round a cell sum to as many whole cycles as its residue
abbrev pub ResidueIsExact : Type 0
ResidueIsExact = (raster : Raster) (x y : ℕ) → round_cell raster x y ≡ pos 65536 *ℤ residue raster x y

-- that sum stays within 131070, and the residue is -1, 0 or 1
abbrev pub ResidueIsSmall : Type 0
ResidueIsSmall = (raster : Raster) (x y : ℕ) → (unsigned_abs (round_cell raster x y) ≤ 131070) × (unsigned_abs (residue raster x y) ≤ 1)

-- where no pixel is masked, face times residue over the tile's cells sums to departure times face difference over all edges
abbrev pub FacesMeetDepartures : Type 0
FacesMeetDepartures = (raster : Raster) (S : Field ℤ) → IsCongruent raster (λ x y. Bool.true) S → (tile : ℕ) (f : Field ℤ) → face_total raster tile f ≡ sum_edges raster.width raster.height (λ e. departure raster S e *ℤ face_difference (faces_of_tile raster tile f) e)
