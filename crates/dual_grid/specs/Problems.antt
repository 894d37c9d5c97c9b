-- What a tile asks of its corrections and faces: weights and residues as lists hold them, and lists that answer.
use Rattle.std.specs.Prelude.{◌≡◌, ℕ, ◌+◌, ◌*◌, ◌≤◌, ℤ, pos, neg_ℤ, ◌-ℤ◌, ◌*ℤ◌, Bool, List, length, slice_index_or, unsigned_abs}
use Rattle.raster_model.specs.declared.edge.Edge.{Edge}
use Rattle.raster_model.specs.declared.tiling.Window.{Window}
use Rattle.raster_model.specs.Sums.{Field, down_edge, right_edge}
use Rattle.raster_model.specs.Raster.{Raster, masked_weight, over, residue, steps}
use Rattle.wrapped_gradient.specs.declared.corrections.Corrections.{Corrections}
use Rattle.wrapped_gradient.specs.Corrections.{HasShapeOf, correction_at}
use Rattle.wrapped_gradient.specs.Windows.{IsCellOf, IsEdgeOf, edge_value, round}
use Rattle.dual_grid.specs.declared.problem.Problem.{Problem}
use Rattle.dual_grid.specs.Answers.{AreCertifiedOver}
use Rattle.dual_grid.specs.Nodes.{cells_of, first_side, node_at, other_side}
use Rattle.dual_grid.specs.Starts.{TellsMask, open_in_window}

-- the weight that is held for an edge, and the residue that is held for a cell
abbrev pub weight_at : Problem → Edge → ℤ
weight_at problem = edge_value problem.window problem.right.items problem.down.items

abbrev pub problem_residue : Problem → Field ℤ
problem_residue problem x y = slice_index_or problem.residues.items (node_at problem.window x y) (pos 0)

-- the problem of a window of a raster; the list tells of each pixel of the window whether it is open
pub record IsProblemOf (raster : Raster) (v : Window) (unmasked : List Bool) (problem : Problem) : Type 0 where
  pub window : problem.window ≡ v
  pub steep : problem.steep ≡ raster.steep
  pub weights : (e : Edge) → IsEdgeOf problem.window e → weight_at problem e ≡ pos (masked_weight raster (open_in_window problem.window unmasked) e)
  pub residues : (x y : ℕ) → IsCellOf problem.window x y → problem_residue problem x y ≡ residue raster x y

-- the weights of the right edge and of the down edge that start at a pixel of a window, under the mask that the list tells
abbrev pub right_edge_weights : Raster → Window → List Bool → Field ℤ
right_edge_weights raster v unmasked x y = pos (masked_weight raster (open_in_window v unmasked) (right_edge x y))

abbrev pub down_edge_weights : Raster → Window → List Bool → Field ℤ
down_edge_weights raster v unmasked x y = pos (masked_weight raster (open_in_window v unmasked) (down_edge x y))

-- the face of a node in a list of faces, which is 0 for the outside
abbrev pub face_of : List ℤ → ℕ → ℤ
face_of faces u = slice_index_or faces u (pos 0)

-- a difference of faces is at most the steepness times the weight, and correction times difference is the most that it can be: what the correction costs, and that by which the difference is above the weight
pub record IsTight (steep weight : ℕ) (difference correction : ℤ) : Type 0 where
  pub within : unsigned_abs difference ≤ steep * weight
  pub whole : correction *ℤ difference ≡ pos (weight * steps steep correction + over weight difference)

-- this holds across an edge
abbrev pub IsTightAt : Problem → Corrections → List ℤ → Edge → Type 0
IsTightAt problem corrections faces edge = IsTight problem.steep (unsigned_abs (weight_at problem edge)) (face_of faces (first_side problem.window edge) -ℤ face_of faces (other_side problem.window edge)) (correction_at problem.window corrections edge)

-- the corrections around a cell cancel its residue
abbrev pub IsCancelled : Problem → Corrections → ℕ → ℕ → Type 0
IsCancelled problem corrections x y = round (correction_at problem.window corrections) x y ≡ neg_ℤ (problem_residue problem x y)

-- the lists have their lengths
abbrev pub HaveShape : Problem → Corrections → List ℤ → Type 0
HaveShape problem corrections faces = HasShapeOf problem.window corrections × (length faces ≡ cells_of problem.window)

-- no number of the list is above the bound on either side of 0
abbrev pub AreSmallNumbers : ℕ → List ℤ → Type 0
AreSmallNumbers bound zs = (i : ℕ) → unsigned_abs (slice_index_or zs i (pos 0)) ≤ bound

-- corrections and a list of faces that are an answer for each window of which this is the problem
abbrev pub IsAnsweredBy : Problem → Corrections → List ℤ → Type 0
IsAnsweredBy problem corrections faces = (raster : Raster) (v : Window) (unmasked : List Bool) (mask : Field Bool) → IsProblemOf raster v unmasked problem → TellsMask v unmasked mask → AreCertifiedOver raster mask v corrections faces
