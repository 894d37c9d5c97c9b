-- The weights of edges by a rule over a weight plane, and lists that hold them.
use Rattle.std.specs.Prelude.{◌≡◌, ℕ, ◌+◌, ◌-◌, ◌*◌, ◌/◌, min, IsTrue, if◌then◌else◌, slice_index, vec_len}
use Rattle.raster_model.specs.declared.edge.Edge.{Edge}
use Rattle.raster_model.specs.declared.plane.Plane.{Plane}
use Rattle.raster_model.specs.declared.weights.EdgeWeights.{EdgeWeights}
use Rattle.raster_model.specs.declared.weights.RuleKind.{RuleKind}
use Rattle.raster_model.specs.declared.weights.RuleKind.TheVariants.{Least, Mean, Product}
use Rattle.raster_model.specs.Sums.{at_edge_start, at_edge_end, is_edge}
use Rattle.raster_model.specs.Planes.{plane_sample}

-- the number of a rule over the weights a and b of an edge's ends, with the weight plane's maxval, rounded down
abbrev pub rule_number : RuleKind → ℕ → ℕ → ℕ → ℕ
rule_number Least maxval a b = min a b
rule_number Mean maxval a b = (a + b) / 2
rule_number Product maxval a b = a * b / maxval

-- the weight of an edge before any mask
abbrev pub edge_weight : RuleKind → Plane → Edge → ℕ
edge_weight rule plane edge = rule_number rule plane.maxval (at_edge_start (plane_sample plane) edge) (at_edge_end (plane_sample plane) edge)

-- the number that two lists in row order hold for an edge of a raster that is w pixels wide
abbrev pub stored_weight : ℕ → EdgeWeights → Edge → ℕ
stored_weight w edges edge = if edge.down then slice_index edges.down.items (edge.y * w + edge.x) else slice_index edges.right.items (edge.y * (w - 1) + edge.x)

-- the lists hold a number for each right edge and for each down edge of the plane's raster, and these are the rule's
pub record AreRuleWeights (rule : RuleKind) (plane : Plane) (edges : EdgeWeights) : Type 0 where
  pub rights : vec_len edges.right ≡ (plane.width - 1) * plane.height
  pub downs : vec_len edges.down ≡ plane.width * (plane.height - 1)
  pub weighed : (e : Edge) → IsTrue (is_edge plane.width plane.height e) → stored_weight plane.width edges e ≡ edge_weight rule plane e
