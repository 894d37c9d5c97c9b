-- Words of loops over edges in edge order. No clause of a public function cites them.
use Rattle.std.specs.Prelude.{◌≡◌, ℕ}
use Rattle.raster_model.specs.declared.edge.Edge.{Edge}
use Rattle.raster_model.specs.Seams.{IsEarlier}
use Rattle.certificates.specs.EdgeOrder.{ComesBefore}

-- the fact holds at an edge if the edge belongs to the part; the edge belongs to the part, but the fact does not hold there
abbrev pub HoldsIfPart : (Edge → Type 0) → (Edge → Type 0) → Edge → Type 0
HoldsIfPart Part Fact edge = Part edge → Fact edge

abbrev pub IsBreak : (Edge → Type 0) → (Edge → Type 0) → Edge → Type 0
IsBreak Part Fact edge = Part edge × (Fact edge → ⊥)

-- the fact holds at the part's edges that start at a pixel; it holds at those that start before the pixel in row order
abbrev pub HoldsFrom : (Edge → Type 0) → (Edge → Type 0) → ℕ → ℕ → Type 0
HoldsFrom Part Fact x y = (edge : Edge) → Part edge → edge.x ≡ x → edge.y ≡ y → Fact edge

abbrev pub HoldsBefore : (Edge → Type 0) → (Edge → Type 0) → ℕ → ℕ → Type 0
HoldsBefore Part Fact x y = (edge : Edge) → Part edge → IsEarlier edge.x edge.y x y → Fact edge

-- e is the first of the part's edges that start at a pixel at which the fact does not hold
pub record IsFirstBreakFrom (Part Fact : Edge → Type 0) (x y : ℕ) (edge : Edge) : Type 0 where
  pub place : (edge.x ≡ x) × (edge.y ≡ y)
  pub broken : IsBreak Part Fact edge
  pub first : (d : Edge) → Part d → d.x ≡ x → d.y ≡ y → ComesBefore d edge → Fact d
