-- The order of edges, and the first edge at which a fact fails.
use Rattle.std.specs.Prelude.{◌≡◌, ◌⊎◌, true, false}
use Rattle.raster_model.specs.declared.edge.Edge.{Edge}
use Rattle.raster_model.specs.Seams.{IsEarlier}

-- edge d comes before edge e in edge order: by the row order of their first pixels, and at one pixel the right edge before the down edge
abbrev pub ComesBefore : Edge → Edge → Type 0
ComesBefore d e = IsEarlier d.x d.y e.x e.y ⊎ ((d.x ≡ e.x) × (d.y ≡ e.y) × (d.down ≡ false) × (e.down ≡ true))

-- the fact holds at each edge of a part of the edges
abbrev pub HoldsAtAll : (Edge → Type 0) → (Edge → Type 0) → Type 0
HoldsAtAll Part Fact = (e : Edge) → Part e → Fact e

-- e is the first edge of the part at which the fact does not hold
pub record IsFirstBreak (Part Fact : Edge → Type 0) (e : Edge) : Type 0 where
  pub edge : Part e
  pub breaks : Fact e → ⊥
  pub first : (d : Edge) → Part d → ComesBefore d e → Fact d
