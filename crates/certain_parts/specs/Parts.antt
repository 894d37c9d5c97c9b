-- Parts of a raster in which all surfaces of nearly the least cost agree, up to whole cycles that are one constant.
use Rattle.std.specs.Prelude.{ℕ, pos, ◌<ℤ◌, IsTrue, int_lt}
use Rattle.raster_model.specs.declared.edge.Edge.{Edge}
use Rattle.raster_model.specs.Sums.{is_edge}
use Rattle.raster_model.specs.Raster.{has_open_ends}
use Rattle.joined_cells.specs.Joining.{AreJoinedBy, Joining}
use Rattle.certain_parts.specs.Margins.{Faced, margin}

-- an edge with open ends whose margin is above the limit
pub record IsCertainEdge (faced : Faced) (limit : ℕ) (edge : Edge) : Type 0 where
  pub inside : IsTrue (is_edge faced.raster.width faced.raster.height edge)
  pub unmasked : IsTrue (has_open_ends faced.mask edge)
  pub certain : pos limit <ℤ margin faced edge

-- such edges join their ends
abbrev pub parts_joined : Faced → ℕ → Joining
parts_joined faced limit = record { width = faced.raster.width; height = faced.raster.height; mask = faced.mask; passes = λ e. int_lt (pos limit) (margin faced e) }

-- the pixel (x, y) and another are in one part: a walk over such edges, in either direction, joins them
abbrev pub AreInOnePart : Faced → ℕ → ℕ → ℕ → ℕ → ℕ → Type 0
AreInOnePart faced limit x y a b = AreJoinedBy (parts_joined faced limit) x y a b
