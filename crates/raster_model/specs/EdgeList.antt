-- The edges of a raster in edge order, as a list. The sums over edges are sums over this list.
use Rattle.std.specs.Prelude.{◌≡◌, ℕ, zero, suc, ◌+◌, ℤ, pos, ◌+ℤ◌, List, [], ◌∷◌, ◌++◌, nat_lt, if◌then◌else◌}
use Rattle.raster_model.specs.declared.edge.Edge.{Edge}
use Rattle.raster_model.specs.Sums.{right_edge, down_edge, sum_edges}

-- the edges that start at a pixel: the right one, then the down one
abbrev pub edges_at : ℕ → ℕ → ℕ → ℕ → List Edge
edges_at width height x y = (if nat_lt (x + 1) width then right_edge x y ∷ [] else []) ++ (if nat_lt (y + 1) height then down_edge x y ∷ [] else [])

-- those that start at the first x pixels of row y, and those of the first y rows
unfoldable pub edges_in_row : ℕ → ℕ → ℕ → ℕ → List Edge
edges_in_row width height y zero = []
edges_in_row width height y (suc x) = edges_in_row width height y x ++ edges_at width height x y

unfoldable pub edges_in_rows : ℕ → ℕ → ℕ → List Edge
edges_in_rows width height zero = []
edges_in_rows width height (suc y) = edges_in_rows width height y ++ edges_in_row width height y width

abbrev pub edge_list : ℕ → ℕ → List Edge
edge_list width height = edges_in_rows width height height

unfoldable pub list_sum : (Edge → ℤ) → List Edge → ℤ
list_sum F [] = pos 0
list_sum F (e ∷ es) = F e +ℤ list_sum F es

-- the sums over edges are the sums over the list, each edge of the raster once
abbrev pub SumsTheList : Type 0
SumsTheList = (width h : ℕ) (F : Edge → ℤ) → sum_edges width h F ≡ list_sum F (edge_list width h)
