-- Sums of whole numbers over a grid of pixels, and over the edges of a raster.
use Rattle.std.specs.Prelude.{ℕ, ◌+◌, ℤ, ◌+ℤ◌, nat_lt, Bool, ◌&&◌, if◌then◌else◌}
use Rattle.sums_and_lists.specs.Sums.{sum_below, where_true}
use Rattle.raster_model.specs.declared.edge.Edge.{Edge}

-- a value at each pixel: x from the left, y from the top
abbrev pub Field : Type 0 → Type 0
Field A = ℕ → ℕ → A

-- the sum of the first w values of row y, and of the first h such rows
abbrev pub sum_row : ℕ → Field ℤ → ℕ → ℤ
sum_row w f y = sum_below w (λ x. f x y)

abbrev pub sum_grid : ℕ → ℕ → Field ℤ → ℤ
sum_grid width height f = sum_below height (sum_row width f)

-- what a field has at the first end of an edge, and at the other
abbrev pub at_edge_start : {A : Type 0} → Field A → Edge → A
at_edge_start f edge = f edge.x edge.y

abbrev pub end_x : Edge → ℕ
end_x edge = if edge.down then edge.x else edge.x + 1

abbrev pub end_y : Edge → ℕ
end_y edge = if edge.down then edge.y + 1 else edge.y

abbrev pub at_edge_end : {A : Type 0} → Field A → Edge → A
at_edge_end f edge = f (end_x edge) (end_y edge)

-- a pixel of a raster of w by h pixels
abbrev pub is_pixel : ℕ → ℕ → Field Bool
is_pixel width height x y = nat_lt x width && nat_lt y height

-- an edge of that raster: both ends are pixels of it
abbrev pub is_edge : ℕ → ℕ → Edge → Bool
is_edge width height edge = at_edge_start (is_pixel width height) edge && at_edge_end (is_pixel width height) edge

-- the edges that start at a pixel
abbrev pub right_edge : ℕ → ℕ → Edge
right_edge x y = record { x = x; y = y; down = Bool.false }

abbrev pub down_edge : ℕ → ℕ → Edge
down_edge x y = record { x = x; y = y; down = Bool.true }

-- what the edges that start at a pixel of a raster of w by h pixels add: its right edge, where it has one, and its down edge
abbrev pub edges_from : ℕ → ℕ → (Edge → ℤ) → Field ℤ
edges_from width height F x y = where_true (nat_lt (x + 1) width) (F (right_edge x y)) +ℤ where_true (nat_lt (y + 1) height) (F (down_edge x y))

-- the sum of F e over the edges e of that raster, in edge order
abbrev pub sum_edges : ℕ → ℕ → (Edge → ℤ) → ℤ
sum_edges width height F = sum_grid width height (edges_from width height F)
