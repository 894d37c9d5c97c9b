-- The nodes of a window's network and the arcs across its edges (Costantini 1998). Coordinates count in the raster. Nodes
-- are the window's cells in row order, and then one for all that is outside. Each edge lies between two nodes.
use Rattle.std.specs.Prelude.{ℕ, ◌+◌, ◌-◌, ◌*◌, ◌/◌, ◌%◌, Bool, ◌&&◌, if◌then◌else◌, nat_lt, nat_le}
use Rattle.raster_model.specs.declared.edge.Edge.{Edge}
use Rattle.raster_model.specs.declared.tiling.Window.{Window}
use Rattle.raster_model.specs.Sums.{Field, right_edge, down_edge}
use Rattle.raster_model.specs.Tiles.{width_of, height_of, place_in}

-- how many cells the window has, which is also the node of the outside
abbrev pub cells_of : Window → ℕ
cells_of window = (window.y1 - window.y0) * (window.x1 - window.x0)

-- (x, y) is the upper left corner of a cell of the window
abbrev pub is_cell_of : Window → Field Bool
is_cell_of window x y = nat_le window.x0 x && nat_lt x window.x1 && nat_le window.y0 y && nat_lt y window.y1

-- the node of the cell with the upper left corner (x, y), or the outside if the window has no such cell
unfoldable pub node_at : Window → Field ℕ
node_at window x y = if is_cell_of window x y then (y - window.y0) * (window.x1 - window.x0) + (x - window.x0) else cells_of window

-- the nodes above (x, y) and to the left of it
unfoldable pub node_above : Window → Field ℕ
node_above window x y = if nat_lt window.y0 y then node_at window x (y - 1) else cells_of window

unfoldable pub node_left : Window → Field ℕ
node_left window x y = if nat_lt window.x0 x then node_at window (x - 1) y else cells_of window

-- the two sides of an edge, in the order of a face difference: above a right edge and below it; right of a down edge and left of it
unfoldable pub first_side : Window → Edge → ℕ
first_side window edge = if edge.down then node_at window edge.x edge.y else node_above window edge.x edge.y

unfoldable pub other_side : Window → Edge → ℕ
other_side window edge = if edge.down then node_left window edge.x edge.y else node_at window edge.x edge.y

-- how many right edges, down edges and edges the window has
abbrev pub rights_of : Window → ℕ
rights_of window = (width_of window - 1) * height_of window

abbrev pub downs_of : Window → ℕ
downs_of window = width_of window * (height_of window - 1)

abbrev pub edges_of : Window → ℕ
edges_of window = rights_of window + downs_of window

-- the number of an edge: right edges in row order, and then down edges in row order
abbrev pub edge_number : Window → Edge → ℕ
edge_number window edge = if edge.down then rights_of window + place_in window edge.x edge.y else (edge.y - window.y0) * (width_of window - 1) + (edge.x - window.x0)

-- the edge with a number
unfoldable pub edge_of : Window → ℕ → Edge
edge_of window n = if nat_lt n (rights_of window) then right_edge (window.x0 + n % (width_of window - 1)) (window.y0 + n / (width_of window - 1)) else down_edge (window.x0 + (n - rights_of window) % width_of window) (window.y0 + (n - rights_of window) / width_of window)
