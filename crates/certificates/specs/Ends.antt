-- A table of where tiles end. Helpers' words, which no clause of a public function cites.
use Rattle.std.specs.Prelude.{◌≡◌, ℕ, ◌+◌, ◌%◌, ◌<◌, ◌≤◌, ◌==◌, Bool, if◌then◌else◌, List, slice_index_or}
use Rattle.raster_model.specs.declared.edge.Edge.{Edge}

-- the list says of each of the first n columns or rows whether it is the last of its tiles, if tiles have this side
abbrev pub TellsEnds : ℕ → ℕ → List Bool → Type 0
TellsEnds side n last = (k : ℕ) → k < n → slice_index_or last k Bool.false ≡ ((k + 1) % side == 0)

-- an edge leads beyond a multiple of the side
abbrev pub passes_end : ℕ → Edge → Bool
passes_end side edge = if edge.down then (edge.y + 1) % side == 0 else (edge.x + 1) % side == 0

-- no edge that starts in row y, from column a to before column b, leads beyond such a multiple
abbrev pub PassNoEnd : ℕ → ℕ → ℕ → ℕ → Type 0
PassNoEnd side a b y = (edge : Edge) → edge.y ≡ y → a ≤ edge.x → edge.x < b → passes_end side edge ≡ Bool.false
