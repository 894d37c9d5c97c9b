-- Labels of pixels, kept tile by tile as runs. Clauses cite `labels_told` and its parts only through `parts_of`, which unfolds into them.
use Rattle.std.specs.Prelude.{◌≡◌, ℕ, ◌+◌, ◌*◌, ◌/◌, ◌%◌, ◌<◌, ◌≤◌, List, [], ◌∷◌, ◌++◌, length, map, slice_get, slice_index, slice_index_or, Option, Some, None, unwrap_or, nat_lt, if◌then◌else◌}
use Rattle.std.specs.List.{range_with_len}
use Rattle.std.specs.List.Sorted.{IsNonDecreasingBy}
use Rattle.std.specs.Arc.{arc_value}
use Rattle.raster_model.specs.declared.tiling.Tiling.{Tiling}
use Rattle.raster_model.specs.Tiles.{place_in, tile_at, window_of}
use Rattle.seam_regions.specs.Regions.{masked_label}
use Rattle.surface_snapshots.specs.declared.runs.Run.{Run}
use Rattle.surface_snapshots.specs.declared.runs.TileRuns.{TileRuns}

-- what is kept of a tile as definitions read it: where its labels begin in the list of those of all tiles, and its runs
pub record RunsView : Type 0 where
  pub first : ℕ
  pub runs : List Run

abbrev pub runs_of : TileRuns → RunsView
runs_of t = record { first = t.first; runs = (arc_value t.runs).items }

-- the number of the first run that ends after a place
abbrev pub run_number : List Run → ℕ → Option ℕ
run_number [] p = None
run_number (r ∷ rs) p = if nat_lt p r.end then Some r.number else run_number rs p

-- the label with that number among those of a tile
abbrev pub label_of : List ℕ → ℕ → Option ℕ → Option ℕ
label_of labels first (Some n) = slice_get labels (first + n)
label_of labels first None = None

abbrev pub label_in : List ℕ → ℕ → List Run → ℕ → Option ℕ
label_in labels first runs p = label_of labels first (run_number runs p)

-- the label at a place of a tile; where there is none, that of masked pixels
abbrev pub label_by : List ℕ → Option RunsView → ℕ → Option ℕ
label_by labels (Some k) p = label_in labels k.first k.runs p
label_by labels None p = None

unfoldable pub label_there : List ℕ → List RunsView → ℕ → ℕ → ℕ
label_there labels tiles tile p = unwrap_or (label_by labels (slice_get tiles tile) p) masked_label

-- the labels of all pixels in row order
unfoldable pub labels_told : Tiling → List ℕ → List RunsView → List ℕ
labels_told tiling labels tiles = map (λ k. label_there labels tiles (tile_at tiling (k % tiling.width) (k / tiling.width)) (place_in (window_of tiling (tile_at tiling (k % tiling.width) (k / tiling.width))) (k % tiling.width) (k / tiling.width))) (range_with_len 0 (tiling.width * tiling.height))

-- no run ends before an earlier one
abbrev pub AreRising : List Run → Type 0
AreRising runs = IsNonDecreasingBy (λ r. r.end) runs

-- the runs before the one at place i end at place p or before it, and that one after it
pub record IsFirstAfter (runs : List Run) (p i : ℕ) : Type 0 where
  pub within : i ≤ length runs
  pub passed : (j : ℕ) (d : Run) → j < i → (slice_index_or runs j d).end ≤ p
  pub here : (d : Run) → i < length runs → p < (slice_index_or runs i d).end

-- the runs tell the first n labels of a list, and no more
pub record ArePacked (labels : List ℕ) (first : ℕ) (runs : List Run) (list : List ℕ) (n : ℕ) : Type 0 where
  pub told : (p : ℕ) → p < n → label_in labels first runs p ≡ Some (slice_index list p)
  pub none : run_number runs n ≡ None
  pub rising : AreRising runs

-- a list that begins with another
abbrev pub Extends : List ℕ → List ℕ → Type 0
Extends long short = (rest : List ℕ) × (long ≡ short ++ rest)
