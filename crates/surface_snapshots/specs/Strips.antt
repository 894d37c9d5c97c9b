-- Words of the costs that are counted strip by strip. No clause of a public function cites them.
use Rattle.std.specs.Prelude.{◌≡◌, ◌≢◌, ℕ, ◌+◌, ◌*◌, ◌<◌, ◌≤◌, ◌^◌, ℤ, pos, ◌+ℤ◌, ◌-ℤ◌, length, min, unsigned_abs}
use Rattle.raster_model.specs.Phase.{turns_by}
use Rattle.raster_model.specs.Raster.{lifted, seam_cost_from}
use Rattle.raster_model.specs.Sums.{Field}
use Rattle.surface_snapshots.specs.declared.counting.Costs.{Costs}
use Rattle.surface_snapshots.specs.declared.shifted.ShiftedTiles.{ShiftedTiles}
use Rattle.surface_snapshots.specs.declared.strips.Strip.{Strip}
use Rattle.surface_snapshots.specs.Loops.{AreOfRows, inner_cost_from}
use Rattle.surface_snapshots.specs.Shifted.{cycles_under, no_cycles, open_under, raster_under}

-- the costs are what the edges of a surface of shifted tiles add that start in the rows from a to before b
abbrev pub AreCounted : ShiftedTiles → ℕ → ℕ → Costs → Type 0
AreCounted shifted a b costs = AreOfRows (raster_under shifted) (open_under shifted) (lifted (raster_under shifted) (cycles_under shifted)) a b costs

-- a strip of n rows of width w has room for 16 of them, or all if there are fewer, and for the row below
abbrev pub HasRoom : ℕ → ℕ → Strip → Type 0
HasRoom n w strip = length strip.cycles.items ≡ (min n 16 + 1) * w

-- what the edges of such a surface that start at a pixel add to the costs of all tiles, and to that of the seams
abbrev pub tile_costs_from : ShiftedTiles → Field ℤ
tile_costs_from shifted = inner_cost_from (raster_under shifted) (open_under shifted) (lifted (raster_under shifted) (cycles_under shifted))

abbrev pub seam_costs_from : ShiftedTiles → Field ℤ
seam_costs_from shifted = seam_cost_from (raster_under shifted) (open_under shifted) (lifted (raster_under shifted) (cycles_under shifted))

-- they add nothing
abbrev pub AddNothing : ShiftedTiles → ℕ → ℕ → Type 0
AddNothing shifted x y = (tile_costs_from shifted x y ≡ pos 0) × (seam_costs_from shifted x y ≡ pos 0)

-- at an edge with these cycles and phases at its ends a surface does not depart, if both are cycles, and few
abbrev pub IsStillEdge : ℤ → ℤ → ℤ → ℕ → ℕ → Type 0
IsStillEdge slope from to a b = from ≢ no_cycles → to ≢ no_cycles → unsigned_abs from ≤ 2 ^ 48 → unsigned_abs to ≤ 2 ^ 48 → to -ℤ from +ℤ turns_by slope a b ≡ pos 0

-- the n pixels from the place start on, in row order, have all of row y, and of the next one if there is one
abbrev pub HaveRow : ShiftedTiles → ℕ → ℕ → ℕ → Type 0
HaveRow s start n y =
    (start ≤ y * s.scene.now.phase.width)
    × (y * s.scene.now.phase.width + s.scene.now.phase.width ≤ start + n)
    × (y + 1 < s.scene.now.phase.height → y * s.scene.now.phase.width + s.scene.now.phase.width + s.scene.now.phase.width ≤ start + n)
