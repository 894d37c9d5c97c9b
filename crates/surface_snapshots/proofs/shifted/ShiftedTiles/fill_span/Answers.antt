use Rattle.std.proofs.Common.{◌≡◌, ◌∙◌, ◌+◌, ◌-◌, ◌<◌, ◌≤◌, ◌^◌, ap, arith, length, pos, refl, slice_index_or, sym, w64, List, ℕ}
use Rattle.std.specs.Prelude.{ℤ, FitsSigned, unsigned_abs}
use Rattle.std.proofs.lemmas.Int.{ints, to_z-of_z}
use Rattle.raster_model.specs.declared.tiling.Window.{Window}
use Rattle.raster_model.specs.Tiles.{IsWithin, place_in, tile_at, window_of}
use Rattle.certificates.specs.TileSets.{solved_cycles}
use Rattle.surface_snapshots.specs.declared.shifted.ShiftedTiles.{ShiftedTiles}
use Rattle.surface_snapshots.specs.Shifted.{HasCycles, IsSpan, open_under}
use Rattle.surface_snapshots.proofs.LevelLemmas.{its_window, row_reaches, same_tile}
use Rattle.surface_snapshots.proofs.RowLemmas.{level_found, level_none}
use Rattle.surface_snapshots.proofs.ShiftedLemmas.{place_is_in, solved_is}
use Rattle.surface_snapshots.proofs.shifted.ShiftedTiles.fill_span.Goals as goal

-- the pixels of the span, their places and their cycles
module _ (s : ShiftedTiles) (w : Window) (x z y label : ℕ) (is : IsSpan s w x z y label) where
  across : x < s.scene.now.tiling.width
  across = omega (arith, is.column, s.scene.now.same_width)

  along : y < s.scene.now.tiling.height
  along = omega (arith, is.row, s.scene.now.same_height)

  ends : w.x1 ≡ (window_of s.scene.now.tiling (tile_at s.scene.now.tiling x y)).x1
  ends = ap (λ (v : Window). v.x1) is.window

  within_raster : z ≤ s.scene.now.phase.width
  within_raster = omega (arith, is.across, ends, row_reaches s.scene.now.tiling x y _ across along refl, s.scene.now.same_width)

  inside : IsWithin w x y
  inside = rw is.window (((its_window s.scene.now.tiling x y _ across along refl).pixels x y across along).0 refl)

  module _ (c : ℕ) (from : x ≤ c) (below : c < z) where
    there : tile_at s.scene.now.tiling x y ≡ tile_at s.scene.now.tiling c y
    there = same_tile s.scene.now.tiling x y _ across along refl c from (omega (arith, below, is.across, ends))

    place_there : place_in w c y ≡ place_in w x y + (c - x)
    place_there = omega (arith, inside, from)

    within : IsWithin w c y
    within = (omega (arith, inside.0, from), omega (arith, below, is.across), inside.2, inside.3)

    module _ (cycles : List ℤ) (has : HasCycles s (tile_at s.scene.now.tiling x y) cycles) where
      has_place : place_in w x y + (c - x) < length cycles
      has_place =
          omega (arith, place_there, ap length has.2, place_is_in s.scene.now (open_under s) s.tiles.now.results s.together.tiles c y (tile_at s.scene.now.tiling x y) has.0 w there has.1 is.window within)

      cycles_there : slice_index_or cycles (place_in w x y + (c - x)) (pos 0) ≡ solved_cycles s.scene.now s.tiles.now.results c y
      cycles_there =
          ap (λ (i : ℕ). slice_index_or cycles i (pos 0)) (sym place_there)
          ∙ ap (λ (l : List ℤ). slice_index_or l (place_in w c y) (pos 0)) has.2
          ∙ solved_is s.scene.now (open_under s) s.tiles.now.results s.together.tiles c y (tile_at s.scene.now.tiling x y) has.0 w there has.1 is.window

pub place-requires-clause-across : goal.place-requires-clause-across
place-requires-clause-across c =
    let g = c.args.self.now.scene.now.tiling in
    let p = c.requires.span in
    let w = its_window g c.args.x c.args.y _ (across c.args.self.now c.args.window c.args.x c.args.end c.args.y c.args.label p) (along c.args.self.now c.args.window c.args.x c.args.end c.args.y c.args.label p) refl in
    rw p.window (w.across.0, omega (arith, w.across.1, g.wide))

pub place-requires-clause-along : goal.place-requires-clause-along
place-requires-clause-along c =
    let g = c.args.self.now.scene.now.tiling in
    let p = c.requires.span in
    let w = its_window g c.args.x c.args.y _ (across c.args.self.now c.args.window c.args.x c.args.end c.args.y c.args.label p) (along c.args.self.now c.args.window c.args.x c.args.end c.args.y c.args.label p) refl in
    rw p.window (w.along.0, omega (arith, w.along.1, g.high))

pub place-requires-clause-pixel : goal.place-requires-clause-pixel
place-requires-clause-pixel c = inside c.args.self.now c.args.window c.args.x c.args.end c.args.y c.args.label c.requires.span

pub fill_open-requires-clause-end : goal.fill_open-requires-clause-end
fill_open-requires-clause-end c = (omega (arith, c.requires.span.across), within_raster c.args.self.now c.args.window c.args.x c.args.end c.args.y c.args.label c.requires.span)

pub fill_masked-requires-clause-end : goal.fill_masked-requires-clause-end
fill_masked-requires-clause-end c = (omega (arith, c.requires.span.across), within_raster c.args.self.now c.args.window c.args.x c.args.end c.args.y c.args.label c.requires.span)

pub fill_open-requires-clause-cycles : goal.fill_open-requires-clause-cycles
fill_open-requires-clause-cycles c =
    let p = c.requires.span in
    let last = has_place c.args.self.now c.args.window c.args.x c.args.end c.args.y c.args.label p (c.args.end - 1) (omega (arith, p.across)) (omega (arith, p.across)) c.args.cycles.now c.requires.cycles in
    omega (arith, last, c.place.ensures, p.across)

pub fill_open-requires-clause-offset : goal.fill_open-requires-clause-offset
fill_open-requires-clause-offset c =
    let found = c.in-Some.ensures.lookup.3 in
    let near : unsigned_abs c.in-Some.field-0.now ≤ 2 ^ 46 = rw (found.1 (pos 0)) (c.args.self.now.near c.args.label found.0) in
    omega (arith, ints, near)

pub fill_open-requires-clause-levels : goal.fill_open-requires-clause-levels
fill_open-requires-clause-levels c a from below =
    let s = c.args.self.now in
    let p = c.requires.span in
    let found = c.in-Some.ensures.lookup.3 in
    let label = p.labels a from below in
    let column : a < s.scene.now.phase.width = omega (arith, below, within_raster s c.args.window c.args.x c.args.end c.args.y c.args.label p) in
    let near : unsigned_abs c.in-Some.field-0.now ≤ 2 ^ 46 = rw (found.1 (pos 0)) (s.near c.args.label found.0) in
    let fits : FitsSigned w64 c.in-Some.field-0.now = omega (arith, ints, near) in
    rw (to_z-of_z w64 c.in-Some.field-0.now fits)
    (level_found s a c.args.y column p.row _ c.in-Some.field-0.now (rw label found.0) (rw label (found.1 (pos 0)))
    (rw c.place.ensures (cycles_there s c.args.window c.args.x c.args.end c.args.y c.args.label p a from below c.args.cycles.now c.requires.cycles)))

pub fill_masked-requires-clause-levels : goal.fill_masked-requires-clause-levels
fill_masked-requires-clause-levels c a from below =
    let s = c.args.self.now in
    let p = c.requires.span in
    let column : a < s.scene.now.phase.width = omega (arith, below, within_raster s c.args.window c.args.x c.args.end c.args.y c.args.label p) in
    level_none s a c.args.y column p.row (rw (p.labels a from below) c.in-None.ensures.lookup.3)
