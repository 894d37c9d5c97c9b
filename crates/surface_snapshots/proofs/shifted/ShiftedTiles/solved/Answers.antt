use Rattle.std.proofs.Common.{◌≡◌, ◌∙◌, ◌≤◌, arith, pos, sym, subst}
use Rattle.std.specs.Prelude.{ℤ, unsigned_abs}
use Rattle.std.proofs.lemmas.List.{get_or_read_under}
use Rattle.raster_model.specs.Tiles.{place_in}
use Rattle.raster_model.proofs.TileLemmas.{tiles_are_numbered}
use Rattle.certificates.specs.Results.{listed_cycles}
use Rattle.surface_snapshots.specs.Shifted.{open_under}
use Rattle.surface_snapshots.proofs.ShiftedLemmas.{open_pixel, place_is_in, solved_is, solved_is_small, widened, window_told, within_window}
use Rattle.surface_snapshots.proofs.shifted.ShiftedTiles.solved.Goals as goal

pub place-requires-clause-across : goal.place-requires-clause-across
place-requires-clause-across c =
    let s = c.args.self.now in
    let w = window_told s.scene.now c.args.tile c.args.window c.args.x c.args.y (open_under s c.args.x c.args.y) c.requires.window c.requires.tile c.requires.open_pixel in
    (w.across.0, omega (arith, w.across.1, s.scene.now.tiling.wide.1))

pub place-requires-clause-along : goal.place-requires-clause-along
place-requires-clause-along c =
    let s = c.args.self.now in
    let w = window_told s.scene.now c.args.tile c.args.window c.args.x c.args.y (open_under s c.args.x c.args.y) c.requires.window c.requires.tile c.requires.open_pixel in
    (w.along.0, omega (arith, w.along.1, s.scene.now.tiling.high.1))

pub place-requires-clause-pixel : goal.place-requires-clause-pixel
place-requires-clause-pixel c =
    let s = c.args.self.now in
    within_window s.scene.now c.args.tile c.args.window c.args.x c.args.y (open_under s c.args.x c.args.y) c.requires.window c.requires.tile c.requires.open_pixel

pub tile-requires : goal.tile-requires
tile-requires c =
    let s = c.args.self.now in
    let o = open_pixel s.scene.now.phase.width s.scene.now.phase.height c.args.x c.args.y (open_under s c.args.x c.args.y) c.requires.open_pixel in
    rw (s.tiling, c.requires.tile) (tiles_are_numbered s.scene.now.tiling c.args.x c.args.y (omega (arith, o.0, s.scene.now.same_width)) (omega (arith, o.1, s.scene.now.same_height)))

pub index-requires : goal.index-requires
index-requires c =
    let s = c.args.self.now in
    let k = c.tile.result.now in
    let v = c.args.window in
    let w = within_window s.scene.now c.args.tile v c.args.x c.args.y (open_under s c.args.x c.args.y) c.requires.window c.requires.tile c.requires.open_pixel in
    omega (arith, c.place.ensures, k.cycles.ok.0, place_is_in s.scene.now (open_under s) s.tiles.now.results s.together.tiles c.args.x c.args.y c.args.tile k v c.requires.tile c.tile.ensures.place c.requires.window w)

both : (c : goal.After-from) → (c.index.result.now ≡ listed_cycles c.args.window c.tile.result.now.cycles.items c.args.x c.args.y) × (unsigned_abs c.index.result.now ≤ 8388608)
both c =
    let s = c.args.self.now in
    let k = c.tile.result.now in
    let v = c.args.window in
    let o = open_pixel s.scene.now.phase.width s.scene.now.phase.height c.args.x c.args.y (open_under s c.args.x c.args.y) c.requires.open_pixel in
    let w = within_window s.scene.now c.args.tile v c.args.x c.args.y (open_under s c.args.x c.args.y) c.requires.window c.requires.tile c.requires.open_pixel in
    let within = place_is_in s.scene.now (open_under s) s.tiles.now.results s.together.tiles c.args.x c.args.y c.args.tile k v c.requires.tile c.tile.ensures.place c.requires.window w in
    let read : c.index.result.now ≡ listed_cycles v k.cycles.items c.args.x c.args.y = get_or_read_under k.cycles.items (place_in v c.args.x c.args.y) k.cycles.len c.index.result.now (pos 0) (rw c.place.ensures at c.index.ensures) (omega (arith, within, k.cycles.ok.0)) k.cycles.ok.0 in (
      read,
      subst (λ (z : ℤ). unsigned_abs z ≤ 8388608) (sym read) (solved_is_small s.scene.now (open_under s) s.tiles.now.results s.together.tiles c.args.x c.args.y c.args.tile k v c.requires.tile c.tile.ensures.place c.requires.window w o.2),
    )

pub returns-clause-value : goal.returns-clause-value
returns-clause-value c =
    let s = c.args.self.now in
    widened c.index.result.now c.from.result (both c).1 c.from.ensures
    ∙ (both c).0
    ∙ solved_is s.scene.now (open_under s) s.tiles.now.results s.together.tiles c.args.x c.args.y c.args.tile c.tile.result.now c.args.window c.requires.tile c.tile.ensures.place c.requires.window

pub returns-clause-small : goal.returns-clause-small
returns-clause-small c = rw (widened c.index.result.now c.from.result (both c).1 c.from.ensures) (both c).1
