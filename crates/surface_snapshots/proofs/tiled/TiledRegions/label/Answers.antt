use Rattle.std.proofs.Common.{◌∙◌, arith, refl, sym}
use Rattle.std.specs.Prelude.{map}
use Rattle.raster_model.specs.Tiles.{tile_at}
use Rattle.surface_snapshots.specs.Runs.{runs_of}
use Rattle.surface_snapshots.proofs.LevelLemmas.{its_window}
use Rattle.surface_snapshots.proofs.TiledLemmas.{label_is}
use Rattle.surface_snapshots.proofs.tiled.TiledRegions.label.Goals as goal

pub place-requires-clause-across : goal.place-requires-clause-across
place-requires-clause-across c =
    let g = c.args.self.now.tiling in
    let w = its_window g c.args.x c.args.y (tile_at g c.args.x c.args.y) c.requires.across c.requires.along refl in
    rw c.window_at-window.ensures (w.across.0, omega (arith, w.across.1, g.wide))

pub place-requires-clause-along : goal.place-requires-clause-along
place-requires-clause-along c =
    let g = c.args.self.now.tiling in
    let w = its_window g c.args.x c.args.y (tile_at g c.args.x c.args.y) c.requires.across c.requires.along refl in
    rw c.window_at-window.ensures (w.along.0, omega (arith, w.along.1, g.high))

pub place-requires-clause-pixel : goal.place-requires-clause-pixel
place-requires-clause-pixel c =
    let g = c.args.self.now.tiling in
    let w = its_window g c.args.x c.args.y (tile_at g c.args.x c.args.y) c.requires.across c.requires.along refl in
    rw c.window_at-window.ensures ((w.pixels c.args.x c.args.y c.requires.across c.requires.along).0 refl)

pub returns : goal.returns
returns c =
    let r = c.args.self.now in
    let g = r.tiling in
    let here = c.span.ensures.label c.place.result (omega arith) (omega (arith, c.span.ensures.count)) in
    sym (label_is g r.labels.items (map runs_of r.tiles.items) c.args.x c.args.y c.requires.across c.requires.along
    ∙ (rw (c.tile_of.ensures.value, c.place.ensures, c.window_at-window.ensures) at here))
