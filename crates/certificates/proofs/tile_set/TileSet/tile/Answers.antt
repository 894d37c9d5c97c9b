use Rattle.std.proofs.Common.{◌≡◌, ◌<◌, ◌∙◌, ap, sym, Some, length}
use Rattle.std.specs.Prelude.{option_map, slice_get}
use Rattle.std.specs.Arc.{arc_value}
use Rattle.std.proofs.lemmas.List.{length-map}
use Rattle.std.proofs.lemmas.Option.{slice_get-map, slice_get_read}
use Rattle.raster_model.specs.Tiles.{tiles_of}
use Rattle.certificates.specs.TileSets.{shared_results}
use Rattle.certificates.proofs.tile_set.TileSet.tile.Goals as goal

pub returns : goal.returns
returns c =
    let items = c.self.inside.results.items in
    let l : c.args.tile < tiles_of c.self.inside.tiling = rw (← c.self.view_is) at c.requires in
    let all : length items ≡ tiles_of c.self.inside.tiling = sym (length-map items arc_value) ∙ c.self.invariant.count in
    let held : slice_get items c.args.tile ≡ Some c.index.result.now = slice_get_read items (tiles_of c.self.inside.tiling) c.args.tile c.index.result.now (sym all) l c.index.ensures in
    let here : slice_get (shared_results items) c.args.tile ≡ Some c.deref.result.now = slice_get-map arc_value items c.args.tile ∙ ap (option_map arc_value) held ∙ ap Some (sym c.deref.ensures) in
    record { place = rw (← c.self.view_is) here; number = c.self.invariant.own c.args.tile c.deref.result.now here }
