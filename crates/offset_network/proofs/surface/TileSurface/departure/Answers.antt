use Rattle.std.proofs.Common.{◌∙◌}
use Rattle.raster_model.specs.Scene.{raster_of}
use Rattle.certificates.specs.TileSets.{solved_cycles}
use Rattle.offset_network.proofs.SurfaceLemmas.{rise_fits, rise_is, rise_value}
use Rattle.offset_network.proofs.surface.TileSurface.departure.Goals as goal

pub overflow_add-result : goal.overflow_add-result
overflow_add-result c = rise_fits c.at-from.result c.at-to.result c.turns.result c.at-from.ensures.small c.at-to.ensures.small c.turns.ensures.small

pub returns-clause-value : goal.returns-clause-value
returns-clause-value c =
    let k = c.args.self.now in
    (rise_value c.at-from.result c.at-to.result c.turns.result c.at-from.ensures.small c.at-to.ensures.small c.turns.ensures.small).0
    ∙ rise_is (raster_of k.scene.now) (solved_cycles k.scene.now k.tiles.now.results) c.args.edge c.end_x.result c.end_y.result c.at-from.result c.at-to.result c.turns.result c.end_x.ensures c.end_y.ensures c.at-from.ensures.value c.at-to.ensures.value c.turns.ensures.value

pub returns-clause-small : goal.returns-clause-small
returns-clause-small c =
    let rise = rise_value c.at-from.result c.at-to.result c.turns.result c.at-from.ensures.small c.at-to.ensures.small c.turns.ensures.small in
    rw rise.0 rise.1
