use Rattle.std.proofs.Common.{◌∙◌, sym}
use Rattle.raster_model.specs.Masks.{open_at}
use Rattle.whole_solver.proofs.RightLemmas.{all_within, moved_certified}
use Rattle.whole_solver.proofs.solving.solved_by_network.Goals as goal

pub anchored-cycles-requires-clause-within : goal.anchored-cycles-requires-clause-within
anchored-cycles-requires-clause-within g c =
    let k = c.in_ok-cycles.field-0 in
    let told = c.in_ok-cycles.ensures {u = tt} in
    all_within c.args.sheet.now k.cycles.items (sym k.cycles.ok.0 ∙ told.count) told.within

pub unreachable-requires : goal.unreachable-requires
unreachable-requires g c =
    let k = c.in_ok-cycles.field-0 in
    let told = c.in_ok-cycles.ensures {u = tt} in
    let made = c.anchored-cycles.ensures in
    (c.in-None.ensures {u = tt}).none (record {
      count = made.count;
      small = made.small;
      anchored = made.anchored;
      certified = moved_certified c.args.sheet.now (open_at c.args.mask.now) k.cycles.items c.anchored-cycles.result.items k.faces.items made.moved.0 made.moved.1 told.certified;
    })
