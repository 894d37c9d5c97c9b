use Rattle.std.specs.Prelude.{slice_index_or}
use Rattle.tile_workers.proofs.ScriptLemmas.{later_at}
use Rattle.tile_workers.proofs.scripts.run_each.Goals as goal

pub returns : goal.returns
returns g c = λ k d h. (let e = (c.for_each_mut.ensures k d h).1 in later_at e.argument.now (slice_index_or c.args.passes.now k d) e.after_call.now (slice_index_or c.for_each_mut.new.s k d) e.argument_is e.left e.call)
