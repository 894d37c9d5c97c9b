use Rattle.std.specs.Prelude.{slice_index_or}
use Rattle.tile_workers.proofs.WatchLemmas.{watched_at}
use Rattle.tile_workers.proofs.watching.watch_all.Goals as goal

pub returns : goal.returns
returns g c = record {
  each = λ k d h. (let e = (c.for_each_mut.ensures k d h).1 in watched_at e.argument.now (slice_index_or c.args.watchers.now k d) e.after_call.now (slice_index_or c.for_each_mut.new.s k d) e.argument_is e.left e.call);
}
