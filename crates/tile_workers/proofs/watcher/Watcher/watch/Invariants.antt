use Rattle.tile_workers.proofs.WatchLemmas.{IsReading}
use Rattle.tile_workers.proofs.watcher.Watcher.watch.Given as goal

abbrev pub invariant-loop-self : goal.invariant-loop-self
invariant-loop-self l = IsReading l.initial.self l.self

abbrev pub decreases-loop-self : goal.decreases-loop-self
decreases-loop-self l = l.self.reads
