use Rattle.tile_workers.proofs.WatchLemmas.{reads_on}
use Rattle.tile_workers.proofs.watcher.Watcher.watch.Goals as goal

pub loop-self-preserved : goal.loop-self-preserved
loop-self-preserved c = reads_on c.args.self.now c.loop-self.self c.read.new.self c.loop-self.invariant c.read.ensures
