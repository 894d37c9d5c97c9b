use Rattle.std.proofs.Common.{◌<◌, arith, length}
use Rattle.insar_commands.proofs.WatchLemmas.{knows_last, ready_still, told_more}
use Rattle.insar_commands.proofs.watching.tell_all.Goals as goal

pub loop-watcher-preserved : goal.loop-watcher-preserved
loop-watcher-preserved c =
    let ws = c.loop-watcher.watchers in
    let i = c.loop-watcher.watcher-index in
    let w = c.finish.new.self in
    let placed = c.args.writer.now in
    let test = c.loop-watcher-test.true in
    let long = c.loop-watcher.auto.watchers in
    let within : i < length ws = omega (arith, test, long) in
    record {
      told = told_more ws i w within placed (knows_last placed c.in_ok-tell.field-0 _ w c.in_ok-tell.ensures c.finish.ensures) c.loop-watcher.invariant.told;
      ready = ready_still ws i w within placed.shelf c.loop-watcher.invariant.ready;
    }
