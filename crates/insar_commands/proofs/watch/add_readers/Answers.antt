use Rattle.std.proofs.Common.{◌∙◌, ◌+◌, ap, refl}
use Rattle.text_lines.specs.Text.{texts_below}
use Rattle.text_lines.proofs.AddLemmas.{adds_nothing}
use Rattle.tile_workers.specs.Watching.{WatcherView}
use Rattle.insar_commands.proofs.WatchLemmas.{adds_reader}
use Rattle.insar_commands.proofs.watch.add_readers.Goals as goal

pub loop-watcher-init : goal.loop-watcher-init
unfolding texts_below
loop-watcher-init g c = record { number = refl; added = adds_nothing _ }

pub loop-watcher-preserved : goal.loop-watcher-preserved
loop-watcher-preserved g c =
    let at = c.loop-watcher in
    record {
      number = ap (λ n. n + 1) at.invariant.number;
      added = adds_reader c.args.published.now c.args.watchers.now at.watcher-index (at.number + 1) c.revisions.result.now c.watcher-item.result c.loop-watcher-test.true (ap (λ n. n + 1) at.invariant.number) (c.revisions.ensures.value ∙ ap (λ (w : WatcherView). w.revisions) c.watcher-item.is) at.invariant.added c.add_reader.ensures;
    }
