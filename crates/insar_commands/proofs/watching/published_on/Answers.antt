use Rattle.std.proofs.Common.{◌∙◌, ap, map}
use Rattle.std.proofs.lemmas.List.{take_all}
use Rattle.surface_snapshots.specs.Views.{parts_of}
use Rattle.surface_snapshots.specs.declared.snapshot.Snapshot.{Snapshot}
use Rattle.insar_commands.proofs.WatchLemmas.{revisions_are}
use Rattle.insar_commands.proofs.watching.published_on.Goals as goal

pub returns-clause-published : goal.returns-clause-published
returns-clause-published c =
    let snapshots = c.snapshots-snapshots.result.now in
    c.loop-snapshot.invariant ∙ ap (map (λ (n : Snapshot). (parts_of n).seams.revision)) (take_all c.loop-snapshot.snapshot-index snapshots c.loop-snapshot-test.false)
    ∙ revisions_are c.args.board.now snapshots c.snapshots-snapshots.ensures.value c.snapshots-snapshots.ensures.board
