use Rattle.std.proofs.Common.{◌≡◌, ◌∙◌, ◌-◌, Some, ap, length, sym}
use Rattle.std.specs.Prelude.{option_copied, slice_get}
use Rattle.insar_commands.proofs.WatchLemmas.{placed_as_last}
use Rattle.insar_commands.proofs.watching.place_last.Goals as goal

pub returns-in-Some-clause-placed : goal.returns-in-Some-clause-placed
returns-in-Some-clause-placed g c =
    let snapshots = c.snapshots.result.now in
    let n = c.in-Some.last.now in
    let at : slice_get snapshots (length snapshots - 1) ≡ Some n = sym c.last.ensures.value ∙ ap option_copied c.in-Some.is in
    placed_as_last c.place_anew.result c.args.board.now snapshots c.snapshots.ensures.value c.snapshots.ensures.board n at c.place_anew.new.writer c.place_anew.ensures.placed
