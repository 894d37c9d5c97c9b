use Rattle.std.proofs.Common.{◌≡◌, ◌∙◌, ◌-◌, Some, length, sym, ap, arith}
use Rattle.std.specs.Prelude.{option_copied, slice_get}
use Rattle.insar_ports.specs.Bytes.{with_end}
use Rattle.insar_ports.proofs.CallerLemmas.{with_end-nil}
use Rattle.insar_commands.proofs.LastSurface.{last_in_range, last_text, no_text, none_in_range}
use Rattle.insar_commands.proofs.grid.write_last_grid.Goals as goal

pub returns-in-Some-clause-put : goal.returns-in-Some-clause-put
returns-in-Some-clause-put g c =
    let n = c.in-Some.snapshot.now in
    let at : slice_get c.snapshots.result.now (length c.snapshots.result.now - 1) ≡ Some n = sym c.last.ensures.value ∙ ap option_copied c.in-Some.is in
    rw (last_text c.args.board.now c.snapshots.result.now c.snapshots.ensures.value c.snapshots.ensures.board n at) at c.write_grid_side_by_side.ensures.put

pub returns-in-Some-clause-ranges : goal.returns-in-Some-clause-ranges
returns-in-Some-clause-ranges g c =
    last_in_range c.args.board.now c.snapshots.result.now c.snapshots.ensures.value c.snapshots.ensures.board c.in-Some.snapshot.now (sym c.last.ensures.value ∙ ap option_copied c.in-Some.is) c.write_grid_side_by_side.ensures.ranges

pub returns-in-None-clause-put : goal.returns-in-None-clause-put
returns-in-None-clause-put g c =
    let none = no_text c.args.board.now c.snapshots.result.now c.snapshots.ensures.value c.snapshots.ensures.board (sym c.last.ensures.value ∙ ap option_copied c.in-None.is) in
    record { written = sym (with_end-nil (g.K.Sink.held c.args.sink.now)) ∙ ap (with_end (g.K.Sink.held c.args.sink.now)) none; cut = tt; fault = tt; grows = omega arith }

pub returns-in-None-clause-ranges : goal.returns-in-None-clause-ranges
returns-in-None-clause-ranges g c =
    none_in_range c.args.board.now c.snapshots.result.now c.snapshots.ensures.value c.snapshots.ensures.board (sym c.last.ensures.value ∙ ap option_copied c.in-None.is)
