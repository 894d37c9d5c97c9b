use Rattle.std.proofs.Common.{take}
use Rattle.report_check.specs.Replays.{IsReplayOf, entries_in}
use Rattle.report_check.proofs.history.first_break.Given as goal

abbrev pub invariant-loop-place : goal.invariant-loop-place
invariant-loop-place l = IsReplayOf l.session (take l.place (entries_in l.items)) l.replay
