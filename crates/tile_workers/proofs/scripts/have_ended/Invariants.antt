use Rattle.std.proofs.Common.{ℕ, ◌<◌}
use Rattle.std.specs.Prelude.{slice_index_or}
use Rattle.board_desk.specs.Passes.{PassView}
use Rattle.tile_workers.specs.Scripts.{HasScriptEnded}
use Rattle.tile_workers.proofs.scripts.have_ended.Given as goal

abbrev pub invariant-loop-pass : goal.invariant-loop-pass
invariant-loop-pass l = (k : ℕ) (d : PassView) → k < l.pass-index → HasScriptEnded (slice_index_or l.passes k d)
