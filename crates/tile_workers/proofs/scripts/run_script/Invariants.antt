use Rattle.board_desk.specs.Passes.{IsLaterPass}
use Rattle.tile_workers.proofs.scripts.run_script.Given as goal

abbrev pub invariant-loop : goal.invariant-loop
invariant-loop g l = (goal.iterator-loop g).can_next l.iterator' × ((goal.iterator-loop g).is_finite l.iterator' × IsLaterPass l.initial.pass l.pass)
