use Rattle.tile_workers.specs.Scripts.{HasSeenMore}
use Rattle.tile_workers.proofs.solving.solve_all.Given as goal

abbrev pub invariant-loop : goal.invariant-loop
invariant-loop g l = (goal.iterator-loop g).can_next l.iterator' × ((goal.iterator-loop g).is_finite l.iterator' × HasSeenMore l.initial.pass l.pass)
