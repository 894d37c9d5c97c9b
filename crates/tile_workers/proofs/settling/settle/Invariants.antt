use Rattle.board_desk.specs.Passes.{IsAtSettle}
use Rattle.tile_workers.specs.Scripts.{HasSeenMore}
use Rattle.tile_workers.proofs.settling.settle.Given as goal

abbrev pub invariant-loop : goal.invariant-loop
invariant-loop g l =
    (goal.iterator-loop g).can_next l.iterator' × ((goal.iterator-loop g).is_finite l.iterator' × HasSeenMore l.initial.pass l.pass × IsAtSettle l.fn.desk.session l.pass)
