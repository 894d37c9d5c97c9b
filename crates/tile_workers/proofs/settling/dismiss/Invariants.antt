use Rattle.std.specs.List.{All}
use Rattle.board_desk.specs.Passes.{IsPassOf}
use Rattle.tile_workers.specs.declared.solving.Worker.{Worker}
use Rattle.tile_workers.specs.Scripts.{HasSeenMore}
use Rattle.tile_workers.proofs.settling.dismiss.Given as goal

abbrev pub invariant-loop-worker : goal.invariant-loop-worker
invariant-loop-worker g l = HasSeenMore l.initial.pass l.pass × All (λ (worker : Worker). IsPassOf l.fn.desk worker.pass) l.workers.items

abbrev pub decreases-loop-worker : goal.decreases-loop-worker
decreases-loop-worker g l = goal.left-loop-worker g l
