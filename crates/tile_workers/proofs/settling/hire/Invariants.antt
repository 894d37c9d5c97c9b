use Rattle.std.proofs.Common.{◌≡◌}
use Rattle.std.specs.List.{All}
use Rattle.board_desk.specs.Passes.{IsPassOf}
use Rattle.tile_workers.specs.declared.solving.Worker.{Worker}
use Rattle.tile_workers.proofs.settling.hire.Given as goal

abbrev pub invariant-loop-before : goal.invariant-loop-before
invariant-loop-before g l = (l.pass ≡ l.initial.pass) × All (λ (worker : Worker). IsPassOf l.fn.desk worker.pass) l.workers.items
