use Rattle.std.proofs.Common.{◌∙◌, refl}
use Rattle.std.proofs.lemmas.List.Elements.{All-nil, All-push}
use Rattle.board_desk.specs.Passes.{IsPassOf}
use Rattle.tile_workers.specs.declared.solving.Worker.{Worker}
use Rattle.tile_workers.proofs.settling.hire.Goals as goal

pub loop-before-init : goal.loop-before-init
loop-before-init g c = (refl, rw c.in_ok-workers.ensures.items (All-nil (λ (worker : Worker). IsPassOf c.args.desk.now worker.pass)))

pub loop-before-preserved : goal.loop-before-preserved
loop-before-preserved g c =
    let i = c.loop-before.invariant in
    let own : IsPassOf c.args.desk.now c.worker_pass.result = rw (c.worker_pass.ensures.worker, i.0) (record { table = c.requires.table; session = c.requires.session }) in
    (c.worker_pass.ensures.same ∙ i.0, rw c.in_ok-push.ensures.items (All-push (λ (worker : Worker). IsPassOf c.args.desk.now worker.pass) c.loop-before.workers.items _ i.1 own))

pub returns-clause-own : goal.returns-clause-own
returns-clause-own g c = c.loop-before.invariant.1
