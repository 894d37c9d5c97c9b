use Rattle.std.proofs.Common.{Some}
use Rattle.std.proofs.lemmas.List.Elements.{All-pop}
use Rattle.board_desk.specs.Passes.{IsPassOf}
use Rattle.tile_workers.specs.declared.solving.Worker.{Worker}
use Rattle.tile_workers.proofs.ScriptLemmas.{more_merged, more_self, more_trans, of_desk}
use Rattle.tile_workers.proofs.settling.dismiss.Goals as goal

pub loop-worker-init : goal.loop-worker-init
loop-worker-init g c = (more_self c.args.pass.now, c.requires.own)

pub give_back-requires : goal.give_back-requires
give_back-requires g c = record {
  into = of_desk c.args.desk.now c.args.pass.now c.loop-worker.pass c.requires.pass c.loop-worker.invariant.0;
  worker = (All-pop (λ (worker : Worker). IsPassOf c.args.desk.now worker.pass) c.loop-worker.workers.items c.pop.new.self.items (Some c.in-Some.worker) c.in-Some.ensures.items c.loop-worker.invariant.1).1;
  unnamed = c.in-Some.worker.unnamed;
}

pub loop-worker-preserved : goal.loop-worker-preserved
loop-worker-preserved g c = (
  more_trans c.args.pass.now c.loop-worker.pass c.give_back.new.into c.loop-worker.invariant.0 (more_merged c.loop-worker.pass c.in-Some.worker.pass c.give_back.new.into c.give_back.ensures),
  (All-pop (λ (worker : Worker). IsPassOf c.args.desk.now worker.pass) c.loop-worker.workers.items c.pop.new.self.items (Some c.in-Some.worker) c.in-Some.ensures.items c.loop-worker.invariant.1).0,
)
