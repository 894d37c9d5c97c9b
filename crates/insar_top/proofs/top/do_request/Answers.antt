use Rattle.insar_top.proofs.top.do_request.Goals as goal

pub returns-in-Trial : goal.returns-in-Trial
returns-in-Trial g c = rw c.in-Trial.is (c.run_trial.ensures (g.S.Source.left c.args.source.now) (g.S.Source.faults c.args.source.now))
