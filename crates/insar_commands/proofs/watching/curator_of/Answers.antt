use Rattle.std.proofs.Common.{ap}
use Rattle.tile_workers.specs.Watching.{CuratorView}
use Rattle.insar_commands.proofs.BoardLemmas.{some_first, worker_own}
use Rattle.insar_commands.proofs.watching.curator_of.Goals as goal

pub bounds-passes-0 : goal.bounds-passes-0
bounds-passes-0 g c = some_first c.args.desk.now c.args.passes.now c.requires

pub worker_pass-requires : goal.worker_pass-requires
worker_pass-requires g c = c.requires.own 0 _ (some_first c.args.desk.now c.args.passes.now c.requires)

pub returns-clause-pass : goal.returns-clause-pass
returns-clause-pass g c =
    let d = c.args.desk.now in
    let passes = c.args.passes.now in
    worker_own d passes c.index-passes-0.result c.worker_pass.result c.new.result.pass c.requires c.worker_pass.ensures.worker (ap (λ (v : CuratorView). v.pass) c.new.ensures)
