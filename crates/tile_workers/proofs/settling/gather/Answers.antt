use Rattle.tile_workers.proofs.GatherLemmas.{has_gathered}
use Rattle.tile_workers.proofs.settling.gather.Goals as goal

pub returns-in-Ok-clause-gathered : goal.returns-in-Ok-clause-gathered
returns-in-Ok-clause-gathered g c =
    let has = has_gathered c.args.desk.now.session c.args.pass.now c.gather.new.pass c.gather.result.answer c.gather.ensures.call c.in-Ok.gathered c.in-Ok.is in
    rw c.in-Ok.is has
