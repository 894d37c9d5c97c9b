use Rattle.tile_workers.proofs.ScriptLemmas.{more_called, more_trans, of_desk}
use Rattle.tile_workers.proofs.ClaimLemmas.{have_claimed}
use Rattle.tile_workers.proofs.solving.solve_all.Goals as goal

pub solve_share-requires-clause-claimed : goal.solve_share-requires-clause-claimed
solve_share-requires-clause-claimed g c κs lives =
    let claimed = have_claimed c.args.desk.now.session c.loop.pass c.claim_share.new.pass c.args.parts _ c.claim_share.result.answer c.claim_share.ensures.call c.in-Ok.tickets c.in-Ok.is in
    rw (c.deref.ensures.value, c.in-Ok.tickets-is) claimed

pub claim_share-requires : goal.claim_share-requires
claim_share-requires g c = of_desk c.args.desk.now c.args.pass.now c.loop.pass c.requires c.loop.invariant.1.1

pub solve_share-requires-clause-pass : goal.solve_share-requires-clause-pass
solve_share-requires-clause-pass g c κs lives = of_desk c.args.desk.now c.args.pass.now c.claim_share.new.pass c.requires (more_trans c.args.pass.now c.loop.pass c.claim_share.new.pass c.loop.invariant.1.1 (more_called c.args.desk.now.session c.loop.pass c.claim_share.new.pass _ c.claim_share.ensures.call c.claim_share.ensures.own))

pub returns-in-Err-NoJob : goal.returns-in-Err-NoJob
returns-in-Err-NoJob g c = more_trans c.args.pass.now c.loop.pass c.claim_share.new.pass c.loop.invariant.1.1 (more_called c.args.desk.now.session c.loop.pass c.claim_share.new.pass _ c.claim_share.ensures.call c.claim_share.ensures.own)

pub returns-in-Err-Memory : goal.returns-in-Err-Memory
returns-in-Err-Memory g c = more_trans c.args.pass.now c.loop.pass c.claim_share.new.pass c.loop.invariant.1.1 (more_called c.args.desk.now.session c.loop.pass c.claim_share.new.pass _ c.claim_share.ensures.call c.claim_share.ensures.own)

pub returns-in_err-solve_share-in-Ok : goal.returns-in_err-solve_share-in-Ok
returns-in_err-solve_share-in-Ok g c = more_trans c.args.pass.now c.claim_share.new.pass c.solve_share.new.pass (more_trans c.args.pass.now c.loop.pass c.claim_share.new.pass c.loop.invariant.1.1 (more_called c.args.desk.now.session c.loop.pass c.claim_share.new.pass _ c.claim_share.ensures.call c.claim_share.ensures.own)) c.solve_share.ensures
