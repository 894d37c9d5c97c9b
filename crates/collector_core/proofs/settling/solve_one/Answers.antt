use Rattle.collector_core.proofs.settling.solve_one.Goals as goal

pub returns-in-Err-NoJob-clause-more : goal.returns-in-Err-NoJob-clause-more
returns-in-Err-NoJob-clause-more c =
    let all = rw c.in-Err-NoJob.field-0-is at c.in-Err-NoJob.ensures.refused in
    rw c.claim.ensures.unchanged all
