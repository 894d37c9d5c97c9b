use Rattle.std.proofs.Common.{pos, get_or}
use Rattle.certificates.proofs.FlowSums.{set_grown, set_within, number_fits}
use Rattle.certificates.proofs.seam_flows.add_to.Goals as goal

pub overflow_add-numbers : goal.overflow_add-numbers
overflow_add-numbers c =
    (number_fits (get_or c.args.numbers.now c.args.place (pos 0)) c.args.amount (c.requires.small c.args.place) c.requires.amount).1

pub returns-clause-grown : goal.returns-clause-grown
returns-clause-grown c =
    let e = (number_fits (get_or c.args.numbers.now c.args.place (pos 0)) c.args.amount (c.requires.small c.args.place) c.requires.amount).0 in
    set_grown c.args.numbers.now c.args.place c.args.amount _ c.requires.place e

pub returns-clause-within : goal.returns-clause-within
returns-clause-within c =
    let e = (number_fits (get_or c.args.numbers.now c.args.place (pos 0)) c.args.amount (c.requires.small c.args.place) c.requires.amount).0 in
    set_within c.args.numbers.now c.args.place c.args.amount _ c.requires.place e c.requires.amount
