use Rattle.std.proofs.Common.{◌+◌, arith}
use Rattle.certificates.proofs.SeamLemmas.{within_more}
use Rattle.offset_network.proofs.fairness.move_flow.Goals as goal

pub add_to-requires-clause-place : goal.add_to-requires-clause-place
add_to-requires-clause-place c = (c.requires.fits c.in-Some.link c.in-Some.is).to

pub add_to-requires-in-Some-clause-place : goal.add_to-requires-in-Some-clause-place
add_to-requires-in-Some-clause-place c =
    let l = (c.requires.fits c.in-Some.link c.in-Some.is).from in
    omega (arith, l, c.add_to.ensures.grown.same_length)

pub returns-in-Some-clause-within : goal.returns-in-Some-clause-within
returns-in-Some-clause-within c = λ n h. within_more (n + 1 + 1) (n + 2) c.add_to-in-Some.new.numbers (omega arith) (c.add_to-in-Some.ensures.within (n + 1) (c.add_to.ensures.within n h))
