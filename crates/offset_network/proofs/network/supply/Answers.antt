use Rattle.std.proofs.Common.{subst, sym, arith}
use Rattle.std.specs.Prelude.{Option}
use Rattle.offset_network.specs.declared.lane.Lane.{Lane}
use Rattle.offset_network.specs.Networks.{IsSupplied}
use Rattle.offset_network.proofs.LaneLemmas.{start_is, start_small}
use Rattle.offset_network.proofs.SupplyLemmas.{supplied}
use Rattle.offset_network.proofs.network.supply.Goals as goal

pub add_to-requires-clause-place : goal.add_to-requires-clause-place
add_to-requires-clause-place c = (c.requires.fits c.in-Some.lane c.in-Some.is).to

pub add_to-requires-clause-amount : goal.add_to-requires-clause-amount
add_to-requires-clause-amount c =
    let k = c.in-Some.lane in
    let is = c.requires.fits k c.in-Some.is in
    (start_small k.low k.high k.departure _ is.low is.high c.start_flow-flow.ensures).0

pub add_to-requires-in-Some-clause-amount : goal.add_to-requires-in-Some-clause-amount
add_to-requires-in-Some-clause-amount c =
    let k = c.in-Some.lane in
    let is = c.requires.fits k c.in-Some.is in
    (start_small k.low k.high k.departure _ is.low is.high c.start_flow-flow.ensures).1

pub add_to-requires-in-Some-clause-place : goal.add_to-requires-in-Some-clause-place
add_to-requires-in-Some-clause-place c =
    let l = (c.requires.fits c.in-Some.lane c.in-Some.is).from in
    omega (arith, l, c.add_to.ensures.added.same_length)

pub returns-in-Some : goal.returns-in-Some
returns-in-Some c =
    let k = c.in-Some.lane in
    let is = c.requires.fits k c.in-Some.is in
    subst (λ (o : Option Lane). IsSupplied c.args.supplies.now.items c.add_to-in-Some.new.numbers.items o) (sym c.in-Some.is)
    (supplied c.args.supplies.now.items c.add_to.new.numbers.items c.add_to-in-Some.new.numbers.items k _ _ is (start_is k.low k.high k.departure _ is.low is.high c.start_flow-flow.ensures).0 (start_is k.low k.high k.departure _ is.low is.high c.start_flow-flow.ensures).1 c.add_to.ensures.added c.add_to-in-Some.ensures.added c.add_to.ensures.small c.add_to-in-Some.ensures.small)
