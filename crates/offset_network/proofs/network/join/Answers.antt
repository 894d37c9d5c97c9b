use Rattle.std.proofs.Common.{subst, sym, arith}
use Rattle.std.specs.Prelude.{Option, ℤ}
use Rattle.std.proofs.lemmas.Int.{ints}
use Rattle.flow_network.specs.Views.{shape_of, state_of}
use Rattle.flow_network.specs.Growing.{AddsArc}
use Rattle.offset_network.specs.Networks.{IsJoined}
use Rattle.offset_network.proofs.LaneLemmas.{minus_is, toward_up, toward_down, toward_within}
use Rattle.offset_network.proofs.network.join.Goals as goal

pub overflow_sub-cost : goal.overflow_sub-cost
overflow_sub-cost c = (minus_is c.in-Some.lane.departure (c.requires.fits c.in-Some.lane c.in-Some.is).departure).0

pub forward-forward-requires : goal.forward-forward-requires
forward-forward-requires c = let is = c.requires.fits c.in-Some.lane c.in-Some.is in (is.low, is.high)

pub back-back-requires : goal.back-back-requires
back-back-requires c = let is = c.requires.fits c.in-Some.lane c.in-Some.is in (is.low, is.high)

pub add_arc-requires-clause-tail : goal.add_arc-requires-clause-tail
add_arc-requires-clause-tail c = (c.requires.fits c.in-Some.lane c.in-Some.is).from

pub add_arc-requires-clause-head : goal.add_arc-requires-clause-head
add_arc-requires-clause-head c = (c.requires.fits c.in-Some.lane c.in-Some.is).to

pub add_arc-requires-clause-cost : goal.add_arc-requires-clause-cost
add_arc-requires-clause-cost c =
    let is = c.requires.fits c.in-Some.lane c.in-Some.is in
    rw (minus_is c.in-Some.lane.departure is.departure).1 (omega (arith, ints, is.departure))

pub add_arc-requires-clause-no_forward : goal.add_arc-requires-clause-no_forward
add_arc-requires-clause-no_forward c = λ l. (
    let k = c.in-Some.lane in
    let is = c.requires.fits k c.in-Some.is in
    let m = rw (minus_is k.departure is.departure).1 at l in
    let up = toward_up k.departure k.low k.high (omega (arith, ints, m)) in
    omega (arith, ints, c.forward-forward.ensures, up))

pub add_arc-requires-clause-no_back : goal.add_arc-requires-clause-no_back
add_arc-requires-clause-no_back c = λ l. (
    let k = c.in-Some.lane in
    let is = c.requires.fits k c.in-Some.is in
    let m = rw (minus_is k.departure is.departure).1 at l in
    let down = toward_down k.departure k.low k.high (omega (arith, ints, m)) in
    omega (arith, ints, c.back-back.ensures, down))

pub add_arc-requires-clause-room : goal.add_arc-requires-clause-room
add_arc-requires-clause-room c =
    let k = c.in-Some.lane in
    let is = c.requires.fits k c.in-Some.is in
    let within = toward_within k.departure k.low k.high in
    omega (arith, ints, c.forward-forward.ensures, c.back-back.ensures, within, is.low, is.high, c.requires.room)

pub returns-in_ok-add_arc : goal.returns-in_ok-add_arc
returns-in_ok-add_arc c =
    let k = c.in-Some.lane in
    let is = c.requires.fits k c.in-Some.is in
    let net = c.args.net.now in
    let grown = c.add_arc.new.self in
    subst (λ (o : Option _). IsJoined (shape_of net) (shape_of grown) (state_of net) (state_of grown) o) (sym c.in-Some.is)
    (record {
      forward = c.forward-forward.result;
      back = c.back-back.result;
      left = c.forward-forward.ensures;
      pushed = c.back-back.ensures;
      arc = subst (λ (x : ℤ). AddsArc (shape_of net) (shape_of grown) (state_of net) (state_of grown) k.from k.to x c.forward-forward.result c.back-back.result) (minus_is k.departure is.departure).1 c.in_ok-add_arc.ensures.added;
    })
