use Rattle.std.proofs.Common.{arith, sym, ◌∙◌, refl}
use Rattle.std.specs.Prelude.{length}
use Rattle.std.proofs.lemmas.Int.{ints}
use Rattle.flow_network.specs.Moves.{IsPushed}
use Rattle.flow_network.specs.Lists.{shape_in, state_in, other}
use Rattle.flow_network.proofs.PushLemmas.{kept-pushed, pushed-at}
use Rattle.flow_network.proofs.RoomLemmas.{room-pushed, residual-le, amount-fits, low-fits, high-fits}
use Rattle.flow_network.proofs.network.NetworkFlowNet.push.Goals as goal

pub shift-requires-clause-room : goal.shift-requires-clause-room
shift-requires-clause-room c =
    let net = c.args.self.now in
    let s = shape_in (length net.excesses.items) net.heads.items net.costs.items in
    let f = state_in net.residuals.items net.excesses.items net.potentials.items in
    let x = residual-le s f (other c.args.arc) net.is_network (net.is_network.has_twin c.args.arc c.requires.arc) in
    let y = amount-fits s c.args.arc c.args.amount f net.is_network c.requires.arc net.room c.requires.room in
    let t = net.room.total in
    rw c.other.ensures (omega (arith, ints, x, y, t))

pub carry-requires-clause-from : goal.carry-requires-clause-from
carry-requires-clause-from c =
    let net = c.args.self.now in
    rw c.tail-tail.ensures (net.is_network.ends (other c.args.arc) (net.is_network.has_twin c.args.arc c.requires.arc))

pub carry-requires-clause-to : goal.carry-requires-clause-to
carry-requires-clause-to c = rw c.head-head.ensures (c.args.self.now.is_network.ends c.args.arc c.requires.arc)

pub carry-requires-clause-amount : goal.carry-requires-clause-amount
carry-requires-clause-amount c =
    let net = c.args.self.now in
    let s = shape_in (length net.excesses.items) net.heads.items net.costs.items in
    let f = state_in net.residuals.items net.excesses.items net.potentials.items in
    amount-fits s c.args.arc c.args.amount f net.is_network c.requires.arc net.room c.requires.room

pub carry-requires-clause-low : goal.carry-requires-clause-low
carry-requires-clause-low c =
    let net = c.args.self.now in
    let s = shape_in (length net.excesses.items) net.heads.items net.costs.items in
    let f = state_in net.residuals.items net.excesses.items net.potentials.items in
    rw c.tail-tail.ensures (low-fits s c.args.arc c.args.amount f net.is_network c.requires.arc net.room c.requires.room)

pub carry-requires-clause-high : goal.carry-requires-clause-high
carry-requires-clause-high c =
    let net = c.args.self.now in
    let s = shape_in (length net.excesses.items) net.heads.items net.costs.items in
    let f = state_in net.residuals.items net.excesses.items net.potentials.items in
    rw (c.tail-tail.ensures, c.head-head.ensures) (high-fits s c.args.arc c.args.amount f net.is_network c.requires.arc net.room c.requires.room)

pub invariant_of-self : goal.invariant_of-self
invariant_of-self c =
    let net = c.args.self.now in
    let s = shape_in (length net.excesses.items) net.heads.items net.costs.items in
    let f = state_in net.residuals.items net.excesses.items net.potentials.items in
    let g = state_in c.shift.new.values.items c.carry.new.values.items net.potentials.items in
    let pushed : IsPushed s c.args.arc c.args.amount f g =
    pushed-at s c.args.arc c.args.amount c.tail-tail.result c.head-head.result c.other.result f g c.other.ensures c.tail-tail.ensures c.head-head.ensures (λ b arc. c.shift.ensures.shifted b) (λ v l. c.carry.ensures.carried v) (λ v l. refl) in
    let same = c.carry.ensures.length in
    record {
      fit = record {
        by_arc = c.shift.ensures.length ∙ net.fit.by_arc;
        by_next = net.fit.by_next;
        by_pair = net.fit.by_pair;
        by_node = net.fit.by_node ∙ sym same;
        by_height = net.fit.by_height ∙ sym same;
      };
      is_network = rw same net.is_network;
      linked = rw same net.linked;
      room = rw same (room-pushed s c.args.arc c.args.amount f g net.is_network c.requires.arc pushed net.room);
      has_reduced_costs = rw same (kept-pushed s c.args.arc c.args.amount f g net.is_network net.has_reduced_costs c.requires.arc c.requires.tight pushed);
      counted = rw same net.counted;
    }

pub returns-clause-pushed : goal.returns-clause-pushed
returns-clause-pushed c =
    let net = c.args.self.now in
    let s = shape_in (length net.excesses.items) net.heads.items net.costs.items in
    let f = state_in net.residuals.items net.excesses.items net.potentials.items in
    let g = state_in c.shift.new.values.items c.carry.new.values.items net.potentials.items in
    pushed-at s c.args.arc c.args.amount c.tail-tail.result c.head-head.result c.other.result f g c.other.ensures c.tail-tail.ensures c.head-head.ensures (λ b arc. c.shift.ensures.shifted b) (λ v l. c.carry.ensures.carried v) (λ v l. refl)
