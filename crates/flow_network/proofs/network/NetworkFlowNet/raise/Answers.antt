use Rattle.std.proofs.Common.{arith, ◌≡◌, ◌∙◌, refl, ap}
use Rattle.std.specs.Prelude.{ℤ, List, ℕ, ◌<◌, pos, ◌+ℤ◌, length, get_or}
use Rattle.std.specs.Vec.{with_items}
use Rattle.std.proofs.lemmas.List.{with_items_is}
use Rattle.flow_network.specs.Moves.{IsRaised}
use Rattle.flow_network.specs.Lists.{shape_in, state_in}
use Rattle.flow_network.proofs.PushLemmas.{kept-raised}
use Rattle.flow_network.proofs.RoomLemmas.{room-raised}
use Rattle.flow_network.proofs.network.NetworkFlowNet.raise.Goals as goal

pub add_each-requires-clause-within : goal.add_each-requires-clause-within
add_each-requires-clause-within c = rw c.deref_mut.ensures.value (λ v l. omega (arith, c.requires.within v (omega (arith, c.args.self.now.fit.by_height, l))))

pub invariant_of-self : goal.invariant_of-self
invariant_of-self c =
    let net = c.args.self.now in
    let values = c.add_each.new.values in
    let after = (with_items net.potentials values).items in
    let held : after ≡ values = with_items_is net.potentials values (c.add_each.ensures.length ∙ c.deref_mut.ensures.len) in
    let added : (v : ℕ) → v < length net.potentials.items → get_or values v (pos 0) ≡ get_or net.potentials.items v (pos 0) +ℤ get_or c.args.amounts.now v (pos 0) = rw c.deref_mut.ensures.value at c.add_each.ensures.added in
    let s = shape_in (length net.excesses.items) net.heads.items net.costs.items in
    let f = state_in net.residuals.items net.excesses.items net.potentials.items in
    let g = state_in net.residuals.items net.excesses.items after in
    let raised : IsRaised s c.args.amounts.now f g = record {
      residual = λ b arc. refl;
      excess = λ v l. refl;
      potential = λ v l. ap (λ (xs : List ℤ). get_or xs v (pos 0)) held ∙ added v (omega (arith, net.fit.by_height, l));
    } in
    record {
      fit = record {
        by_arc = net.fit.by_arc;
        by_next = net.fit.by_next;
        by_pair = net.fit.by_pair;
        by_node = net.fit.by_node;
        by_height = ap length held ∙ c.add_each.ensures.length ∙ ap length c.deref_mut.ensures.value ∙ net.fit.by_height;
      };
      is_network = net.is_network;
      linked = net.linked;
      room = room-raised s f g (λ b arc. refl) (λ v l. refl) (λ v l. rw (raised.potential v l) (c.requires.within v l)) net.room;
      has_reduced_costs = kept-raised s f g c.args.amounts.now net.is_network net.has_reduced_costs raised c.requires.kept;
      counted = net.counted;
    }
