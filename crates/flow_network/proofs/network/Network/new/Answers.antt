use Rattle.std.proofs.Common.{◌≡◌, ℕ, ◌<◌, ◌∙◌, ap, refl, arith, length, get_or, None}
use Rattle.std.specs.Prelude.{pos, replicate}
use Rattle.std.proofs.lemmas.List.{get_or-replicate, length-replicate}
use Rattle.flow_network.proofs.AddLemmas.{empty_net, empty_linked, empty_room}
use Rattle.flow_network.proofs.network.Network.new.Goals as goal

pub invariant_of-result : goal.invariant_of-result
invariant_of-result c =
    let supplies = c.args.supplies.items in
    let first = c.in_ok-first.first.items in
    let n : c.len.result ≡ length supplies = c.len.ensures ∙ c.args.supplies.ok.0 in
    let m : c.len-2.result ≡ length supplies = c.len-2.ensures ∙ c.args.supplies.ok.0 in
    let e : c.in_ok-potentials.potentials.items ≡ replicate c.len-2.result (pos 0) = c.in_ok-potentials.ensures.items_if_clones_equal (λ y h. h) in
    let flat : (v : ℕ) → v < length supplies → get_or c.in_ok-potentials.potentials.items v (pos 0) ≡ pos 0 = λ v l. rw e (get_or-replicate c.len-2.result v (pos 0) (pos 0) (omega (arith, m, l))) in
    let none : (v : ℕ) → v < length supplies → get_or first v None ≡ None = λ v l. c.in_ok-first.ensures.none v (omega (arith, n, l)) in
    let a = c.new.ensures.items in
    let b = c.new-2.ensures.items in
    let d = c.new-3.ensures.items in
    let f = c.new-4.ensures.items in
    record {
      fit = rw (a, b, d, f) (record {
        by_arc = refl;
        by_next = refl;
        by_pair = refl;
        by_node = c.in_ok-first.ensures.count ∙ n;
        by_height = ap length e ∙ length-replicate c.len-2.result (pos 0) ∙ m;
      });
      is_network = rw (a, f) (empty_net (length supplies));
      linked = rw (a, d, f) (empty_linked (length supplies) first none);
      room = rw (a, b, f) (empty_room supplies c.in_ok-potentials.potentials.items c.requires.room flat);
      has_reduced_costs = rw (a, b, f) (record { at_least = λ k arc l. absurd (omega arith); even = c.requires.even });
      counted = (c.requires.count, rw a (omega arith));
    }
