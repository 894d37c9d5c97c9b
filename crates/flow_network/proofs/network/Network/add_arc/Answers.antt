use Rattle.std.proofs.Common.{◌≡◌, ℕ, ◌+◌, ◌*◌, ◌<◌, sym, ◌∙◌, ap, refl, arith, List, [], ◌∷◌, ◌++◌, length, get_or}
use Rattle.std.specs.Prelude.{ℤ, Option, Some, None, slice_set}
use Rattle.std.proofs.lemmas.List.{get_or_default, length-set}
use Rattle.std.proofs.lemmas.Int.{to_z-of_z}
use Rattle.std.specs.Int.{w64}
use Rattle.flow_network.proofs.AddLemmas.{net_more, kept_more, room_more, linked_more, two_length, fit_more, grown}
use Rattle.flow_network.proofs.network.Network.add_arc.Goals as goal

pub invariant_of-self-2 : goal.invariant_of-self-2
invariant_of-self-2 c =
    let net = c.args.self.now in
    let heads = net.heads.items in
    let next = net.next.items in
    let first = net.first.items in
    let t = c.args.tail in
    let h = c.args.head in
    let k = length net.costs.items in
    let even : length heads ≡ 2 * k = sym net.fit.by_pair in
    let el : c.len-arc.result ≡ length heads = c.len-arc.ensures ∙ c.reserve.ensures.len ∙ net.heads.ok.0 in
    let eh : c.push_reserved-2.new.items.items ≡ heads ++ h ∷ [] ++ t ∷ [] = c.push_reserved-2.ensures.items ∙ ap (λ (x : List ℕ). x ++ t ∷ []) (c.push_reserved.ensures.items ∙ ap (λ (x : List ℕ). x ++ h ∷ []) c.reserve.ensures.items) in
    let er : c.push_reserved-4.new.items.items ≡ net.residuals.items ++ c.args.forward ∷ [] ++ c.args.back ∷ [] = c.push_reserved-4.ensures.items ∙ ap (λ (x : List ℕ). x ++ c.args.back ∷ []) (c.push_reserved-3.ensures.items ∙ ap (λ (x : List ℕ). x ++ c.args.forward ∷ []) c.reserve-2.ensures.items) in
    let ec : c.push_reserved-5.new.items.items ≡ net.costs.items ++ c.args.cost ∷ [] = c.push_reserved-5.ensures.items ∙ ap (λ (y : ℤ). c.reserve-4.new.self.items ++ y ∷ []) (to_z-of_z w64 c.args.cost c.ranges.cost) ∙ ap (λ (x : List ℤ). x ++ c.args.cost ∷ []) c.reserve-4.ensures.items in
    let lt : t < length first = omega (arith, net.fit.by_node, c.requires.tail) in
    let lh : h < length first = omega (arith, net.fit.by_node, c.requires.head) in
    let x : c.index-after_tail.result.now ≡ get_or first t None = c.index-after_tail.ensures ∙ get_or_default first t c.index-after_tail.result.now None lt in
    let one = slice_set first t (Some (length heads)) in
    let y : c.index-after_head.result.now ≡ get_or one h None = (let i = c.index-after_head.ensures in i ∙ ap (λ (n : ℕ). get_or (slice_set first t (Some n)) h c.index-after_head.result.now) el ∙ get_or_default one h c.index-after_head.result.now None (omega (arith, lh, length-set first t (Some (length heads))))) in
    let en : c.push_reserved-7.new.items.items ≡ next ++ get_or first t None ∷ [] ++ get_or one h None ∷ [] = c.push_reserved-7.ensures.items ∙ ap (λ (z : List (Option ℕ)). z ++ c.index-after_head.result.now ∷ []) (c.push_reserved-6.ensures.items ∙ ap (λ (z : List (Option ℕ)). z ++ c.index-after_tail.result.now ∷ []) c.reserve-3.ensures.items ∙ ap (λ (z : Option ℕ). next ++ z ∷ []) x) ∙ ap (λ (z : Option ℕ). next ++ get_or first t None ∷ [] ++ z ∷ []) y in
    record {
      fit = rw (eh, er, en, ec) (fit_more heads net.residuals.items next net.costs.items first net.excesses.items net.potentials.items t h c.args.forward c.args.back c.args.cost (get_or first t None) (get_or one h None) (Some c.len-arc.result) (Some (c.len-arc.result + 1)) net.fit);
      is_network = rw (eh, ec) (net_more k t h c.args.forward c.args.back c.args.cost heads net.residuals.items net.costs.items net.excesses.items net.potentials.items even refl net.fit.by_arc c.requires.tail c.requires.head net.is_network);
      linked = rw (eh, ec, en, el) (linked_more (length net.excesses.items) k t h heads net.costs.items (net.costs.items ++ c.args.cost ∷ []) even first next net.fit.by_node net.fit.by_next c.requires.tail c.requires.head net.linked);
      room = rw (eh, ec, er) (room_more k t h c.args.forward c.args.back c.args.cost heads net.residuals.items net.costs.items net.excesses.items net.potentials.items even refl net.fit.by_arc c.requires.tail c.requires.head net.is_network net.room c.requires.cost c.requires.room);
      has_reduced_costs = rw (eh, ec, er) (kept_more k t h c.args.forward c.args.back c.args.cost heads net.residuals.items net.costs.items net.excesses.items net.potentials.items even refl net.fit.by_arc c.requires.tail c.requires.head net.is_network net.has_reduced_costs c.requires.flat c.requires.no_forward c.requires.no_back);
      counted = (net.counted.0, rw eh (let m = two_length heads h t in omega (arith, m, c.requires.count)));
    }

pub returns-clause-added : goal.returns-clause-added
returns-clause-added c =
    let net = c.args.self.now in
    let heads = net.heads.items in
    let t = c.args.tail in
    let h = c.args.head in
    let eh : c.push_reserved-2.new.items.items ≡ heads ++ h ∷ [] ++ t ∷ [] = c.push_reserved-2.ensures.items ∙ ap (λ (x : List ℕ). x ++ t ∷ []) (c.push_reserved.ensures.items ∙ ap (λ (x : List ℕ). x ++ h ∷ []) c.reserve.ensures.items) in
    let er : c.push_reserved-4.new.items.items ≡ net.residuals.items ++ c.args.forward ∷ [] ++ c.args.back ∷ [] = c.push_reserved-4.ensures.items ∙ ap (λ (x : List ℕ). x ++ c.args.back ∷ []) (c.push_reserved-3.ensures.items ∙ ap (λ (x : List ℕ). x ++ c.args.forward ∷ []) c.reserve-2.ensures.items) in
    let ec : c.push_reserved-5.new.items.items ≡ net.costs.items ++ c.args.cost ∷ [] = c.push_reserved-5.ensures.items ∙ ap (λ (y : ℤ). c.reserve-4.new.self.items ++ y ∷ []) (to_z-of_z w64 c.args.cost c.ranges.cost) ∙ ap (λ (x : List ℤ). x ++ c.args.cost ∷ []) c.reserve-4.ensures.items in
    rw (eh, er, ec) (grown (length net.costs.items) t h c.args.forward c.args.back c.args.cost heads net.residuals.items net.costs.items net.excesses.items net.potentials.items (sym net.fit.by_pair) refl net.fit.by_arc c.requires.tail c.requires.head)
