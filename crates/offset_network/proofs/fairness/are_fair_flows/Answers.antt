use Rattle.std.proofs.Common.{◌≡◌, ◌∙◌, ℕ, ap, sym, subst, arith, length, pos, replicate}
use Rattle.std.specs.Prelude.{slice_index_or}
use Rattle.std.proofs.lemmas.Int.{ints}
use Rattle.std.proofs.lemmas.List.{length-replicate}
use Rattle.offset_network.specs.Links.{AreLinks}
use Rattle.offset_network.proofs.FairLemmas.{all_small}
use Rattle.offset_network.proofs.SupplyLemmas.{zeros}
use Rattle.offset_network.proofs.fairness.are_fair_flows.Goals as goal

pub are_balanced-requires : goal.are_balanced-requires
are_balanced-requires c =
    let n = length c.args.offsets.now in
    let same : c.in_ok-sums.sums.items ≡ replicate n (pos 0) = c.in_ok-sums.ensures.items_if_clones_equal (λ y h. h) in
    let made : c.deref_mut.result.now ≡ replicate n (pos 0) = c.deref_mut.ensures.value ∙ same in
    let count : length c.deref_mut.result.now ≡ n = ap length made ∙ length-replicate n (pos 0) in
    record {
      links = subst (λ (m : ℕ). AreLinks m c.args.links.now) (sym count) c.requires.links;
      count = c.if-flows-links.false;
      flows = all_small c.args.terms.steep c.args.offsets.now c.args.links.now c.args.flows.now n c.args.terms.steepness.1 c.requires.links c.if-flows-links.false (c.are_fair.ensures c.if-not-are_fair.false);
      zeros = λ v. (let z : slice_index_or c.deref_mut.result.now v (pos 0) ≡ pos 0 = rw made (zeros n v) in omega (arith, ints, z));
    }

pub returns : goal.returns
returns c = λ good. (
    let n = length c.args.offsets.now in
    let same : c.in_ok-sums.sums.items ≡ replicate n (pos 0) = c.in_ok-sums.ensures.items_if_clones_equal (λ y h. h) in
    let made : c.deref_mut.result.now ≡ replicate n (pos 0) = c.deref_mut.ensures.value ∙ same in
    let count : length c.deref_mut.result.now ≡ n = ap length made ∙ length-replicate n (pos 0) in
    record {
      count = c.if-flows-links.false;
      each = c.are_fair.ensures c.if-not-are_fair.false;
      balanced = λ v l. c.are_balanced.ensures good v (omega (arith, count, l));
    })
