use Rattle.displacement.proofs.TotalLemmas.{list_more, list_none}
use Rattle.displacement.proofs.blocks.piece_total.Goals as goal
use Rattle.displacement.specs.Steps.{IsListTotal}
use Rattle.std.proofs.Common.{FitsSigned, arith, pos, rules, slice_index_or, subst, sym, w64, ℕ}
use Rattle.std.proofs.lemmas.Int.{to_z-of_z}

pub loop-value-init : goal.loop-value-init
loop-value-init c = list_none c.args.values.now

pub offset_bounds-values-value-index : goal.offset_bounds-values-value-index
offset_bounds-values-value-index c = search rules

pub plus-total-requires-clause-few : goal.plus-total-requires-clause-few
plus-total-requires-clause-few c = let few = c.loop-value.invariant.few in omega (arith, few)

pub plus-total-requires-clause-within : goal.plus-total-requires-clause-within
plus-total-requires-clause-within c = c.loop-value.invariant.within

pub loop-value-preserved : goal.loop-value-preserved
loop-value-preserved c =
    let fits : FitsSigned w64 (slice_index_or c.args.values.now c.loop-value.value-index (pos 0)) = search rules in
    let same = to_z-of_z w64 (slice_index_or c.args.values.now c.loop-value.value-index (pos 0)) fits in
    list_more c.args.values.now c.loop-value.value-index c.loop-value.total.count c.plus-total.result.count c.loop-value.total.sum c.plus-total.result.sum _ same (subst (FitsSigned w64) (sym same) fits) c.loop-value.invariant c.plus-total.ensures.count c.plus-total.ensures.sum

pub returns : goal.returns
returns c = subst (λ (n : ℕ). IsListTotal c.args.values.now n c.loop-value.total.count c.loop-value.total.sum) (omega arith) c.loop-value.invariant
