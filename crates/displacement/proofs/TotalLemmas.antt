-- Totals of values: steps of a sum, and that all sums fit 128 bits.
use Rattle.std.proofs.Common.{◌≡◌, ℕ, ◌+◌, ◌*◌, ◌≤◌, ℤ, pos, negsuc, neg_ℤ, ◌+ℤ◌, ◌-ℤ◌, ◌*ℤ◌, ◌≤ℤ◌, List, arith, refl, sym, ap, subst, ◌∙◌}
use Rattle.std.specs.Prelude.{Bool, true, false, FitsSigned, slice_index_or}
use Rattle.std.specs.Int.{w64, w128}
use Rattle.std.proofs.lemmas.Int.{ints}
use Rattle.sums_and_lists.specs.Sums.{count_below, sum_below, one_if, where_true}
use Rattle.sums_and_lists.proofs.CountLemmas.{count_below-more, count_below-none}
use Rattle.sums_and_lists.proofs.SumLemmas.{sum_below-more, sum_below-none}
use Rattle.sums_and_lists.proofs.Tests.{one_at_most}
use Rattle.grid_writer.specs.Values.{is_value, no_data}
use Rattle.grid_writer.proofs.NoData.{a_value, no_value}
use Rattle.displacement.specs.Steps.{IsListTotal, MayBeSum}
use Rattle.displacement.proofs.MeanLemmas.{grows}

-- ---- one value

pub counts_none : (n : ℕ) (z : ℤ) → z ≡ no_data → n ≡ n + one_if (is_value z)
counts_none n z e = subst (λ (b : Bool). n ≡ n + one_if b) (sym (no_value z e)) (omega arith)

pub counts_one : (n : ℕ) (z : ℤ) → (z ≡ no_data → ⊥) → n + 1 ≡ n + one_if (is_value z)
counts_one n z ne = subst (λ (b : Bool). n + 1 ≡ n + one_if b) (sym (a_value z ne)) refl

pub adds_none : (s z : ℤ) → z ≡ no_data → s ≡ s +ℤ where_true (is_value z) z
adds_none s z e = subst (λ (b : Bool). s ≡ s +ℤ where_true b z) (sym (no_value z e)) (omega (arith, ints))

pub adds_one : (s z : ℤ) → (z ≡ no_data → ⊥) → s +ℤ z ≡ s +ℤ where_true (is_value z) z
adds_one s z ne = subst (λ (b : Bool). s +ℤ z ≡ s +ℤ where_true b z) (sym (a_value z ne)) refl

-- ---- bounds of sums

pub within_none : MayBeSum 0 (pos 0)
within_none = record { above = omega (arith, ints); below = omega (arith, ints) }

within_step : (b : Bool) (n : ℕ) (s z : ℤ) → FitsSigned w64 z → MayBeSum n s → MayBeSum (n + one_if b) (s +ℤ where_true b z)
within_step true n s z fits h = let a = h.above in let b = h.below in record { above = omega (arith, ints); below = omega (arith, ints) }
within_step false n s z fits h = let a = h.above in let b = h.below in record { above = omega (arith, ints); below = omega (arith, ints) }

pub within_join : (m n : ℕ) (s t : ℤ) → MayBeSum m s → MayBeSum n t → MayBeSum (m + n) (s +ℤ t)
within_join m n s t h k = let a = h.above in let b = h.below in let c = k.above in let d = k.below in record { above = omega (arith, ints); below = omega (arith, ints) }

-- ---- sums that fit 128 bits

pub fits_wide : (z : ℤ) → neg_ℤ (pos 1329227995784915872903807060280344576) ≤ℤ z → z ≤ℤ pos 1329227995784915872903807060280344576 → FitsSigned w128 z
fits_wide (pos n) a b = let h : n ≤ 1329227995784915872903807060280344576 = omega (arith, ints) in record { sfits = omega arith }
fits_wide (negsuc n) a b = let h : n ≤ 1329227995784915872903807060280344576 = omega (arith, ints) in record { sfits = omega arith }

pub plus_fits : (n : ℕ) (s z : ℤ) → n ≤ 4096 → MayBeSum n s → FitsSigned w64 z → FitsSigned w128 (s +ℤ z)
plus_fits n s z few h fits = let a = h.above in let b = h.below in fits_wide (s +ℤ z) (omega (arith, ints)) (omega (arith, ints))

pub join_fits : (m n : ℕ) (s t : ℤ) → m + n ≤ 4096 → MayBeSum m s → MayBeSum n t → FitsSigned w128 (s +ℤ t)
join_fits m n s t few h k = let a = h.above in let b = h.below in let c = k.above in let d = k.below in fits_wide (s +ℤ t) (omega (arith, ints)) (omega (arith, ints))

-- n times a number of 64 bits
times_within : (n : ℕ) (r : ℤ) → FitsSigned w64 r → MayBeSum n (pos n *ℤ r)
times_within n r fits = record {
  above = grows n (neg_ℤ (pos 9223372036854775808)) r (omega (arith, ints));
  below = grows n r (pos 9223372036854775808) (omega (arith, ints));
}

pub times_fits : (n : ℕ) (r : ℤ) → n ≤ 4096 → FitsSigned w64 r → FitsSigned w128 (pos n *ℤ r)
times_fits n r few fits = let a = (times_within n r fits).above in let b = (times_within n r fits).below in fits_wide (pos n *ℤ r) (omega (arith, ints)) (omega (arith, ints))

-- the rise of n numbers above a reference
pub record IsRise (z : ℤ) : Type 0 where
  pub above : neg_ℤ (pos 75557863725914323419136) ≤ℤ z
  pub below : z ≤ℤ pos 75557863725914323419136

pub rise_is : (n : ℕ) (s r : ℤ) → n ≤ 4096 → MayBeSum n s → FitsSigned w64 r → IsRise (s -ℤ pos n *ℤ r)
rise_is n s r few h fits =
    let a = h.above in let b = h.below in
    let c = (times_within n r fits).above in let d = (times_within n r fits).below in
    record { above = omega (arith, ints); below = omega (arith, ints) }

pub rise_fits : (n : ℕ) (s r : ℤ) → n ≤ 4096 → MayBeSum n s → FitsSigned w64 r → FitsSigned w128 (s -ℤ pos n *ℤ r)
rise_fits n s r few h fits = let a = (rise_is n s r few h fits).above in let b = (rise_is n s r few h fits).below in fits_wide (s -ℤ pos n *ℤ r) (omega (arith, ints)) (omega (arith, ints))

pub scaled_fits : (w : ℕ) (z : ℤ) → w ≤ 1000000000 → IsRise z → FitsSigned w128 (pos w *ℤ z)
scaled_fits w z few h =
    let a : neg_ℤ (pos (w * 75557863725914323419136)) ≤ℤ (pos w *ℤ z) = grows w (neg_ℤ (pos 75557863725914323419136)) z h.above in
    let b : (pos w *ℤ z) ≤ℤ pos (w * 75557863725914323419136) = grows w z (pos 75557863725914323419136) h.below in
    fits_wide (pos w *ℤ z) (omega (arith, ints)) (omega (arith, ints))

-- ---- lists

pub list_none : (zs : List ℤ) → IsListTotal zs 0 0 (pos 0)
list_none zs = record {
  counted = sym (count_below-none (λ k. one_if (is_value (slice_index_or zs k (pos 0)))));
  summed = sym (sum_below-none (λ k. where_true (is_value (slice_index_or zs k (pos 0))) (slice_index_or zs k (pos 0))));
  few = omega arith;
  within = within_none;
}

pub list_more : (zs : List ℤ) (n c d : ℕ) (s t z : ℤ) → z ≡ slice_index_or zs n (pos 0) → FitsSigned w64 z → IsListTotal zs n c s → d ≡ c + one_if (is_value z) → t ≡ s +ℤ where_true (is_value z) z → IsListTotal zs (n + 1) d t
list_more zs n c d s t z at fits h e f =
    let counts : ℕ → ℕ = λ k. one_if (is_value (slice_index_or zs k (pos 0))) in
    let sums : ℕ → ℤ = λ k. where_true (is_value (slice_index_or zs k (pos 0))) (slice_index_or zs k (pos 0)) in
    let one = one_at_most (is_value z) in
    let few = h.few in
    record {
      counted = e ∙ ap (λ (k : ℕ). k + one_if (is_value z)) h.counted ∙ ap (λ (v : ℤ). count_below n counts + one_if (is_value v)) at ∙ sym (count_below-more n counts);
      summed = f ∙ ap (λ (k : ℤ). k +ℤ where_true (is_value z) z) h.summed ∙ ap (λ (v : ℤ). sum_below n sums +ℤ where_true (is_value v) v) at ∙ sym (sum_below-more n sums);
      few = omega (arith, e);
      within = subst (λ (k : ℕ). MayBeSum k t) (sym e) (subst (λ (k : ℤ). MayBeSum (c + one_if (is_value z)) k) (sym f) (within_step (is_value z) c s z fits h.within));
    }
