-- Means that are rounded down: the quotient is one, and no other number is.
use Rattle.std.proofs.Common.{◌≡◌, ℕ, suc, ◌*◌, ◌/◌, ◌<◌, ◌≤◌, ℤ, pos, negsuc, neg_ℤ, ◌+ℤ◌, ◌*ℤ◌, ◌≤ℤ◌, ◌<ℤ◌, arith, sym, ap, subst, ◌∙◌, to_z, of_z}
use Rattle.std.proofs.Math.Nat.{div-mul-le_self, lt-div-mul-add, mul-le-mul_left}
use Rattle.std.proofs.lemmas.Int.{by_lt_z, ints, to_z-of_z}
use Rattle.std.specs.Prelude.{FitsSigned}
use Rattle.std.specs.Int.{int_div_euclid, w128}
use Rattle.sums_and_lists.proofs.Products.{mul-neg}
use Rattle.displacement.specs.Displacements.{IsMean}
use Rattle.displacement.specs.Steps.{IsFloor}

above_negative : (m k a : ℕ) → k * m ≤ a → negsuc a <ℤ (pos m *ℤ (negsuc k +ℤ pos 1))
above_negative m k a h =
    let e : (negsuc k +ℤ pos 1) ≡ neg_ℤ (pos k) = omega (arith, ints) in
    subst (λ (z : ℤ). negsuc a <ℤ (pos m *ℤ z)) (sym e) (subst (λ (z : ℤ). negsuc a <ℤ z) (sym (mul-neg (pos m) (pos k))) (omega (arith, ints)))

floor_is : (m : ℕ) (a : ℤ) → 0 < m → IsFloor a (pos m) (int_div_euclid a (pos m))
floor_is m (pos a) some =
    let least = div-mul-le_self a m in
    let most = lt-div-mul-add {a = a} {b = m} some in
    record { least = omega (arith, ints); most = omega (arith, ints) }
floor_is m (negsuc a) some =
    let least = div-mul-le_self a m in
    let most = lt-div-mul-add {a = a} {b = m} some in
    record { least = omega (arith, ints); most = above_negative m (a / m) a least }

-- products with a number that is not below 0 keep the order
pub grows : (m : ℕ) (d e : ℤ) → d ≤ℤ e → (pos m *ℤ d) ≤ℤ (pos m *ℤ e)
grows m (pos d) (pos e) le = let h : m * d ≤ m * e = mul-le-mul_left {m = d} {n = e} m (omega (arith, ints)) in omega (arith, ints)
grows m (pos d) (negsuc e) le = absurd (omega (arith, ints))
grows m (negsuc d) (pos e) le = omega (arith, ints)
grows m (negsuc d) (negsuc e) le = let h : m * suc e ≤ m * suc d = mul-le-mul_left {m = suc e} {n = suc d} m (omega (arith, ints)) in omega (arith, ints)

clash : (a x y : ℤ) → a <ℤ x → x ≤ℤ y → y ≤ℤ a → ⊥
clash a x y p q r = omega (arith, ints)

not_below : (m : ℕ) (a d e : ℤ) → IsFloor a (pos m) d → IsFloor a (pos m) e → d <ℤ e → ⊥
not_below m a d e p q l = clash a (pos m *ℤ (d +ℤ pos 1)) (pos m *ℤ e) p.most (grows m (d +ℤ pos 1) e (omega (arith, ints))) q.least

pub floor_unique : (m : ℕ) (a d e : ℤ) → IsFloor a (pos m) d → IsFloor a (pos m) e → d ≡ e
floor_unique m a d e p q =
    by_lt_z d e (λ l. absurd (not_below m a d e p q l))
    (λ ge. by_lt_z e d (λ l. absurd (not_below m a e d q p l)) (λ le. omega (arith, ints)))

floor_positive : (a d : ℤ) → pos 0 <ℤ d → IsFloor a d (int_div_euclid a d)
floor_positive a (pos m) some = floor_is m a (omega (arith, ints))
floor_positive a (negsuc m) some = absurd (omega (arith, ints))

-- what the code's division gives
pub floor_held : (a d q : ℤ) → FitsSigned w128 a → FitsSigned w128 d → FitsSigned w128 q → pos 0 <ℤ d → q ≡ int_div_euclid (to_z w128 (of_z w128 a)) (to_z w128 (of_z w128 d)) → IsFloor a d (to_z w128 (of_z w128 q))
floor_held a d q f g h some e = subst (IsFloor a d) (sym (to_z-of_z w128 q h ∙ e ∙ ap (λ (z : ℤ). int_div_euclid z (to_z w128 (of_z w128 d))) (to_z-of_z w128 a f) ∙ ap (int_div_euclid a) (to_z-of_z w128 d g))) (floor_positive a d some)

pub mean_unique : (w n : ℕ) (s d e : ℤ) → IsMean w n s d → IsMean w n s e → d ≡ e
mean_unique w n s d e p q = floor_unique (131072 * n) (pos w *ℤ s) d e (record { least = p.least; most = p.most }) (record { least = q.least; most = q.most })
