-- What the flows on the three lanes of a link cost together: at its departure they meet the steps of the cost.
use Rattle.std.proofs.Common.{◌≡◌, ℕ, zero, suc, ◌+◌, ◌-◌, ◌*◌, ◌<◌, ◌≤◌, sym, arith}
use Rattle.std.specs.Prelude.{ℤ, pos, negsuc, neg_ℤ, ◌+ℤ◌, ◌-ℤ◌, ◌*ℤ◌, ◌≤ℤ◌, ◌<ℤ◌, unsigned_abs}
use Rattle.std.proofs.lemmas.Int.{ints}
use Rattle.raster_model.specs.Raster.{over, steps}
use Rattle.sums_and_lists.proofs.Products.{products}
use Rattle.sums_and_lists.proofs.Orders.{none_left}

-- the flow on a lane is in its range, and at an end of that if the surface departs there
pub record IsHeld (low high : ℕ) (departure x : ℤ) : Type 0 where
  pub least : neg_ℤ (pos low) ≤ℤ x
  pub most : x ≤ℤ pos high
  pub up : pos 0 <ℤ departure → x ≡ pos high
  pub down : departure <ℤ pos 0 → x ≡ neg_ℤ (pos low)

-- a lane on which nothing can flow
pub held_none : (low high : ℕ) (d : ℤ) → low + high ≡ 0 → IsHeld low high d (pos 0)
held_none low high d e = record { least = omega (arith, ints, e); most = omega (arith, ints, e); up = λ l. omega (arith, ints, e); down = λ l. omega (arith, ints, e) }

-- a lane whose arc and twin, where anything is left of them, have no reduced cost below 0
pub held_some : (low high p q : ℕ) (d : ℤ) → p + q ≡ low + high → (0 < p → pos 0 ≤ℤ neg_ℤ d) → (0 < q → pos 0 ≤ℤ d) → IsHeld low high d (pos high -ℤ pos p)
held_some low high p q d e a b = record {
  least = omega (arith, ints, e);
  most = omega (arith, ints);
  up = λ l. (let none : p ≡ 0 = none_left p (λ m. (let h = a m in omega (arith, ints, h, l))) in omega (arith, ints, none));
  down = λ l. (let none : q ≡ 0 = none_left q (λ m. (let h = b m in omega (arith, ints, h, l))) in omega (arith, ints, e, none));
}

-- the bound of a flow at an edge, less what it would cost, and its size
pub record MeetsSteps (g q : ℕ) (d flow : ℤ) : Type 0 where
  pub small : unsigned_abs flow ≤ q * g
  pub equal : (flow *ℤ d) -ℤ pos (over g flow) ≡ pos (g * steps q d)

-- in each case the flow is of one size, and the size above the weight follows
meets : (g q f : ℕ) (d flow : ℤ) → unsigned_abs flow ≡ g + f → g + f ≤ q * g → flow *ℤ d ≡ pos (g * steps q d + f) → MeetsSteps g q d flow
meets g q f d flow size small e =
    let above : over g flow ≡ f = omega (arith, size) in
    record { small = omega (arith, size, small); equal = rw above (omega (arith, ints, e)) }

minus_times : (a n : ℕ) → neg_ℤ (pos a) *ℤ negsuc n ≡ pos (a * suc n)
minus_times a n = simp products (omega (arith, ints))

module _ (g q m : ℕ) (one : 1 ≤ q) (more : q * g ≡ g + m) where
  still : (x y z : ℤ) → IsHeld g g (pos 0) x → y ≡ pos 0 → z ≡ pos 0 → MeetsSteps g q (pos 0) (x +ℤ y +ℤ z)
  still x y z a b c =
      let none : over g (x +ℤ y +ℤ z) ≡ 0 = omega (arith, ints, a.least, a.most, b, c) in
      record { small = omega (arith, ints, a.least, a.most, b, c, more); equal = rw none (omega (arith, ints)) }

  once : (flow : ℤ) → pos g ≤ℤ flow → flow ≤ℤ pos (g + m) → MeetsSteps g q (pos 1) flow
  once (pos n) l h = meets g q (n - g) (pos 1) (pos n) (omega (arith, ints, l)) (omega (arith, ints, l, h, more)) (omega (arith, ints, l))
  once (negsuc n) l h = absurd (omega (arith, ints, l))

  once_down : (flow : ℤ) → neg_ℤ (pos (g + m)) ≤ℤ flow → flow ≤ℤ neg_ℤ (pos g) → MeetsSteps g q (negsuc 0) flow
  once_down flow l h =
      let f : ℕ = unsigned_abs flow - g in
      meets g q f (negsuc 0) flow (omega (arith, ints, l, h)) (omega (arith, ints, l, h, more)) (omega (arith, ints, l, h))

  often : (n : ℕ) → MeetsSteps g q (pos (suc (suc n))) (pos (g + m))
  often n = meets g q m (pos (suc (suc n))) (pos (g + m)) (omega (arith, ints)) (omega (arith, more)) (rw (sym more) (omega (arith, ints, more)))

  often_down : (n : ℕ) → MeetsSteps g q (negsuc (suc n)) (neg_ℤ (pos (g + m)))
  often_down n = meets g q m (negsuc (suc n)) (neg_ℤ (pos (g + m))) (omega (arith, ints)) (omega (arith, more)) (rw (minus_times (g + m) (suc n)) (rw (sym more) (omega (arith, ints, more))))

  pub flow_costs : (d x y z : ℤ) → IsHeld g g d x → IsHeld 0 m (d -ℤ pos 1) y → IsHeld m 0 (d +ℤ pos 1) z → MeetsSteps g q d (x +ℤ y +ℤ z)
  flow_costs (pos zero) x y z a b c = still x y z a (omega (arith, ints, b.down (omega (arith, ints)))) (omega (arith, ints, c.up (omega (arith, ints))))
  flow_costs (pos (suc zero)) x y z a b c =
      let near = a.up (omega (arith, ints)) in
      let below = c.up (omega (arith, ints)) in
      once (x +ℤ y +ℤ z) (omega (arith, ints, near, below, b.least)) (omega (arith, ints, near, below, b.most))
  flow_costs (pos (suc (suc n))) x y z a b c =
      let all : x +ℤ y +ℤ z ≡ pos (g + m) = omega (arith, ints, a.up (omega (arith, ints)), b.up (omega (arith, ints)), c.up (omega (arith, ints))) in
      rw all (often n)
  flow_costs (negsuc zero) x y z a b c =
      let near = a.down (omega (arith, ints)) in
      let above = b.down (omega (arith, ints)) in
      once_down (x +ℤ y +ℤ z) (omega (arith, ints, near, above, c.least)) (omega (arith, ints, near, above, c.most))
  flow_costs (negsuc (suc n)) x y z a b c =
      let all : x +ℤ y +ℤ z ≡ neg_ℤ (pos (g + m)) = omega (arith, ints, a.down (omega (arith, ints)), b.down (omega (arith, ints)), c.down (omega (arith, ints))) in
      rw all (often_down n)

-- what a link takes at a steepness is its weight and what it takes beyond that
pub weight_more : (q g : ℕ) → 1 ≤ q → q * g ≡ g + (q - 1) * g
weight_more zero g one = absurd (omega (arith, one))
weight_more (suc p) g one = let e : suc p - 1 ≡ p = omega arith in rw e (omega arith)
