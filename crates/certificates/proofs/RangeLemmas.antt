-- Cycles in range, pixel by pixel of a window in row order.
use Rattle.std.proofs.Common.{◌≡◌, ℕ, ◌+◌, ◌-◌, ◌<◌, ◌≤◌, ℤ, List, length, Bool, true, false, refl, arith, inl, inr, ◌⊎◌}
use Rattle.std.specs.Prelude.{IsTrue, ◌||◌, not, nat_lt, pos, slice_index_or, unsigned_abs}
use Rattle.std.proofs.lemmas.Nat.{mul-add-lt}
use Rattle.raster_model.specs.declared.tiling.Window.{Window}
use Rattle.raster_model.specs.Seams.{IsEarlier}
use Rattle.raster_model.specs.Sums.{Field}
use Rattle.raster_model.specs.Tiles.{IsWithin, height_of, place_in, width_of}
use Rattle.certificates.specs.Growth.{AreAllInRange}
use Rattle.certificates.specs.Results.{listed_cycles, pixels_in, IsInRange, AreInRange, AreInRangeBefore, IsFirstOutside}
use Rattle.certificates.proofs.EdgeLemmas.{earlier_more}
use Rattle.sums_and_lists.proofs.Orders.{below_or_last, not_lt}

not_earlier : (a b x y : ℕ) → x ≤ a → y ≤ b → IsEarlier a b x y → ⊥
not_earlier a b x y l m (inl n) = omega (arith, m, n)
not_earlier a b x y l m (inr n) = omega (arith, l, n)

in_row : (a b x y : ℕ) → a < x → IsEarlier a b 0 (y + 1) → IsEarlier a b x y
in_row a b x y l (inl m) = split b y a x l m
  where
    split : (b y a x : ℕ) → a < x → b < y + 1 → (b < y) ⊎ ((b ≡ y) × (a < x))
    split b y a x l m = grind arith
in_row a b x y l (inr m) = absurd (omega (arith, m.1))

module _ (v : Window) (mask : Field Bool) (cycles : List ℤ) where
  pub none_before : AreInRangeBefore v mask cycles v.x0 v.y0
  none_before a b o l = absurd (not_earlier a b v.x0 v.y0 o.0.0 o.0.2 l)

  pub one_more : (x y : ℕ) → AreInRangeBefore v mask cycles x y → (IsTrue (mask x y) → IsInRange v cycles x y) → AreInRangeBefore v mask cycles (x + 1) y
  one_more x y before here a b o l =
      elim (earlier_more a b x y l) [ inl e ↦ before a b o e | inr m ↦ rw (m.0, m.1) (here (rw (← m.0, ← m.1) o.1)) ]

  pub row_more : (x y : ℕ) → v.x1 < x → AreInRangeBefore v mask cycles x y → AreInRangeBefore v mask cycles v.x0 (y + 1)
  row_more x y last before a b o (inl m) = before a b o (in_row a b x y (omega (arith, o.0.1, last)) (inl m))
  row_more x y last before a b o (inr m) = absurd (omega (arith, o.0.0, m.1))

  pub all_before : (y : ℕ) → v.y1 < y → AreInRangeBefore v mask cycles v.x0 y → AreInRange v mask cycles
  all_before y last before a b o = before a b o (inl (omega (arith, o.0.3, last)))

  pub first_outside : (x y : ℕ) (z : ℤ) (u : ℕ) → IsWithin v x y → IsTrue (mask x y) → AreInRangeBefore v mask cycles x y → z ≡ listed_cycles v cycles x y → u ≡ unsigned_abs z → 8388608 < u → IsFirstOutside v mask cycles x y
  first_outside x y z u w o before e f l = record {
    pixel = (w, o);
    outside = λ i. above u (rw (f, e) i) l;
    first = before;
  }
    where
      above : (n : ℕ) → n ≤ 8388608 → 8388608 < n → ⊥
      above n p q = omega (arith, p, q)

  pub in_range : (x y : ℕ) (z : ℤ) (u : ℕ) → z ≡ listed_cycles v cycles x y → u ≡ unsigned_abs z → u ≤ 8388608 → IsInRange v cycles x y
  in_range x y z u e f l = rw (← e, ← f) l

-- ---- a list that is in range as a whole
pub neither : (a b : Bool) → (a || b) ≡ false → (a ≡ false) × (b ≡ false)
neither true b e = absurd cc
neither false b e = (refl, e)

pub is_false : (b : Bool) → IsTrue (not b) → b ≡ false
is_false true e = absurd cc
is_false false e = refl

pub one_in : (xs : List ℤ) (n : ℕ) (outside : Bool) (u : ℕ) → (outside ≡ false → (v : ℕ) → v < n → unsigned_abs (slice_index_or xs v (pos 0)) ≤ 8388608) → u ≡ unsigned_abs (slice_index_or xs n (pos 0)) → (outside || nat_lt 8388608 u) ≡ false → (v : ℕ) → v < n + 1 → unsigned_abs (slice_index_or xs v (pos 0)) ≤ 8388608
one_in xs n outside u before is e v l =
    let both = neither outside (nat_lt 8388608 u) e in
    elim (below_or_last v n l) [ inl m ↦ before both.0 v m | inr m ↦ rw (m, ← is) (not_lt 8388608 u both.1) ]

place_below : (p n m : ℕ) → p < m → n ≡ m → p < n
place_below p n m l e = omega (arith, l, e)

pub all_in : (v : Window) (mask : Field Bool) (cycles : List ℤ) → length cycles ≡ pixels_in v → AreAllInRange cycles → AreInRange v mask cycles
all_in v mask cycles count all x y o =
    all (place_in v x y)
    (place_below (place_in v x y) (length cycles) (pixels_in v) (mul-add-lt (y - v.y0) (width_of v) (x - v.x0) (height_of v) (omega (arith, o.0)) (omega (arith, o.0))) count)
