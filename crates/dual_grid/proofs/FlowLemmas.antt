-- What a flow across an edge leaves of its arcs' capacity, and how a push changes it.
use Rattle.std.proofs.Common.{◌≡◌, ℕ, zero, suc, ◌+◌, ◌-◌, ◌*◌, ◌%◌, ◌<◌, ◌≤◌, ◌∙◌, sym, subst, refl, arith, inl, inr, ◌⊎◌, Bool, true, false}
use Rattle.std.specs.Prelude.{ℤ, pos, negsuc, neg_ℤ, ◌+ℤ◌, ◌-ℤ◌, ◌≤ℤ◌, ◌<ℤ◌, ◌==◌, if◌then◌else◌, nat_lt, unsigned_abs}
use Rattle.std.proofs.lemmas.Bool.{cases_Bool}
use Rattle.std.proofs.lemmas.Int.{ints}
use Rattle.std.proofs.lemmas.Nat.{mul-le}
use Rattle.dual_grid.specs.Grids.{amount_of, capacity_of, carried, cost_in_place, is_split, is_taken, leads_forth, residual_at, split_residual, twin_place}
use Rattle.dual_grid.proofs.ArcLemmas.{IsFree, IsPlain, IsSplit, eight_places, free_place, free_unsplit, kinds, plain_place, plain_unsplit, steep_taken}

-- ---- a number in two parts, of which one is 0
pub amount_parts : (q : ℤ) → (q ≡ pos (amount_of q) -ℤ pos (amount_of (neg_ℤ q))) × ((amount_of q ≡ 0) ⊎ (amount_of (neg_ℤ q) ≡ 0))
amount_parts (pos zero) = (omega (arith, ints), inl refl)
amount_parts (pos (suc n)) = (omega (arith, ints), inr refl)
amount_parts (negsuc n) = (omega (arith, ints), inl refl)

pub amount_is : (q : ℤ) → pos 0 ≤ℤ q → pos (amount_of q) ≡ q
amount_is (pos n) h = refl
amount_is (negsuc n) h = absurd (omega (arith, ints, h))

pub amounts_small : (c : ℕ) (q : ℤ) → unsigned_abs q ≤ c → (amount_of q ≤ c) × (amount_of (neg_ℤ q) ≤ c)
amounts_small c q l =
    let p = amount_parts q in
    elim p.1 [
      | inl e ↦ (omega (arith, e), omega (arith, ints, p.0, e, l))
      | inr e ↦ (omega (arith, ints, p.0, e, l), omega (arith, e))
    ]

pub amounts_within : (c : ℕ) (q : ℤ) → amount_of q ≤ c → amount_of (neg_ℤ q) ≤ c → unsigned_abs q ≤ c
amounts_within c q l m = let p = (amount_parts q).0 in omega (arith, ints, p, l, m)

-- parts of numbers that differ by m
more_of : (p b r c m : ℕ) (q s : ℤ) → q ≡ pos p -ℤ pos b → s ≡ pos r -ℤ pos c → (r ≡ 0) ⊎ (c ≡ 0) → s ≡ q +ℤ pos m → b ≡ 0 → (r ≡ p + m) × (c ≡ 0)
more_of p b r c m q s d e (inl f) g h = (omega (arith, ints, d, e, f, g, h), omega (arith, ints, d, e, f, g, h))
more_of p b r c m q s d e (inr f) g h = (omega (arith, ints, d, e, f, g, h), f)

less_of : (p b r c m : ℕ) (q s : ℤ) → q ≡ pos p -ℤ pos b → s ≡ pos r -ℤ pos c → (p ≡ 0) ⊎ (b ≡ 0) → (r ≡ 0) ⊎ (c ≡ 0) → s ≡ q +ℤ pos m → m ≤ b → (r ≡ p) × (c + m ≡ b)
less_of p b r c m q s d e (inl k) (inl f) g h = (omega (arith, k, f), omega (arith, ints, d, e, k, f, g, h))
less_of p b r c m q s d e (inl k) (inr f) g h = (omega (arith, ints, d, e, k, f, g, h), omega (arith, ints, d, e, k, f, g, h))
less_of p b r c m q s d e (inr k) (inl f) g h = (omega (arith, ints, d, e, k, f, g, h), omega (arith, ints, d, e, k, f, g, h))
less_of p b r c m q s d e (inr k) (inr f) g h = (omega (arith, ints, d, e, k, f, g, h), omega (arith, ints, d, e, k, f, g, h))

other_way : (z : ℤ) (a b : ℕ) → z ≡ pos a -ℤ pos b → neg_ℤ z ≡ pos b -ℤ pos a
other_way z a b e = omega (arith, ints, e)

swapped : {A B : Type 0} → A ⊎ B → B ⊎ A
swapped (inl a) = inr a
swapped (inr b) = inl b

-- where nothing flows, all is left
pub nothing_more : (most : ℕ) → most + 0 ≡ most
nothing_more most = omega arith

pub nothing_less : (most : ℕ) → most - 0 ≡ most
nothing_less most = omega arith

-- ---- a flow after an amount went along the arc in a place
abbrev pub flow_after : ℤ → ℕ → ℕ → ℤ
flow_after q k m = if leads_forth k then q +ℤ pos m else q -ℤ pos m

-- the amount leaves the arc's residual and comes to its twin's
abbrev IsMoved : ℕ → ℕ → ℕ → ℤ → ℕ → ℕ → ℕ → Type 0
IsMoved most steep w q k m j = residual_at most steep w (flow_after q k m) j + (if j == k then m else 0) ≡ residual_at most steep w q j + (if j == twin_place w k then m else 0)

-- an arc that leads the same way and costs less has no capacity left
abbrev pub AreIdle : ℕ → ℕ → ℕ → ℤ → ℕ → Type 0
AreIdle most steep w q k = (j : ℕ) → j < 8 → is_taken steep w j ≡ true → leads_forth j ≡ leads_forth k → cost_in_place steep w j <ℤ cost_in_place steep w k → residual_at most steep w q j ≡ 0

-- ---- at a weight of 0
module _ (most steep w : ℕ) (f : IsFree w) (q : ℤ) (l : unsigned_abs q ≤ most) (m : ℕ) where
  z : (w == 0) ≡ true
  z = f.0

  forth_left : pos (amount_of (pos most -ℤ q)) ≡ pos most -ℤ q
  forth_left = amount_is (pos most -ℤ q) (omega (arith, ints, l))

  back_left : pos (amount_of (pos most -ℤ neg_ℤ q)) ≡ pos most -ℤ neg_ℤ q
  back_left = amount_is (pos most -ℤ neg_ℤ q) (omega (arith, ints, l))

  free_within : (k : ℕ) → (k ≡ 0) ⊎ (k ≡ 2) → m ≤ residual_at most steep w q k → unsigned_abs (flow_after q k m) ≤ most
  free_within k (inl e) r = rw e (let h : m ≤ amount_of (pos most -ℤ q) = rw (e, z) at r in omega (arith, ints, h, forth_left, l))
  free_within k (inr e) r = rw e (let h : m ≤ amount_of (pos most -ℤ neg_ℤ q) = rw (e, z) at r in omega (arith, ints, h, back_left, l))

  free_forth : (j : ℕ) → (j ≡ 0) ⊎ (j ≡ 2) → m ≤ amount_of (pos most -ℤ q) → IsMoved most steep w q 0 m j
  free_forth j (inl e) r =
      let after = amount_is (pos most -ℤ (q +ℤ pos m)) (omega (arith, ints, r, forth_left)) in
      rw (e, z) (omega (arith, ints, after, forth_left))
  free_forth j (inr e) r =
      let after = amount_is (pos most -ℤ neg_ℤ (q +ℤ pos m)) (omega (arith, ints, l)) in
      rw (e, z) (omega (arith, ints, after, back_left))

  free_back : (j : ℕ) → (j ≡ 0) ⊎ (j ≡ 2) → m ≤ amount_of (pos most -ℤ neg_ℤ q) → IsMoved most steep w q 2 m j
  free_back j (inl e) r =
      let after = amount_is (pos most -ℤ (q -ℤ pos m)) (omega (arith, ints, l)) in
      rw (e, z) (omega (arith, ints, after, forth_left))
  free_back j (inr e) r =
      let after = amount_is (pos most -ℤ neg_ℤ (q -ℤ pos m)) (omega (arith, ints, r, back_left)) in
      rw (e, z) (omega (arith, ints, after, back_left))

  free_moved : (k j : ℕ) → (k ≡ 0) ⊎ (k ≡ 2) → (j ≡ 0) ⊎ (j ≡ 2) → m ≤ residual_at most steep w q k → IsMoved most steep w q k m j
  free_moved k j (inl e) o r = rw e (free_forth j o (rw (e, z) at r))
  free_moved k j (inr e) o r = rw e (free_back j o (rw (e, z) at r))

-- ---- the parts of a flow after m more went forth, or back
module _ (q : ℤ) (m : ℕ) where
  grown_forth : amount_of (neg_ℤ q) ≡ 0 → (amount_of (q +ℤ pos m) ≡ amount_of q + m) × (amount_of (neg_ℤ (q +ℤ pos m)) ≡ 0)
  grown_forth e =
      let p = amount_parts q in
      let r = amount_parts (q +ℤ pos m) in
      more_of (amount_of q) (amount_of (neg_ℤ q)) (amount_of (q +ℤ pos m)) (amount_of (neg_ℤ (q +ℤ pos m))) m q (q +ℤ pos m) p.0 r.0 r.1 refl e

  shrunk_back : m ≤ amount_of (neg_ℤ q) → (amount_of (q +ℤ pos m) ≡ amount_of q) × (amount_of (neg_ℤ (q +ℤ pos m)) + m ≡ amount_of (neg_ℤ q))
  shrunk_back e =
      let p = amount_parts q in
      let r = amount_parts (q +ℤ pos m) in
      less_of (amount_of q) (amount_of (neg_ℤ q)) (amount_of (q +ℤ pos m)) (amount_of (neg_ℤ (q +ℤ pos m))) m q (q +ℤ pos m) p.0 r.0 p.1 r.1 refl e

  grown_back : amount_of q ≡ 0 → (amount_of (neg_ℤ (q -ℤ pos m)) ≡ amount_of (neg_ℤ q) + m) × (amount_of (q -ℤ pos m) ≡ 0)
  grown_back e =
      let p = amount_parts q in
      let r = amount_parts (q -ℤ pos m) in
      more_of (amount_of (neg_ℤ q)) (amount_of q) (amount_of (neg_ℤ (q -ℤ pos m))) (amount_of (q -ℤ pos m)) m (neg_ℤ q) (neg_ℤ (q -ℤ pos m)) (other_way q (amount_of q) (amount_of (neg_ℤ q)) p.0) (other_way (q -ℤ pos m) (amount_of (q -ℤ pos m)) (amount_of (neg_ℤ (q -ℤ pos m))) r.0) (swapped r.1) (omega (arith, ints)) e

  shrunk_forth : m ≤ amount_of q → (amount_of (neg_ℤ (q -ℤ pos m)) ≡ amount_of (neg_ℤ q)) × (amount_of (q -ℤ pos m) + m ≡ amount_of q)
  shrunk_forth e =
      let p = amount_parts q in
      let r = amount_parts (q -ℤ pos m) in
      less_of (amount_of (neg_ℤ q)) (amount_of q) (amount_of (neg_ℤ (q -ℤ pos m))) (amount_of (q -ℤ pos m)) m (neg_ℤ q) (neg_ℤ (q -ℤ pos m)) (other_way q (amount_of q) (amount_of (neg_ℤ q)) p.0) (other_way (q -ℤ pos m) (amount_of (q -ℤ pos m)) (amount_of (neg_ℤ (q -ℤ pos m))) r.0) (swapped p.1) (swapped r.1) (omega (arith, ints)) e

-- a twin's cost is below 0, and a steep arc costs more
pub turned_below : (c : ℕ) → 0 < c → neg_ℤ (pos c) <ℤ pos c
turned_below c l = omega (arith, ints, l)

pub steeper : (steep w : ℕ) → 1 < steep → 0 < w → pos w <ℤ pos (steep * w)
steeper steep w l m = let more = mul-le 2 w steep w l (omega arith) in omega (arith, ints, more, m)

pub turned_steeper : (steep w : ℕ) → 1 < steep → 0 < w → neg_ℤ (pos (steep * w)) <ℤ neg_ℤ (pos w)
turned_steeper steep w l m = let more = mul-le 2 w steep w l (omega arith) in omega (arith, ints, more, m)

-- one of the four places
abbrev pub IsFirst : ℕ → Type 0
IsFirst k = (k ≡ 0) ⊎ ((k ≡ 1) ⊎ ((k ≡ 2) ⊎ (k ≡ 3)))

-- ---- at a weight above 0, without steep arcs
module _ (most steep w : ℕ) (f : IsPlain steep w) (q : ℤ) (l : unsigned_abs q ≤ most) (m : ℕ) where
  y : (w == 0) ≡ false
  y = f.0.0

  n : nat_lt 1 steep ≡ false
  n = f.1

  small : (amount_of q ≤ most) × (amount_of (neg_ℤ q) ≤ most)
  small = amounts_small most q l

  plain_0 : (j : ℕ) → IsFirst j → m ≤ most - amount_of q → amount_of (neg_ℤ q) ≡ 0 → IsMoved most steep w q 0 m j
  plain_0 j o r i =
      let h = grown_forth q m i in
      elim o [
        | inl e ↦ rw (e, y, n) (omega (arith, h, r, i, small))
        | inr (inl e) ↦ rw (e, y, n) (omega (arith, h, r, i))
        | inr (inr (inl e)) ↦ rw (e, y, n) (omega (arith, h, r, i))
        | inr (inr (inr e)) ↦ rw (e, y, n) (omega (arith, h, r, i))
      ]

  plain_1 : (j : ℕ) → IsFirst j → m ≤ amount_of q → IsMoved most steep w q 1 m j
  plain_1 j o r =
      let h = shrunk_forth q m r in
      elim o [
        | inl e ↦ rw (e, y, n) (omega (arith, h, r, small))
        | inr (inl e) ↦ rw (e, y, n) (omega (arith, h, r))
        | inr (inr (inl e)) ↦ rw (e, y, n) (omega (arith, h, r))
        | inr (inr (inr e)) ↦ rw (e, y, n) (omega (arith, h, r))
      ]

  plain_2 : (j : ℕ) → IsFirst j → m ≤ most - amount_of (neg_ℤ q) → amount_of q ≡ 0 → IsMoved most steep w q 2 m j
  plain_2 j o r i =
      let h = grown_back q m i in
      elim o [
        | inl e ↦ rw (e, y, n) (omega (arith, h, r, i))
        | inr (inl e) ↦ rw (e, y, n) (omega (arith, h, r, i))
        | inr (inr (inl e)) ↦ rw (e, y, n) (omega (arith, h, r, i, small))
        | inr (inr (inr e)) ↦ rw (e, y, n) (omega (arith, h, r, i))
      ]

  plain_3 : (j : ℕ) → IsFirst j → m ≤ amount_of (neg_ℤ q) → IsMoved most steep w q 3 m j
  plain_3 j o r =
      let h = shrunk_back q m r in
      elim o [
        | inl e ↦ rw (e, y, n) (omega (arith, h, r))
        | inr (inl e) ↦ rw (e, y, n) (omega (arith, h, r))
        | inr (inr (inl e)) ↦ rw (e, y, n) (omega (arith, h, r, small))
        | inr (inr (inr e)) ↦ rw (e, y, n) (omega (arith, h, r))
      ]

  -- nothing flows the other way
  none_back : AreIdle most steep w q 0 → amount_of (neg_ℤ q) ≡ 0
  none_back idle = rw (y, n) at (idle 3 (omega arith) f.0.1 refl (turned_below w f.0.2))

  none_forth : AreIdle most steep w q 2 → amount_of q ≡ 0
  none_forth idle = rw (y, n) at (idle 1 (omega arith) f.0.1 refl (turned_below w f.0.2))

  plain_moved : (k j : ℕ) → IsFirst k → IsFirst j → m ≤ residual_at most steep w q k → AreIdle most steep w q k → IsMoved most steep w q k m j
  plain_moved k j (inl e) o r idle = rw e (plain_0 j o (rw (e, y, n) at r) (none_back (rw e at idle)))
  plain_moved k j (inr (inl e)) o r idle = rw e (plain_1 j o (rw (e, y, n) at r))
  plain_moved k j (inr (inr (inl e))) o r idle = rw e (plain_2 j o (rw (e, y, n) at r) (none_forth (rw e at idle)))
  plain_moved k j (inr (inr (inr e))) o r idle = rw e (plain_3 j o (rw (e, y, n) at r))

  plain_within : (k : ℕ) → IsFirst k → m ≤ residual_at most steep w q k → AreIdle most steep w q k → unsigned_abs (flow_after q k m) ≤ most
  plain_within k (inl e) r idle = rw e (let h : m ≤ most - amount_of q = rw (e, y, n) at r in let g = grown_forth q m (none_back (rw e at idle)) in amounts_within most (q +ℤ pos m) (omega (arith, g, h, small)) (omega (arith, g)))
  plain_within k (inr (inl e)) r idle = rw e (let h : m ≤ amount_of q = rw (e, y, n) at r in let g = shrunk_forth q m h in amounts_within most (q -ℤ pos m) (omega (arith, g, small)) (omega (arith, g, small)))
  plain_within k (inr (inr (inl e))) r idle = rw e (let h : m ≤ most - amount_of (neg_ℤ q) = rw (e, y, n) at r in let g = grown_back q m (none_forth (rw e at idle)) in amounts_within most (q -ℤ pos m) (omega (arith, g)) (omega (arith, g, h, small)))
  plain_within k (inr (inr (inr e))) r idle = rw e (let h : m ≤ amount_of (neg_ℤ q) = rw (e, y, n) at r in let g = shrunk_back q m h in amounts_within most (q +ℤ pos m) (omega (arith, g, small)) (omega (arith, g, small)))

-- one of all places
abbrev pub IsAny : ℕ → Type 0
IsAny k = IsFirst k ⊎ ((k ≡ 4) ⊎ ((k ≡ 5) ⊎ ((k ≡ 6) ⊎ (k ≡ 7))))

-- what is true of each of the eight places
pub each_place : (P : ℕ → Type 0) → P 0 → P 1 → P 2 → P 3 → P 4 → P 5 → P 6 → P 7 → (k : ℕ) → IsAny k → P k
each_place P a b c d i j x z k (inl (inl e)) = subst P (sym e) a
each_place P a b c d i j x z k (inl (inr (inl e))) = subst P (sym e) b
each_place P a b c d i j x z k (inl (inr (inr (inl e)))) = subst P (sym e) c
each_place P a b c d i j x z k (inl (inr (inr (inr e)))) = subst P (sym e) d
each_place P a b c d i j x z k (inr (inl e)) = subst P (sym e) i
each_place P a b c d i j x z k (inr (inr (inl e))) = subst P (sym e) j
each_place P a b c d i j x z k (inr (inr (inr (inl e)))) = subst P (sym e) x
each_place P a b c d i j x z k (inr (inr (inr (inr e)))) = subst P (sym e) z

-- ---- at a weight above 0, with steep arcs
module _ (most steep w : ℕ) (f : IsSplit steep w) (q : ℤ) (l : unsigned_abs q ≤ (most + 1)) (m : ℕ) where
  c : (w == 0) ≡ false
  c = f.0.0

  p : nat_lt 1 steep ≡ true
  p = f.1

  tiny : (amount_of q ≤ (most + 1)) × (amount_of (neg_ℤ q) ≤ (most + 1))
  tiny = amounts_small (most + 1) q l

  -- the amount m moves from the place k to its twin, where the parts of the flow change from a and b to r and s
  abbrev Moves : ℕ → ℕ → ℕ → ℕ → ℕ → ℕ → Type 0
  Moves a b r s k j = split_residual most (if nat_lt (j % 4) 2 then r else s) j + (if j == k then m else 0) ≡ split_residual most (if nat_lt (j % 4) 2 then a else b) j + (if j == (if k % 2 == 0 then k + 1 else k - 1) then m else 0)

  moves_0 : (a b r s : ℕ) → m ≤ 1 - a → r ≡ a + m → s ≡ b → (j : ℕ) → IsAny j → Moves a b r s 0 j
  moves_0 a b r s h d e = each_place (Moves a b r s 0) (omega (arith, h, d)) (omega (arith, h, d)) (omega (arith, e)) (omega (arith, e)) (omega (arith, h, d)) (omega (arith, h, d)) (omega (arith, e)) (omega (arith, e))

  moves_1 : (a b r s : ℕ) → m ≤ 1 - (1 - a) → a - 1 ≡ 0 → r + m ≡ a → s ≡ b → (j : ℕ) → IsAny j → Moves a b r s 1 j
  moves_1 a b r s h i d e = each_place (Moves a b r s 1) (omega (arith, h, i, d)) (omega (arith, h, i, d)) (omega (arith, e)) (omega (arith, e)) (omega (arith, h, i, d)) (omega (arith, h, i, d)) (omega (arith, e)) (omega (arith, e))

  moves_2 : (a b r s : ℕ) → m ≤ 1 - b → s ≡ b + m → r ≡ a → (j : ℕ) → IsAny j → Moves a b r s 2 j
  moves_2 a b r s h d e = each_place (Moves a b r s 2) (omega (arith, e)) (omega (arith, e)) (omega (arith, h, d)) (omega (arith, h, d)) (omega (arith, e)) (omega (arith, e)) (omega (arith, h, d)) (omega (arith, h, d))

  moves_3 : (a b r s : ℕ) → m ≤ 1 - (1 - b) → b - 1 ≡ 0 → s + m ≡ b → r ≡ a → (j : ℕ) → IsAny j → Moves a b r s 3 j
  moves_3 a b r s h i d e = each_place (Moves a b r s 3) (omega (arith, e)) (omega (arith, e)) (omega (arith, h, i, d)) (omega (arith, h, i, d)) (omega (arith, e)) (omega (arith, e)) (omega (arith, h, i, d)) (omega (arith, h, i, d))

  moves_4 : (a b r s : ℕ) → m ≤ most - (a - 1) → 1 - a ≡ 0 → a ≤ (most + 1) → r ≡ a + m → s ≡ b → (j : ℕ) → IsAny j → Moves a b r s 4 j
  moves_4 a b r s h i t d e = each_place (Moves a b r s 4) (omega (arith, h, i, d)) (omega (arith, h, i, d)) (omega (arith, e)) (omega (arith, e)) (omega (arith, h, i, t, d)) (omega (arith, h, i, d)) (omega (arith, e)) (omega (arith, e))

  moves_5 : (a b r s : ℕ) → m ≤ a - 1 → a ≤ (most + 1) → r + m ≡ a → s ≡ b → (j : ℕ) → IsAny j → Moves a b r s 5 j
  moves_5 a b r s h t d e = each_place (Moves a b r s 5) (omega (arith, h, d)) (omega (arith, h, d)) (omega (arith, e)) (omega (arith, e)) (omega (arith, h, t, d)) (omega (arith, h, d)) (omega (arith, e)) (omega (arith, e))

  moves_6 : (a b r s : ℕ) → m ≤ most - (b - 1) → 1 - b ≡ 0 → b ≤ (most + 1) → s ≡ b + m → r ≡ a → (j : ℕ) → IsAny j → Moves a b r s 6 j
  moves_6 a b r s h i t d e = each_place (Moves a b r s 6) (omega (arith, e)) (omega (arith, e)) (omega (arith, h, i, d)) (omega (arith, h, i, d)) (omega (arith, e)) (omega (arith, e)) (omega (arith, h, i, t, d)) (omega (arith, h, i, d))

  moves_7 : (a b r s : ℕ) → m ≤ b - 1 → b ≤ (most + 1) → s + m ≡ b → r ≡ a → (j : ℕ) → IsAny j → Moves a b r s 7 j
  moves_7 a b r s h t d e = each_place (Moves a b r s 7) (omega (arith, e)) (omega (arith, e)) (omega (arith, h, d)) (omega (arith, h, d)) (omega (arith, e)) (omega (arith, e)) (omega (arith, h, t, d)) (omega (arith, h, d))

  -- ---- what is idle
  unit_back_idle : AreIdle most steep w q 0 → amount_of (neg_ℤ q) ≡ 0
  unit_back_idle idle = let h : 1 - (1 - amount_of (neg_ℤ q)) ≡ 0 = rw (c, p) at (idle 3 (omega arith) f.0.1 refl (turned_below w f.0.2)) in omega (arith, h)

  unit_forth_idle : AreIdle most steep w q 2 → amount_of q ≡ 0
  unit_forth_idle idle = let h : 1 - (1 - amount_of q) ≡ 0 = rw (c, p) at (idle 1 (omega arith) f.0.1 refl (turned_below w f.0.2)) in omega (arith, h)

  steep_forth_idle : AreIdle most steep w q 1 → amount_of q - 1 ≡ 0
  steep_forth_idle idle = rw (c, p) at (idle 5 (omega arith) (steep_taken steep w f) refl (turned_steeper steep w f.2 f.0.2))

  steep_back_idle : AreIdle most steep w q 3 → amount_of (neg_ℤ q) - 1 ≡ 0
  steep_back_idle idle = rw (c, p) at (idle 7 (omega arith) (steep_taken steep w f) refl (turned_steeper steep w f.2 f.0.2))

  unit_forth_full : AreIdle most steep w q 4 → 1 - amount_of q ≡ 0
  unit_forth_full idle = rw (c, p) at (idle 0 (omega arith) refl refl (steeper steep w f.2 f.0.2))

  unit_back_full : AreIdle most steep w q 6 → 1 - amount_of (neg_ℤ q) ≡ 0
  unit_back_full idle = rw (c, p) at (idle 2 (omega arith) refl refl (steeper steep w f.2 f.0.2))

  -- where something flows one way, nothing flows the other
  only_forth : 1 - amount_of q ≡ 0 → amount_of (neg_ℤ q) ≡ 0
  only_forth e = elim (amount_parts q).1 [ inl i ↦ absurd (omega (arith, e, i)) | inr i ↦ i ]

  only_back : 1 - amount_of (neg_ℤ q) ≡ 0 → amount_of q ≡ 0
  only_back e = elim (amount_parts q).1 [ inl i ↦ i | inr i ↦ absurd (omega (arith, e, i)) ]

  -- ---- by place: the flow afterwards is small, and the amount has moved
  abbrev IsPushed : ℕ → Type 0
  IsPushed k = (unsigned_abs (flow_after q k m) ≤ (most + 1)) × ((j : ℕ) → IsAny j → IsMoved most steep w q k m j)

  split_0 : m ≤ residual_at most steep w q 0 → AreIdle most steep w q 0 → IsPushed 0
  split_0 r idle =
      let h : m ≤ 1 - amount_of q = rw (c, p) at r in
      let i = unit_back_idle idle in
      let g = grown_forth q m i in
      (amounts_within (most + 1) (q +ℤ pos m) (omega (arith, g, h, tiny)) (omega (arith, g)), λ j o. rw (c, p) (moves_0 (amount_of q) (amount_of (neg_ℤ q)) (amount_of (q +ℤ pos m)) (amount_of (neg_ℤ (q +ℤ pos m))) h g.0 (g.1 ∙ sym i) j o))

  split_1 : m ≤ residual_at most steep w q 1 → AreIdle most steep w q 1 → IsPushed 1
  split_1 r idle =
      let h : m ≤ 1 - (1 - amount_of q) = rw (c, p) at r in
      let g = shrunk_forth q m (omega (arith, h)) in
      (amounts_within (most + 1) (q -ℤ pos m) (omega (arith, g, tiny)) (omega (arith, g, tiny)), λ j o. rw (c, p) (moves_1 (amount_of q) (amount_of (neg_ℤ q)) (amount_of (q -ℤ pos m)) (amount_of (neg_ℤ (q -ℤ pos m))) h (steep_forth_idle idle) g.1 g.0 j o))

  split_2 : m ≤ residual_at most steep w q 2 → AreIdle most steep w q 2 → IsPushed 2
  split_2 r idle =
      let h : m ≤ 1 - amount_of (neg_ℤ q) = rw (c, p) at r in
      let i = unit_forth_idle idle in
      let g = grown_back q m i in
      (amounts_within (most + 1) (q -ℤ pos m) (omega (arith, g)) (omega (arith, g, h, tiny)), λ j o. rw (c, p) (moves_2 (amount_of q) (amount_of (neg_ℤ q)) (amount_of (q -ℤ pos m)) (amount_of (neg_ℤ (q -ℤ pos m))) h g.0 (g.1 ∙ sym i) j o))

  split_3 : m ≤ residual_at most steep w q 3 → AreIdle most steep w q 3 → IsPushed 3
  split_3 r idle =
      let h : m ≤ 1 - (1 - amount_of (neg_ℤ q)) = rw (c, p) at r in
      let g = shrunk_back q m (omega (arith, h)) in
      (amounts_within (most + 1) (q +ℤ pos m) (omega (arith, g, tiny)) (omega (arith, g, tiny)), λ j o. rw (c, p) (moves_3 (amount_of q) (amount_of (neg_ℤ q)) (amount_of (q +ℤ pos m)) (amount_of (neg_ℤ (q +ℤ pos m))) h (steep_back_idle idle) g.1 g.0 j o))

  split_4 : m ≤ residual_at most steep w q 4 → AreIdle most steep w q 4 → IsPushed 4
  split_4 r idle =
      let h : m ≤ most - (amount_of q - 1) = rw (c, p) at r in
      let full = unit_forth_full idle in
      let i = only_forth full in
      let g = grown_forth q m i in
      (amounts_within (most + 1) (q +ℤ pos m) (omega (arith, g, h, full, tiny)) (omega (arith, g)), λ j o. rw (c, p) (moves_4 (amount_of q) (amount_of (neg_ℤ q)) (amount_of (q +ℤ pos m)) (amount_of (neg_ℤ (q +ℤ pos m))) h full tiny.0 g.0 (g.1 ∙ sym i) j o))

  split_5 : m ≤ residual_at most steep w q 5 → IsPushed 5
  split_5 r =
      let h : m ≤ amount_of q - 1 = rw (c, p) at r in
      let g = shrunk_forth q m (omega (arith, h)) in
      (amounts_within (most + 1) (q -ℤ pos m) (omega (arith, g, tiny)) (omega (arith, g, tiny)), λ j o. rw (c, p) (moves_5 (amount_of q) (amount_of (neg_ℤ q)) (amount_of (q -ℤ pos m)) (amount_of (neg_ℤ (q -ℤ pos m))) h tiny.0 g.1 g.0 j o))

  split_6 : m ≤ residual_at most steep w q 6 → AreIdle most steep w q 6 → IsPushed 6
  split_6 r idle =
      let h : m ≤ most - (amount_of (neg_ℤ q) - 1) = rw (c, p) at r in
      let full = unit_back_full idle in
      let i = only_back full in
      let g = grown_back q m i in
      (amounts_within (most + 1) (q -ℤ pos m) (omega (arith, g)) (omega (arith, g, h, full, tiny)), λ j o. rw (c, p) (moves_6 (amount_of q) (amount_of (neg_ℤ q)) (amount_of (q -ℤ pos m)) (amount_of (neg_ℤ (q -ℤ pos m))) h full tiny.1 g.0 (g.1 ∙ sym i) j o))

  split_7 : m ≤ residual_at most steep w q 7 → IsPushed 7
  split_7 r =
      let h : m ≤ amount_of (neg_ℤ q) - 1 = rw (c, p) at r in
      let g = shrunk_back q m (omega (arith, h)) in
      (amounts_within (most + 1) (q +ℤ pos m) (omega (arith, g, tiny)) (omega (arith, g, tiny)), λ j o. rw (c, p) (moves_7 (amount_of q) (amount_of (neg_ℤ q)) (amount_of (q +ℤ pos m)) (amount_of (neg_ℤ (q +ℤ pos m))) h tiny.1 g.1 g.0 j o))

  split_pushed : (k : ℕ) → IsAny k → m ≤ residual_at most steep w q k → AreIdle most steep w q k → IsPushed k
  split_pushed = each_place (λ k. m ≤ residual_at most steep w q k → AreIdle most steep w q k → IsPushed k) split_0 split_1 split_2 split_3 split_4 (λ r idle. split_5 r) split_6 (λ r idle. split_7 r)

-- ---- a push along an arc
module _ (most steep w k m : ℕ) (q : ℤ) (below : k < 8) (taken : is_taken steep w k ≡ true) (l : unsigned_abs q ≤ capacity_of most steep w) (room : m ≤ residual_at most steep w q k) (idle : AreIdle most steep w q k) where
  pub place_moved : (j : ℕ) → j < 8 → is_taken steep w j ≡ true → residual_at most steep w (flow_after q k m) j + (if j == k then m else 0) ≡ residual_at most steep w q j + (if j == twin_place w k then m else 0)
  place_moved j b t =
      elim (kinds steep w) [
        | inl f ↦ free_moved most steep w f q (let u = free_unsplit steep w f in rw u at l) m k j (free_place steep w f k taken) (free_place steep w f j t) room
        | inr (inl f) ↦ plain_moved most steep w f q (let u = plain_unsplit steep w f in rw u at l) m k j (plain_place steep w f k taken) (plain_place steep w f j t) room idle
        | inr (inr f) ↦ (split_pushed most steep w f q (let u = steep_taken steep w f in rw u at l) m k (eight_places k below) room idle).1 j (eight_places j b)
      ]

  pub flow_within : unsigned_abs (flow_after q k m) ≤ capacity_of most steep w
  flow_within =
      elim (kinds steep w) [
        | inl f ↦ (let u = free_unsplit steep w f in rw u (free_within most steep w f q (rw u at l) m k (free_place steep w f k taken) room))
        | inr (inl f) ↦ (let u = plain_unsplit steep w f in rw u (plain_within most steep w f q (rw u at l) m k (plain_place steep w f k taken) room idle))
        | inr (inr f) ↦ (let u = steep_taken steep w f in rw u (split_pushed most steep w f q (rw u at l) m k (eight_places k below) room idle).0)
      ]

-- no capacity is above 268435457
pub capacity_small : (most steep w : ℕ) → most ≤ 268435456 → capacity_of most steep w ≤ 268435457
capacity_small most steep w l = elim (cases_Bool (is_split steep w)) [ inl t ↦ rw t (omega (arith, l)) | inr t ↦ rw t (omega (arith, l)) ]

-- no residual is above twice the capacity
pub residual_small : (most steep w : ℕ) (q : ℤ) (k : ℕ) → most ≤ 268435456 → unsigned_abs q ≤ 268435457 → residual_at most steep w q k ≤ 536870913
residual_small most steep w q k few l =
    elim (cases_Bool (w == 0)) [
      | inl y ↦ rw y (free_small (leads_forth k))
      | inr y ↦ elim (cases_Bool (nat_lt 1 steep)) [
        | inl t ↦ rw (y, t) (split_small (nat_lt k 4) (k % 2 == 0) (carried q k) (carried_small (nat_lt (k % 4) 2)))
        | inr t ↦ rw (y, t) (plain_small (k % 2 == 0) (carried q k) (carried_small (nat_lt (k % 4) 2)))
      ]
    ]
  where
    amount_small : (z : ℤ) → z ≤ℤ pos 536870913 → amount_of z ≤ 536870913
    amount_small z h = elim (amount_parts z).1 [ inl e ↦ omega (arith, e) | inr e ↦ (let p = (amount_parts z).0 in omega (arith, ints, p, e, h)) ]

    free_small : (b : Bool) → amount_of (pos most -ℤ (if b then q else neg_ℤ q)) ≤ 536870913
    free_small true = amount_small (pos most -ℤ q) (omega (arith, ints, few, l))
    free_small false = amount_small (pos most -ℤ neg_ℤ q) (omega (arith, ints, few, l))

    carried_small : (b : Bool) → (if b then amount_of q else amount_of (neg_ℤ q)) ≤ 268435457
    carried_small true = (amounts_small 268435457 q l).0
    carried_small false = (amounts_small 268435457 q l).1

    split_small : (b e : Bool) (n : ℕ) → n ≤ 268435457 → (if b then (if e then 1 - n else 1 - (1 - n)) else if e then most - (n - 1) else n - 1) ≤ 536870913
    split_small true true n h = omega (arith, h)
    split_small true false n h = omega (arith, h)
    split_small false true n h = omega (arith, few, h)
    split_small false false n h = omega (arith, h)

    plain_small : (e : Bool) (n : ℕ) → n ≤ 268435457 → (if e then most - n else n) ≤ 536870913
    plain_small true n h = omega (arith, few, h)
    plain_small false n h = omega (arith, h)
