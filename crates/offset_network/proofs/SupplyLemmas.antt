-- Supplies: the flows at the start, counted at the regions.
use Rattle.std.proofs.Common.{◌≡◌, ℕ, ◌+◌, ◌*◌, ◌<◌, ◌≤◌, ◌∙◌, ap, sym, refl, arith, Bool, true, false, List, length, replicate, inl, inr}
use Rattle.std.specs.Prelude.{ℤ, pos, neg_ℤ, ◌+ℤ◌, ◌-ℤ◌, ◌≤ℤ◌, ◌==◌, Option, Some, slice_index_or, unsigned_abs}
use Rattle.std.proofs.lemmas.Int.{ints}
use Rattle.std.proofs.lemmas.List.{get_or-replicate, get_or_past, length-replicate}
use Rattle.flow_network.specs.Growing.{supply_sum, supply_sizes}
use Rattle.offset_network.specs.declared.lane.Lane.{Lane}
use Rattle.offset_network.specs.Lanes.{IsLane, brings, lane_at, lane_start, start_flow}
use Rattle.offset_network.specs.Networks.{AddsAt, AreSupplies, IsSupplied, supply_of}
use Rattle.offset_network.proofs.LaneLemmas.{sum_added, toward_within}
use Rattle.std.proofs.lemmas.Bool.{cases_lt}
use Rattle.sums_and_lists.specs.Sums.{sum_below, where_true}
use Rattle.sums_and_lists.proofs.SumLemmas.{sum_below-add, sum_below-le, sum_below-more, sum_below-none, sum_below-pick, sum_below-zeros}

abbrev values_of : List ℤ → ℕ → ℤ
values_of zs v = slice_index_or zs v (pos 0)

abbrev sizes_of : List ℤ → ℕ → ℤ
sizes_of zs v = pos (unsigned_abs (slice_index_or zs v (pos 0)))

size_added : (t : Bool) (a x z : ℤ) → z ≡ a +ℤ where_true t x → pos (unsigned_abs z) ≤ℤ (pos (unsigned_abs a) +ℤ where_true t (pos (unsigned_abs x)))
size_added true a x z e = omega (arith, ints, e)
size_added false a x z e = omega (arith, ints, e)

-- a number added at one place adds to the sum, and no more than its size to the sizes
module _ (old new : List ℤ) (place : ℕ) (x : ℤ) (p : AddsAt old new place x) (l : place < length old) where
  pub sum-added : supply_sum new ≡ supply_sum old +ℤ x
  sum-added =
      let n : supply_sum new ≡ sum_below (length old) (values_of new) = ap (λ (n : ℕ). sum_below n (values_of new)) p.same_length in
      let s = sum_added (length old) place x (values_of old) (values_of new) l p.added in
      omega (arith, ints, n, s)

  pub sizes-added : supply_sizes new ≤ℤ (supply_sizes old +ℤ pos (unsigned_abs x))
  sizes-added =
      let m = length old in
      let more = λ (v : ℕ). where_true (place == v) (pos (unsigned_abs x)) in
      let n : supply_sizes new ≡ sum_below m (sizes_of new) = ap (λ (n : ℕ). sum_below n (sizes_of new)) p.same_length in
      let s = sum_below-le m (sizes_of new) (λ v. sizes_of old v +ℤ more v) (λ v k. size_added (place == v) (values_of old v) x (values_of new v) (p.added v k)) in
      let a = sum_below-add m (sizes_of old) more in
      let b = sum_below-pick m place (λ v. pos (unsigned_abs x)) l in
      omega (arith, ints, n, s, a, b)

pub both_added : (t u : Bool) (a b c x p q : ℤ) → b ≡ a +ℤ where_true t p → c ≡ b +ℤ where_true u q → p ≡ x → q ≡ neg_ℤ x → c ≡ a +ℤ (where_true t x -ℤ where_true u x)
both_added true true a b c x p q e f g h = omega (arith, ints, e, f, g, h)
both_added true false a b c x p q e f g h = omega (arith, ints, e, f, g, h)
both_added false true a b c x p q e f g h = omega (arith, ints, e, f, g, h)
both_added false false a b c x p q e f g h = omega (arith, ints, e, f, g, h)

-- a lane's flow is counted where it ends and where it starts
pub supplied : (old mid new : List ℤ) (k : Lane) (p q : ℤ) → IsLane (length old) k → p ≡ lane_start k → q ≡ neg_ℤ (lane_start k) → AddsAt old mid k.to p → AddsAt mid new k.from q
    → ((m : ℕ) → ((v : ℕ) → unsigned_abs (slice_index_or old v (pos 0)) ≤ m) → (v : ℕ) → unsigned_abs (slice_index_or mid v (pos 0)) ≤ m + 983025)
    → ((m : ℕ) → ((v : ℕ) → unsigned_abs (slice_index_or mid v (pos 0)) ≤ m) → (v : ℕ) → unsigned_abs (slice_index_or new v (pos 0)) ≤ m + 983025) → IsSupplied old new (Some k)
supplied old mid new k p q is ep eq a b small small' =
    let within = toward_within k.departure k.low k.high in
    let from : k.from < length mid = omega (arith, is.from, a.same_length) in
    record {
      same_length = b.same_length ∙ a.same_length;
      values = λ v l. both_added (k.to == v) (k.from == v) (values_of old v) (values_of mid v) (values_of new v) (lane_start k) p q (a.added v l) (b.added v (omega (arith, l, a.same_length))) ep eq;
      even = omega (arith, ints, ep, eq, sum-added old mid k.to p a is.to, sum-added mid new k.from q b from);
      sizes = omega (arith, ints, ep, eq, within, is.low, is.high, sizes-added old mid k.to p a is.to, sizes-added mid new k.from q b from);
      small = λ m h v. (let s = small' (m + 983025) (small m h) v in omega (arith, s));
    }

pub supplies_start : (n : ℕ) (lanes : List (Option Lane)) (zs : List ℤ) → length zs ≡ n → ((v : ℕ) → slice_index_or zs v (pos 0) ≡ pos 0) → AreSupplies n lanes 0 zs
unfolding supply_of
supplies_start n lanes zs c z = record {
  count = c;
  values = λ v l. z v ∙ sym (sum_below-none (λ j. brings (lane_at lanes j) v (start_flow (lane_at lanes j))));
  even = sum_below-zeros (length zs) (values_of zs) (λ v l. z v);
  sizes = (let e : supply_sizes zs ≡ pos 0 = sum_below-zeros (length zs) (sizes_of zs) (λ v l. rw (z v) refl) in omega (arith, ints, e));
  small = λ v. rw (z v) (omega (arith, ints));
}

pub supplies_next : (n : ℕ) (lanes : List (Option Lane)) (i : ℕ) (old new : List ℤ) (o : Option Lane) → o ≡ lane_at lanes i → AreSupplies n lanes i old → IsSupplied old new o → AreSupplies n lanes (i + 1) new
unfolding supply_of
supplies_next n lanes i old new o e h p =
    let at = λ (v : ℕ) (j : ℕ). brings (lane_at lanes j) v (start_flow (lane_at lanes j)) in
    record {
      count = p.same_length ∙ h.count;
      values = λ v l. (
          let b : brings o v (start_flow o) ≡ at v i = ap (λ (k : Option Lane). brings k v (start_flow k)) e in
          omega (arith, ints, b, p.values v (omega (arith, l, h.count)), h.values v l, sum_below-more i (at v)));
      even = p.even ∙ h.even;
      sizes = omega (arith, ints, p.sizes, h.sizes);
      small = λ v. (let s = p.small (1966050 * i) h.small v in omega (arith, s));
    }

pub zeros : (n v : ℕ) → slice_index_or (replicate n (pos 0)) v (pos 0) ≡ pos 0
zeros n v =
    elim (cases_lt v n) [
      | inl l ↦ get_or-replicate n v (pos 0) (pos 0) l
      | inr l ↦ get_or_past (replicate n (pos 0)) v (pos 0) (omega (arith, l, length-replicate n (pos 0)))
    ]
