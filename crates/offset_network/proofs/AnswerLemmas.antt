-- The flows and the offsets that a solved network tells.
use Rattle.std.proofs.Common.{◌≡◌, ℕ, ◌+◌, ◌*◌, ◌≤◌, ap, arith, List, [], ◌∷◌, ◌++◌, length, inl, inr, to_z, of_z, w32, w64, FitsSigned}
use Rattle.std.specs.Prelude.{ℤ, pos, neg_ℤ, ◌+ℤ◌, ◌-ℤ◌, ◌≤ℤ◌, ◌^◌, Option, slice_index_or, unsigned_abs}
use Rattle.std.proofs.lemmas.Int.{ints}
use Rattle.std.proofs.lemmas.List.{get_or_append_left, get_or_past, length-append}
use Rattle.std.proofs.Math.Seq.{get_or-append_seam}
use Rattle.flow_network.specs.Nets.{State}
use Rattle.offset_network.specs.declared.lane.Lane.{Lane}
use Rattle.offset_network.specs.Networks.{AreFlows, AreLowered, AreSums, raised_height, lane_flow, three_from}
use Rattle.sums_and_lists.proofs.Lists.{longer}
use Rattle.sums_and_lists.proofs.Orders.{below_at_past}

-- what is left of an arc is at most what it shares with its twin
pub left_small : (low high p q r : ℕ) → q + r ≡ low + high → (low ≤ 983025) × (high ≤ 983025) → p ≡ q → p ≤ low + high
left_small low high p q r e l f = omega (arith, e, f)

-- a flow in code at 64 bits
pub flow_is : (low high p : ℕ) (x : ℤ) → (low ≤ 983025) × (high ≤ 983025) → p ≤ low + high → x ≡ pos high → FitsSigned w64 (pos p) × FitsSigned w64 (to_z w64 (of_z w64 x) -ℤ to_z w64 p) × (to_z w64 (of_z w64 (to_z w64 (of_z w64 x) -ℤ to_z w64 p)) ≡ pos high -ℤ pos p)
flow_is low high p x l m e = (omega (arith, ints, l, m), omega (arith, ints, l, m, e), omega (arith, ints, l, m, e))

-- and it is small
pub flow_small : (low high p q r : ℕ) → q + r ≡ low + high → (low ≤ 983025) × (high ≤ 983025) → p ≡ q → unsigned_abs (pos high -ℤ pos p) ≤ 983025
flow_small low high p q r e l f = omega (arith, ints, e, l, f)

pub flows_none : (lanes : List (Option Lane)) (f : State) (zs : List ℤ) → zs ≡ [] → AreFlows lanes f 0 zs
flows_none lanes f zs e = record { count = ap length e; values = λ j l. absurd (omega (arith, l)) }

pub flows_more : (lanes : List (Option Lane)) (f : State) (i : ℕ) (zs : List ℤ) (z : ℤ) → z ≡ lane_flow lanes f i → AreFlows lanes f i zs → AreFlows lanes f (i + 1) (zs ++ z ∷ [])
flows_more lanes f i zs z e h = record {
  count = omega (arith, length-append zs (z ∷ []), h.count);
  values = longer (lane_flow lanes f) i zs z h.count h.values e;
}

-- all are small
pub small_none : (zs : List ℤ) → zs ≡ [] → (j : ℕ) → unsigned_abs (slice_index_or zs j (pos 0)) ≤ 983025
small_none zs e j = rw e (let z = get_or_past [] j (pos 0) (omega arith) in omega (arith, ints, z))

pub small_more : (zs : List ℤ) (z : ℤ) → unsigned_abs z ≤ 983025 → ((j : ℕ) → unsigned_abs (slice_index_or zs j (pos 0)) ≤ 983025) → (j : ℕ) → unsigned_abs (slice_index_or (zs ++ z ∷ []) j (pos 0)) ≤ 983025
small_more zs z l h j =
    elim (below_at_past j (length zs)) [
      | inl m ↦ rw (get_or_append_left zs (z ∷ []) (pos 0) j m) (h j)
      | inr (inl m) ↦ rw (m, get_or-append_seam zs z [] (pos 0)) l
      | inr (inr m) ↦ (let e = get_or_past (zs ++ z ∷ []) j (pos 0) (omega (arith, m, length-append zs (z ∷ []))) in omega (arith, ints, e))
    ]

-- the sums of three
sum_fits : (a b c : ℤ) → unsigned_abs a ≤ 983025 → unsigned_abs b ≤ 983025 → unsigned_abs c ≤ 983025 → FitsSigned w64 (to_z w64 (of_z w64 (to_z w64 (of_z w64 a) +ℤ to_z w64 (of_z w64 b))) +ℤ to_z w64 (of_z w64 c)) × (to_z w64 (of_z w64 (to_z w64 (of_z w64 (to_z w64 (of_z w64 a) +ℤ to_z w64 (of_z w64 b))) +ℤ to_z w64 (of_z w64 c))) ≡ a +ℤ b +ℤ c)
sum_fits a b c l m n = (omega (arith, ints, l, m, n), omega (arith, ints, l, m, n))

pub three_fit : (parts : List ℤ) (j : ℕ) → ((i : ℕ) → unsigned_abs (slice_index_or parts i (pos 0)) ≤ 983025) → (let a = slice_index_or parts (3 * j) (pos 0) in let b = slice_index_or parts (3 * j + 1) (pos 0) in let c = slice_index_or parts (3 * j + 2) (pos 0) in FitsSigned w64 (to_z w64 (of_z w64 (to_z w64 (of_z w64 a) +ℤ to_z w64 (of_z w64 b))) +ℤ to_z w64 (of_z w64 c)) × (to_z w64 (of_z w64 (to_z w64 (of_z w64 (to_z w64 (of_z w64 a) +ℤ to_z w64 (of_z w64 b))) +ℤ to_z w64 (of_z w64 c))) ≡ three_from parts j))
three_fit parts j small = sum_fits (slice_index_or parts (3 * j) (pos 0)) (slice_index_or parts (3 * j + 1) (pos 0)) (slice_index_or parts (3 * j + 2) (pos 0)) (small (3 * j)) (small (3 * j + 1)) (small (3 * j + 2))

pub sums_none : (parts zs : List ℤ) → zs ≡ [] → AreSums parts 0 zs
sums_none parts zs e = record { count = ap length e; values = λ j l. absurd (omega (arith, l)) }

pub sums_more : (parts : List ℤ) (i : ℕ) (zs : List ℤ) (z : ℤ) → z ≡ three_from parts i → AreSums parts i zs → AreSums parts (i + 1) (zs ++ z ∷ [])
sums_more parts i zs z e h = record {
  count = omega (arith, length-append zs (z ∷ []), h.count);
  values = longer (three_from parts) i zs z h.count h.values e;
}

pub lowered_more : (start : List ℤ) (f : State) (by : ℤ) (n : ℕ) (zs : List ℤ) (z : ℤ) → z ≡ raised_height start f n -ℤ by → AreLowered start f by n zs → AreLowered start f by (n + 1) (zs ++ z ∷ [])
lowered_more start f by n zs z e h = record {
  count = omega (arith, length-append zs (z ∷ []), h.count);
  values = longer (λ v. raised_height start f v -ℤ by) n zs z h.count h.values e;
}

-- an offset in code at 64 bits
pub by_small : (b : ℤ) → unsigned_abs b ≤ 2 ^ 47 → unsigned_abs (to_z w64 (of_z w64 b)) ≤ 2 ^ 47
by_small b l = omega (arith, ints, l)

pub lowered_is : (h q b : ℤ) (n : ℕ) → h ≡ q → neg_ℤ (pos (2 ^ 42)) ≤ℤ h → h ≤ℤ pos (n * 16777218 + 2 ^ 42) → n ≤ 3145728 → unsigned_abs b ≤ 2 ^ 47 → FitsSigned w64 (to_z w64 (of_z w64 h) -ℤ b) × (to_z w64 (of_z w64 (to_z w64 (of_z w64 h) -ℤ b)) ≡ q -ℤ b)
lowered_is h q b n e low high few small = (omega (arith, ints, e, low, high, few, small), omega (arith, ints, e, low, high, few, small))

-- the height of a region: an offset and a potential
abbrev height_in_code : ℤ → ℤ → ℤ
height_in_code o p = to_z w64 (of_z w64 o) +ℤ to_z w64 (of_z w64 p)

pub record IsHeight (o p q : ℤ) (n : ℕ) : Type 0 where
  pub fits : FitsSigned w64 (height_in_code o p)
  pub value : to_z w64 (of_z w64 (height_in_code o p)) ≡ o +ℤ q
  pub low : neg_ℤ (pos (2 ^ 42)) ≤ℤ to_z w64 (of_z w64 (height_in_code o p))
  pub high : to_z w64 (of_z w64 (height_in_code o p)) ≤ℤ pos (n * 16777218 + 2 ^ 42)

pub region_height : (o p q : ℤ) (n : ℕ) → unsigned_abs o ≤ 2 ^ 42 → p ≡ q → (pos 0 ≤ℤ q) × (q ≤ℤ pos (n * 16777218)) → n ≤ 3145728 → IsHeight o p q n
region_height o p q n small e within few = record {
  fits = omega (arith, ints, small, e, within, few);
  value = omega (arith, ints, small, e, within, few);
  low = omega (arith, ints, small, e, within, few);
  high = omega (arith, ints, small, e, within, few);
}

-- the height of a pixel: that of its region and cycles
pub height_is : (h q c f : ℤ) (n : ℕ) → h ≡ q → neg_ℤ (pos (2 ^ 42)) ≤ℤ h → h ≤ℤ pos (n * 16777218 + 2 ^ 42) → n ≤ 3145728 → unsigned_abs c ≤ 8388608 → f ≡ to_z w32 (of_z w32 c) → FitsSigned w64 (to_z w64 (of_z w64 h) +ℤ to_z w64 (of_z w64 f)) × (to_z w64 (of_z w64 (to_z w64 (of_z w64 h) +ℤ to_z w64 (of_z w64 f))) ≡ q +ℤ c)
height_is h q c f n e low high few small g = (omega (arith, ints, e, low, high, few, small, g), omega (arith, ints, e, low, high, few, small, g))
