-- Flows on links, judged one by one and added up.
use Rattle.std.proofs.Common.{◌≡◌, ℕ, ◌+◌, ◌*◌, ◌<◌, ◌≤◌, ◌^◌, ◌∙◌, ap, sym, refl, arith, List, length, inl, inr, to_z, of_z, w32, w64}
use Rattle.std.specs.Int.{w128}
use Rattle.std.specs.Prelude.{ℤ, pos, neg_ℤ, ◌+ℤ◌, ◌-ℤ◌, ◌*ℤ◌, ◌==◌, nat_eq, IsTrue, Option, Some, None, unsigned_abs}
use Rattle.std.proofs.lemmas.Int.{ints}
use Rattle.std.proofs.lemmas.Nat.{mul-le}
use Rattle.std.proofs.lemmas.Bool.{cases_lt, eqb-true}
use Rattle.std.proofs.lemmas.List.{get_or_past}
use Rattle.raster_model.specs.Raster.{over, steps}
use Rattle.certificates.specs.Growth.{AreWithinWeights, AreZeros, HasGrown}
use Rattle.certificates.proofs.SeamLemmas.{part_fits}
use Rattle.offset_guess.specs.declared.link.Link.{Link}
use Rattle.offset_network.specs.FairFlows.{AreFairBefore, IsFairFlow, MeetsCost, brought_at, brought_before, brought_by, flow_on}
use Rattle.offset_network.specs.Links.{AreLinks, IsLinkIn, link_at}
use Rattle.offset_network.specs.Starts.{moved_departure}
use Rattle.offset_network.proofs.SupplyLemmas.{both_added}
use Rattle.sums_and_lists.specs.Sums.{where_true}
use Rattle.sums_and_lists.proofs.SumLemmas.{sum_below-more, sum_below-none, where_true-zero}

-- ---- one link
-- a departure in code
abbrev departure_in_code : ℤ → ℤ → ℤ → ℤ
departure_in_code a b f = to_z w64 (of_z w64 (to_z w64 (of_z w64 f) +ℤ to_z w64 (of_z w64 (to_z w64 (of_z w64 b) -ℤ to_z w64 (of_z w64 a)))))

pub departure_is : (a b k f : ℤ) → unsigned_abs a ≤ 2 ^ 46 → unsigned_abs b ≤ 2 ^ 46 → unsigned_abs k ≤ 16777217 → f ≡ to_z w32 (of_z w32 k) → (departure_in_code a b f ≡ k +ℤ b -ℤ a) × (unsigned_abs (departure_in_code a b f) ≤ 2 ^ 47 + 16777217)
departure_is a b k f la lb lk e = (omega (arith, ints, la, lb, lk, e), omega (arith, ints, la, lb, lk, e))

-- what a link costs
cost_is : (g n : ℕ) (u w : ℤ) → g ≤ 65535 → n ≤ 2 ^ 52 → u ≡ pos g → w ≡ pos n → to_z w128 (of_z w128 (to_z w128 (of_z w128 u) *ℤ to_z w128 (of_z w128 w))) ≡ pos (g * n)
cost_is g n u w k l eu ew =
    let p : to_z w128 (of_z w128 (pos g)) ≡ pos g = omega (arith, ints) in
    let q : to_z w128 (of_z w128 (pos n)) ≡ pos n = omega (arith, ints) in
    let m = mul-le g n 65535 (2 ^ 52) k l in
    rw (eu, ew, p, q) (back (g * n) m)
  where
    back : (n : ℕ) → n ≤ 65535 * 2 ^ 52 → to_z w128 (of_z w128 (pos n)) ≡ pos n
    back n h = omega (arith, ints)

same_in_code : (x y a b : ℤ) → IsTrue (nat_eq (of_z w128 x) (of_z w128 y)) → to_z w128 (of_z w128 x) ≡ a → to_z w128 (of_z w128 y) ≡ b → a ≡ b
same_in_code x y a b t p q = sym p ∙ ap (to_z w128) (eqb-true (of_z w128 x) (of_z w128 y) t) ∙ q

pub meets_cost : (steep : ℕ) (offsets : List ℤ) (k : Link) (flow d : ℤ) (o n : ℕ) (p q t u w : ℤ) → unsigned_abs flow ≤ steep * k.weight → unsigned_abs flow ≤ 1048560 → k.weight ≤ 65535 → d ≡ moved_departure offsets k → unsigned_abs d ≤ 2 ^ 47 + 16777217
    → o ≡ over k.weight flow → n ≡ steps steep d → n ≤ 16 * unsigned_abs d → p ≡ flow → q ≡ d → t ≡ pos o → u ≡ pos k.weight → w ≡ pos n
    → IsTrue (nat_eq (of_z w128 (to_z w128 (of_z w128 (to_z w128 (of_z w128 p) *ℤ to_z w128 (of_z w128 q))) -ℤ to_z w128 (of_z w128 t))) (of_z w128 (to_z w128 (of_z w128 u) *ℤ to_z w128 (of_z w128 w)))) → MeetsCost steep offsets k flow
meets_cost steep offsets k flow d o n p q t u w small fits light ed ld eo en ln ep eq et eu ew same =
    let above : o ≤ 1048560 = omega (arith, eo, fits) in
    let bound = (part_fits flow d p q t o fits (omega (arith, ld)) ep eq above et).0 in
    let cost = cost_is k.weight n u w light (omega (arith, ln, ld)) eu ew in
    let both = same_in_code (to_z w128 (of_z w128 (to_z w128 (of_z w128 p) *ℤ to_z w128 (of_z w128 q))) -ℤ to_z w128 (of_z w128 t)) (to_z w128 (of_z w128 u) *ℤ to_z w128 (of_z w128 w)) _ _ same bound cost in
    record { small = small; equal = rw (sym ed, sym eo, sym en) both }

-- ---- all flows are small
fair_small : (steep : ℕ) (offsets : List ℤ) (n : ℕ) (o : Option Link) (x : ℤ) → steep ≤ 16 → IsLinkIn n o → IsFairFlow steep offsets o x → unsigned_abs x ≤ 1048560
fair_small steep offsets n None x s is h = omega (arith, ints, h)
fair_small steep offsets n (Some k) x s is h = let m = mul-le steep k.weight 16 65535 s (is k refl).weight in omega (arith, m, h.small)

pub all_small : (steep : ℕ) (offsets : List ℤ) (links : List (Option Link)) (flows : List ℤ) (n : ℕ) → steep ≤ 16 → AreLinks n links → length flows ≡ length links → AreFairBefore steep offsets links flows (length links) → (j : ℕ) → unsigned_abs (flow_on flows j) ≤ 1048560
all_small steep offsets links flows n s are count h j =
    elim (cases_lt j (length links)) [
      | inl l ↦ fair_small steep offsets n (link_at links j) (flow_on flows j) s (are.each j) (h j l)
      | inr l ↦ (let e = get_or_past flows j (pos 0) (omega (arith, l, count)) in omega (arith, ints, e))
    ]

-- ---- the sums of the regions
pub link_moved : (a b c : List ℤ) (k : Link) (x p q : ℤ) → p ≡ x → q ≡ neg_ℤ x → HasGrown a b (λ v. where_true (k.to == v) p) → HasGrown b c (λ v. where_true (k.from == v) q) → HasGrown a c (brought_by (Some k) x)
link_moved a b c k x p q ep eq g h = record {
  same_length = h.same_length ∙ g.same_length;
  grown = λ v l. both_added (k.to == v) (k.from == v) _ _ _ x p q (g.grown v l) (h.grown v (omega (arith, l, g.same_length))) ep eq;
}

-- nothing moves
none_brought : (o : Option Link) (x : ℤ) (v : ℕ) → x ≡ pos 0 → brought_by o x v ≡ pos 0
none_brought None x v e = refl
none_brought (Some k) x v e = rw e (omega (arith, ints, where_true-zero (k.to == v), where_true-zero (k.from == v)))

pub none_moved : (a : List ℤ) (o : Option Link) (x : ℤ) → x ≡ pos 0 → HasGrown a a (brought_by o x)
none_moved a o x e = record { same_length = refl; grown = λ v l. (let n = none_brought o x v e in omega (arith, ints, n)) }

pub moved_at_first : (a : List ℤ) (links : List (Option Link)) (flows : List ℤ) → HasGrown a a (brought_before links flows 0)
unfolding brought_before
moved_at_first a links flows = record { same_length = refl; grown = λ v l. (let n = sum_below-none (brought_at links flows v) in omega (arith, ints, n)) }

pub moved_next : (a b c : List ℤ) (links : List (Option Link)) (flows : List ℤ) (i : ℕ) → HasGrown a b (brought_before links flows i) → HasGrown b c (brought_by (link_at links i) (flow_on flows i)) → HasGrown a c (brought_before links flows (i + 1))
unfolding brought_before
moved_next a b c links flows i g h = record {
  same_length = h.same_length ∙ g.same_length;
  grown = λ v l. (
      let s = g.grown v l in
      let t = h.grown v (omega (arith, l, g.same_length)) in
      let m = sum_below-more i (brought_at links flows v) in
      omega (arith, ints, s, t, m));
}

-- they are all 0 at the start and at the end
pub balanced : (n : ℕ) (a b : List ℤ) (links : List (Option Link)) (flows : List ℤ) (i : ℕ) → length a ≡ n → AreWithinWeights 0 a → HasGrown a b (brought_before links flows i) → AreZeros b → (v : ℕ) → v < n → brought_before links flows i v ≡ pos 0
balanced n a b links flows i count none g zero v l =
    let start = none v in
    let grown = g.grown v (omega (arith, l, count)) in
    let end = zero v (omega (arith, l, count, g.same_length)) in
    omega (arith, ints, start, grown, end)
