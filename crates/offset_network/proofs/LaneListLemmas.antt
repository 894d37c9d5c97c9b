-- The lanes of links, and their places in the list.
use Rattle.std.proofs.Common.{◌≡◌, ℕ, ◌+◌, ◌-◌, ◌*◌, ◌<◌, ◌≤◌, ◌∙◌, ap, sym, subst, refl, arith, Bool, true, false, List, [], ◌∷◌, ◌++◌, length, inl, inr, to_z, of_z, w32, w64, FitsSigned}
use Rattle.std.specs.Prelude.{ℤ, ◌-ℤ◌, ◌==◌, Option, Some, None, if◌then◌else◌, unsigned_abs}
use Rattle.std.proofs.lemmas.Int.{ints}
use Rattle.std.proofs.lemmas.Nat.{mul-le}
use Rattle.std.proofs.lemmas.Bool.{ne_eqb}
use Rattle.std.proofs.lemmas.List.{get_or_append_left, get_or_past, length-append}
use Rattle.std.proofs.Math.Seq.{get_or-append_seam}
use Rattle.offset_guess.specs.declared.link.Link.{Link}
use Rattle.offset_network.specs.declared.lane.Lane.{Lane}
use Rattle.offset_network.specs.Links.{IsLinkIn, link_at}
use Rattle.offset_network.specs.Lanes.{AreLanesOf, IsLane, IsLaneIn, lane_above, lane_at, lane_below, lane_near, lane_of, weight_of, with_lanes}
use Rattle.sums_and_lists.proofs.Orders.{below_at_past, below_or_last}

-- ---- one lane
-- its departure in code at 64 bits
pub departure_less : (k d x : ℤ) → d ≡ to_z w32 (of_z w32 k) → unsigned_abs k ≤ 16777217 → unsigned_abs x ≤ 1 → FitsSigned w64 (to_z w64 (of_z w64 d) -ℤ to_z w64 (of_z w64 x)) × (to_z w64 (of_z w64 (to_z w64 (of_z w64 d) -ℤ to_z w64 (of_z w64 x))) ≡ k -ℤ x)
departure_less k d x e l m = (omega (arith, ints, e, l, m), omega (arith, ints, e, l, m))

-- it is as its link and its range are
pub lane_made : (o : Option Link) (k : Link) (low high : ℕ) (less d : ℤ) → o ≡ Some k → (low + high ≡ 0 → ⊥) → d ≡ k.departure -ℤ less → (let m : Lane = record { from = k.from; to = k.to; low = low; high = high; departure = d } in Some m) ≡ lane_of o low high less
lane_made o k low high less d e f g = let t : (low + high == 0) ≡ false = ne_eqb (low + high) 0 f in rw (e, t, g) refl

pub no_lane : (o : Option Link) (k : Link) (low high : ℕ) (less : ℤ) → o ≡ Some k → low + high ≡ 0 → None ≡ lane_of o low high less
no_lane o k low high less e f = rw (e, f) refl

lane_fits : (n : ℕ) (o : Option Link) (low high : ℕ) (less : ℤ) → IsLinkIn n o → low ≤ 983025 → high ≤ 983025 → unsigned_abs less ≤ 1 → IsLaneIn n (lane_of o low high less)
lane_fits n None low high less is l h s m e = cc
lane_fits n (Some k) low high less is l h s m e = go (low + high == 0) m e
  where
    go : (t : Bool) → IsLaneIn n (if t then None else Some (record { from = k.from; to = k.to; low = low; high = high; departure = k.departure -ℤ less }))
    go true m e = cc
    go false m e =
        let link = is k refl in
        let made : IsLane n (record { from = k.from; to = k.to; low = low; high = high; departure = k.departure -ℤ less }) = record { from = link.from; to = link.to; low = l; high = h; departure = omega (arith, ints, link.departure, s) } in
        subst (IsLane n) (same _ m e) made
      where
        same : (a b : Lane) → Some a ≡ Some b → a ≡ b
        same a b e = cc

-- ---- what a link can take beyond its weight
pub more_small : (steep w : ℕ) → steep ≤ 16 → w ≤ 65535 → (steep - 1) * w ≤ 983025
more_small steep w s l = omega (arith, mul-le (steep - 1) w 15 65535 (omega (arith, s)) l)

pub weight_small : (n : ℕ) (o : Option Link) → IsLinkIn n o → weight_of o ≤ 65535
weight_small n None is = omega arith
weight_small n (Some k) is = (is k refl).weight

-- ---- the list
module _ (old : List (Option Lane)) (o : Option Lane) where
  size : length (old ++ o ∷ []) ≡ length old + 1
  size = length-append old (o ∷ [])

  kept : (k : ℕ) → k < length old → lane_at (old ++ o ∷ []) k ≡ lane_at old k
  kept k l = get_or_append_left old (o ∷ []) None k l

  last : (k : ℕ) → k ≡ length old → lane_at (old ++ o ∷ []) k ≡ o
  last k e = ap (lane_at (old ++ o ∷ [])) e ∙ get_or-append_seam old o [] None

  fit_more : (n : ℕ) → ((k : ℕ) → IsLaneIn n (lane_at old k)) → IsLaneIn n o → (k : ℕ) → IsLaneIn n (lane_at (old ++ o ∷ []) k)
  fit_more n h is k =
      elim (below_at_past k (length old)) [
        | inl l ↦ subst (IsLaneIn n) (sym (kept k l)) (h k)
        | inr (inl l) ↦ subst (IsLaneIn n) (sym (last k l)) is
        | inr (inr l) ↦ subst (IsLaneIn n) (sym (get_or_past (old ++ o ∷ []) k None (omega (arith, l, size)))) (λ m e. cc)
      ]

pub none_fit : (n : ℕ) (k : ℕ) → IsLaneIn n (lane_at [] k)
none_fit n k m e = cc

pub no_lanes : (steep : ℕ) (links : List (Option Link)) → AreLanesOf steep links 0 []
no_lanes steep links = record { count = refl; near = λ j l. absurd (omega (arith, l)); above = λ j l. absurd (omega (arith, l)); below = λ j l. absurd (omega (arith, l)) }

module _ (steep n : ℕ) (o : Option Link) (old : List (Option Lane)) where
  abbrev one : List (Option Lane)
  one = old ++ lane_near o ∷ []

  abbrev two : List (Option Lane)
  two = one ++ lane_above steep o ∷ []

  -- the three lanes of one link more
  pub all_fit : steep ≤ 16 → IsLinkIn n o → ((k : ℕ) → IsLaneIn n (lane_at old k)) → (k : ℕ) → IsLaneIn n (lane_at (with_lanes steep o old) k)
  all_fit s is h =
      let w = weight_small n o is in
      let more = more_small steep (weight_of o) s w in
      fit_more two (lane_below steep o) n (fit_more one (lane_above steep o) n (fit_more old (lane_near o) n h (lane_fits n o _ _ _ is (omega (arith, w)) (omega (arith, w)) (omega arith))) (lane_fits n o _ _ _ is (omega arith) more (omega arith))) (lane_fits n o _ _ _ is more (omega arith) (omega arith))

  module _ (links : List (Option Link)) (i : ℕ) (is : o ≡ link_at links i) (h : AreLanesOf steep links i old) where
    stays : (k : ℕ) → k < length old → lane_at (with_lanes steep o old) k ≡ lane_at old k
    stays k l = kept two (lane_below steep o) k (omega (arith, l, size old (lane_near o), size one (lane_above steep o))) ∙ kept one (lane_above steep o) k (omega (arith, l, size old (lane_near o))) ∙ kept old (lane_near o) k l

    pub lanes_more : AreLanesOf steep links (i + 1) (with_lanes steep o old)
    lanes_more = record {
      count = omega (arith, h.count, size old (lane_near o), size one (lane_above steep o), size two (lane_below steep o));
      near = λ j l. elim (below_or_last j i l) [
        | inl m ↦ stays (3 * j) (omega (arith, m, h.count)) ∙ h.near j m
        | inr m ↦ kept two (lane_below steep o) (3 * j) (omega (arith, m, h.count, size old (lane_near o), size one (lane_above steep o))) ∙ kept one (lane_above steep o) (3 * j) (omega (arith, m, h.count, size old (lane_near o))) ∙ last old (lane_near o) (3 * j) (omega (arith, m, h.count)) ∙ ap lane_near (is ∙ ap (link_at links) (sym m))
      ];
      above = λ j l. elim (below_or_last j i l) [
        | inl m ↦ stays (3 * j + 1) (omega (arith, m, h.count)) ∙ h.above j m
        | inr m ↦ kept two (lane_below steep o) (3 * j + 1) (omega (arith, m, h.count, size old (lane_near o), size one (lane_above steep o))) ∙ last one (lane_above steep o) (3 * j + 1) (omega (arith, m, h.count, size old (lane_near o))) ∙ ap (lane_above steep) (is ∙ ap (link_at links) (sym m))
      ];
      below = λ j l. elim (below_or_last j i l) [
        | inl m ↦ stays (3 * j + 2) (omega (arith, m, h.count)) ∙ h.below j m
        | inr m ↦ last two (lane_below steep o) (3 * j + 2) (omega (arith, m, h.count, size old (lane_near o), size one (lane_above steep o))) ∙ ap (lane_below steep) (is ∙ ap (link_at links) (sym m))
      ];
    }
