-- The arcs across an edge, by their places, and that they are those of a network.
use Rattle.std.proofs.Common.{◌≡◌, ℕ, ◌+◌, ◌-◌, ◌*◌, ◌/◌, ◌%◌, ◌<◌, ◌≤◌, ◌∙◌, sym, ap, ap₂, refl, arith, inl, inr, ◌⊎◌, Bool, true, false}
use Rattle.std.specs.Prelude.{pos, neg_ℤ, ◌==◌, ◌&&◌, not, nat_lt, if◌then◌else◌}
use Rattle.std.proofs.lemmas.Bool.{and_parts, and_from, cases_Bool, cases_lt, false≢true}
use Rattle.std.proofs.lemmas.Bool.Decides.{eqb_tells}
use Rattle.std.proofs.lemmas.Int.{ints}
use Rattle.std.proofs.lemmas.Nat.{div-add-mod', div-mul-add, mod-mul-add, mod_below}
use Rattle.raster_model.specs.declared.tiling.Window.{Window}
use Rattle.flow_network.specs.Nets.{IsArc, IsNetwork, tail_of}
use Rattle.dual_grid.specs.Grids.{cost_in_place, head_at, is_split, is_taken, leads_forth, window_shape, twin_place}
use Rattle.dual_grid.specs.Nodes.{cells_of, edges_of, edge_of, first_side, other_side}
use Rattle.dual_grid.proofs.NodeLemmas.{first_below, other_below}
use Rattle.sums_and_lists.proofs.Orders.{is_below, is_lt}

-- there are eight places
pub four_places : (k : ℕ) → k < 4 → (k ≡ 0) ⊎ ((k ≡ 1) ⊎ ((k ≡ 2) ⊎ (k ≡ 3)))
four_places k l = grind arith

steep_places : (k : ℕ) → 4 ≤ k → k < 8 → (k ≡ 4) ⊎ ((k ≡ 5) ⊎ ((k ≡ 6) ⊎ (k ≡ 7)))
steep_places k l m = grind arith

pub eight_places : (k : ℕ) → k < 8 → ((k ≡ 0) ⊎ ((k ≡ 1) ⊎ ((k ≡ 2) ⊎ (k ≡ 3)))) ⊎ ((k ≡ 4) ⊎ ((k ≡ 5) ⊎ ((k ≡ 6) ⊎ (k ≡ 7))))
eight_places k l =
    elim (cases_lt k 4) [
      | inl m ↦ inl (four_places k m)
      | inr m ↦ inr (steep_places k m l)
    ]

-- a weight is 0, or it is above 0 and there are no steep arcs, or there are
abbrev pub IsFree : ℕ → Type 0
IsFree w = ((w == 0) ≡ true) × (nat_lt 0 w ≡ false) × (w ≡ 0)

abbrev pub IsCharged : ℕ → Type 0
IsCharged w = ((w == 0) ≡ false) × (nat_lt 0 w ≡ true) × (0 < w)

abbrev pub IsPlain : ℕ → ℕ → Type 0
IsPlain steep w = IsCharged w × (nat_lt 1 steep ≡ false) × (steep ≤ 1)

abbrev pub IsSplit : ℕ → ℕ → Type 0
IsSplit steep w = IsCharged w × (nat_lt 1 steep ≡ true) × (1 < steep)

free_or_charged : (w : ℕ) → IsFree w ⊎ IsCharged w
free_or_charged w =
    elim (eqb_tells w 0) [
      | inl t ↦ inl (t.0, rw t.1 refl, t.1)
      | inr t ↦ (let l : 0 < w = omega (arith, t.1) in inr (t.0, is_below 0 w l, l))
    ]

pub kinds : (steep w : ℕ) → IsFree w ⊎ (IsPlain steep w ⊎ IsSplit steep w)
kinds steep w =
    elim (free_or_charged w) [
      | inl f ↦ inl f
      | inr c ↦ elim (cases_Bool (nat_lt 1 steep)) [
        | inl t ↦ inr (inr (c, t, is_lt 1 steep t))
        | inr t ↦ inr (inl (c, t, not_below steep t))
      ]
    ]
  where
    not_below : (n : ℕ) → nat_lt 1 n ≡ false → n ≤ 1
    not_below n t =
        elim (cases_lt 1 n) [
          | inl l ↦ absurd (false≢true (sym t ∙ is_below 1 n l))
          | inr l ↦ l
        ]

-- what the place of a twin is
pub record IsTwinPlace (steep w k : ℕ) : Type 0 where
  pub below : twin_place w k < 8
  pub taken : is_taken steep w (twin_place w k) ≡ true
  pub back : twin_place w (twin_place w k) ≡ k
  pub apart : twin_place w k ≡ k → ⊥
  pub turned : leads_forth (twin_place w k) ≡ not (leads_forth k)
  pub negated : cost_in_place steep w (twin_place w k) ≡ neg_ℤ (cost_in_place steep w k)

module _ (steep w : ℕ) where
  free_0 : IsFree w → IsTwinPlace steep w 0
  free_0 f = let z = f.0 in let p = f.2 in record { below = rw z (omega arith); taken = rw z refl; back = rw z refl; apart = λ e. (let h : 2 ≡ 0 = rw z at e in omega (arith, h)); turned = rw z refl; negated = rw (z, p) refl }

  free_2 : IsFree w → IsTwinPlace steep w 2
  free_2 f = let z = f.0 in let p = f.2 in record { below = rw z (omega arith); taken = rw z refl; back = rw z refl; apart = λ e. (let h : 0 ≡ 2 = rw z at e in omega (arith, h)); turned = rw z refl; negated = rw (z, p) refl }

  -- at a weight above 0, by the twin's place
  charged : IsCharged w → (k j : ℕ) → j ≡ (if k % 2 == 0 then k + 1 else k - 1) → j < 8 → is_taken steep w j ≡ true → (if j % 2 == 0 then j + 1 else j - 1) ≡ k → (j ≡ k → ⊥) → leads_forth j ≡ not (leads_forth k) → cost_in_place steep w j ≡ neg_ℤ (cost_in_place steep w k) → IsTwinPlace steep w k
  charged f k j e below taken back apart turned negated =
      let z = f.0 in
      record {
        below = rw (z, sym e) below;
        taken = rw (z, sym e) taken;
        back = rw (z, sym e) back;
        apart = rw (z, sym e) apart;
        turned = rw (z, sym e) turned;
        negated = rw (z, sym e) negated;
      }

  twice : (c : ℕ) → pos c ≡ neg_ℤ (neg_ℤ (pos c))
  twice c = omega (arith, ints)

  charged_place : IsCharged w → (k : ℕ) → (k ≡ 0) ⊎ ((k ≡ 1) ⊎ ((k ≡ 2) ⊎ (k ≡ 3))) → IsTwinPlace steep w k
  charged_place f k (inl e) = rw e (charged f 0 1 refl (omega arith) f.1 refl (λ i. omega (arith, i)) refl refl)
  charged_place f k (inr (inl e)) = rw e (charged f 1 0 refl (omega arith) refl refl (λ i. omega (arith, i)) refl (twice w))
  charged_place f k (inr (inr (inl e))) = rw e (charged f 2 3 refl (omega arith) f.1 refl (λ i. omega (arith, i)) refl refl)
  charged_place f k (inr (inr (inr e))) = rw e (charged f 3 2 refl (omega arith) refl refl (λ i. omega (arith, i)) refl (twice w))

  pub steep_taken : IsSplit steep w → is_split steep w ≡ true
  steep_taken f = let a = f.0.1 in let b = f.1 in rw (a, b) refl

  split_place : IsSplit steep w → (k : ℕ) → (k ≡ 4) ⊎ ((k ≡ 5) ⊎ ((k ≡ 6) ⊎ (k ≡ 7))) → IsTwinPlace steep w k
  split_place f k (inl e) = rw e (charged f.0 4 5 refl (omega arith) (steep_taken f) refl (λ i. omega (arith, i)) refl refl)
  split_place f k (inr (inl e)) = rw e (charged f.0 5 4 refl (omega arith) (steep_taken f) refl (λ i. omega (arith, i)) refl (twice (steep * w)))
  split_place f k (inr (inr (inl e))) = rw e (charged f.0 6 7 refl (omega arith) (steep_taken f) refl (λ i. omega (arith, i)) refl refl)
  split_place f k (inr (inr (inr e))) = rw e (charged f.0 7 6 refl (omega arith) (steep_taken f) refl (λ i. omega (arith, i)) refl (twice (steep * w)))

  -- where there are no steep arcs, no place of one is taken
  pub plain_below : (k : ℕ) → is_split steep w ≡ false → is_taken steep w k ≡ true → k < 4
  plain_below k n t =
      elim (cases_lt k 4) [
        | inl l ↦ l
        | inr l ↦ absurd (false≢true (let past = not_lt k l in rw (past, n) at t))
      ]
    where
      not_lt : (k : ℕ) → 4 ≤ k → nat_lt k 4 ≡ false
      not_lt k l = elim (cases_Bool (nat_lt k 4)) [ inl t ↦ absurd (let m = is_lt k 4 t in omega (arith, l, m)) | inr t ↦ t ]

  pub free_unsplit : IsFree w → is_split steep w ≡ false
  free_unsplit f = let n = f.1 in rw n refl

  pub plain_unsplit : IsPlain steep w → is_split steep w ≡ false
  plain_unsplit f = let a = f.0.1 in let b = f.1 in rw (a, b) refl

  -- at a weight of 0 only the places 0 and 2 are taken
  pub free_place : IsFree w → (k : ℕ) → is_taken steep w k ≡ true → (k ≡ 0) ⊎ (k ≡ 2)
  free_place f k t =
      elim (four_places k (plain_below k (free_unsplit f) t)) [
        | inl e ↦ inl e
        | inr (inl e) ↦ absurd (let n = f.1 in false≢true (rw n at (rw e at t)))
        | inr (inr (inl e)) ↦ inr e
        | inr (inr (inr e)) ↦ absurd (let n = f.1 in false≢true (rw n at (rw e at t)))
      ]

  pub plain_place : IsPlain steep w → (k : ℕ) → is_taken steep w k ≡ true → (k ≡ 0) ⊎ ((k ≡ 1) ⊎ ((k ≡ 2) ⊎ (k ≡ 3)))
  plain_place f k t = four_places k (plain_below k (plain_unsplit f) t)

  pub twin_facts : (k : ℕ) → k < 8 → is_taken steep w k ≡ true → IsTwinPlace steep w k
  twin_facts k l t =
      elim (kinds steep w) [
        | inl f ↦ elim (free_place f k t) [
          | inl e ↦ rw e (free_0 f)
          | inr e ↦ rw e (free_2 f)
        ]
        | inr (inl f) ↦ charged_place f.0 k (plain_place f k t)
        | inr (inr f) ↦ elim (eight_places k l) [
          | inl o ↦ charged_place f.0 k o
          | inr o ↦ split_place f k o
        ]
      ]

-- where an arc starts
pub starts_side : (t : Bool) (a b : ℕ) → (if not t then a else b) ≡ (if t then b else a)
starts_side true a b = refl
starts_side false a b = refl

module _ (v : Window) (steep : ℕ) (weight : ℕ → ℕ) where
  -- an arc has a number below the end, and its place is taken
  pub arc_below : (a : ℕ) → IsArc (window_shape v steep weight) a → a < edges_of v * 8
  arc_below a arc = is_lt a (edges_of v * 8) (and_parts (nat_lt a (edges_of v * 8)) (is_taken steep (weight (a / 8)) (a % 8)) arc).0

  pub arc_taken : (a : ℕ) → IsArc (window_shape v steep weight) a → is_taken steep (weight (a / 8)) (a % 8) ≡ true
  arc_taken a arc = (and_parts (nat_lt a (edges_of v * 8)) (is_taken steep (weight (a / 8)) (a % 8)) arc).1

  pub edge_below_end : (a : ℕ) → a < edges_of v * 8 → a / 8 < edges_of v
  edge_below_end a l = omega (arith, l)

  pub is_arc_at : (a : ℕ) → a < edges_of v * 8 → is_taken steep (weight (a / 8)) (a % 8) ≡ true → IsArc (window_shape v steep weight) a
  is_arc_at a l t = and_from (nat_lt a (edges_of v * 8)) (is_taken steep (weight (a / 8)) (a % 8)) (is_below a (edges_of v * 8) l) t

  facts : (a : ℕ) → IsArc (window_shape v steep weight) a → IsTwinPlace steep (weight (a / 8)) (a % 8)
  facts a arc = twin_facts steep (weight (a / 8)) (a % 8) (mod_below a 8 (omega arith)) (arc_taken a arc)

  -- the twin is across the same edge
  pub twin_edge : (a : ℕ) → IsArc (window_shape v steep weight) a → (window_shape v steep weight).twin a / 8 ≡ a / 8
  twin_edge a arc = div-mul-add (a / 8) 8 (twin_place (weight (a / 8)) (a % 8)) (facts a arc).below

  pub twin_at_place : (a : ℕ) → IsArc (window_shape v steep weight) a → (window_shape v steep weight).twin a % 8 ≡ twin_place (weight (a / 8)) (a % 8)
  twin_at_place a arc = mod-mul-add (a / 8) 8 (twin_place (weight (a / 8)) (a % 8)) (facts a arc).below

  twin_arc : (a : ℕ) → IsArc (window_shape v steep weight) a → IsArc (window_shape v steep weight) ((window_shape v steep weight).twin a)
  twin_arc a arc =
      is_arc_at ((window_shape v steep weight).twin a) (let l = arc_below a arc in let b = (facts a arc).below in omega (arith, l, b))
      (ap₂ (λ (n k : ℕ). is_taken steep (weight n) k) (twin_edge a arc) (twin_at_place a arc) ∙ (facts a arc).taken)

  twin_back : (a : ℕ) → IsArc (window_shape v steep weight) a → (window_shape v steep weight).twin ((window_shape v steep weight).twin a) ≡ a
  twin_back a arc =
      ap₂ (λ (n k : ℕ). n * 8 + twin_place (weight n) k) (twin_edge a arc) (twin_at_place a arc)
      ∙ ap (λ (k : ℕ). a / 8 * 8 + k) (facts a arc).back ∙ div-add-mod' a 8

  head_below : (n k : ℕ) → head_at v n k < cells_of v + 1
  head_below n k =
      elim (cases_Bool (leads_forth k)) [
        | inl t ↦ rw t (other_below v (edge_of v n))
        | inr t ↦ rw t (first_below v (edge_of v n))
      ]

  -- an arc starts at the side that it does not lead to
  pub tail_is : (a : ℕ) → IsArc (window_shape v steep weight) a → tail_of (window_shape v steep weight) a ≡ (if leads_forth (a % 8) then first_side v (edge_of v (a / 8)) else other_side v (edge_of v (a / 8)))
  tail_is a arc =
      ap₂ (λ (n k : ℕ). head_at v n k) (twin_edge a arc) (twin_at_place a arc)
      ∙ ap (λ (t : Bool). if t then other_side v (edge_of v (a / 8)) else first_side v (edge_of v (a / 8))) (facts a arc).turned
      ∙ starts_side (leads_forth (a % 8)) (other_side v (edge_of v (a / 8))) (first_side v (edge_of v (a / 8)))

  -- ---- by edge and place
  pub place_is_arc : (n k : ℕ) → n < edges_of v → k < 8 → is_taken steep (weight n) k ≡ true → IsArc (window_shape v steep weight) (n * 8 + k)
  place_is_arc n k l m t = is_arc_at (n * 8 + k) (omega (arith, l, m)) (ap₂ (λ (i j : ℕ). is_taken steep (weight i) j) (div-mul-add n 8 k m) (mod-mul-add n 8 k m) ∙ t)

  pub place_is_no_arc : (n k : ℕ) → n < edges_of v → k < 8 → is_taken steep (weight n) k ≡ false → (window_shape v steep weight).is_arc (n * 8 + k) ≡ false
  place_is_no_arc n k l m t = ap₂ (λ (b c : Bool). b && c) (is_below (n * 8 + k) (edges_of v * 8) (omega (arith, l, m))) (ap₂ (λ (i j : ℕ). is_taken steep (weight i) j) (div-mul-add n 8 k m) (mod-mul-add n 8 k m) ∙ t)

  pub place_tail : (n k : ℕ) → k < 8 → IsArc (window_shape v steep weight) (n * 8 + k) → tail_of (window_shape v steep weight) (n * 8 + k) ≡ (if leads_forth k then first_side v (edge_of v n) else other_side v (edge_of v n))
  place_tail n k m arc =
      tail_is (n * 8 + k) arc
      ∙ ap₂ (λ (i j : ℕ). if leads_forth j then first_side v (edge_of v i) else other_side v (edge_of v i)) (div-mul-add n 8 k m) (mod-mul-add n 8 k m)

  pub grid_is_network : IsNetwork (window_shape v steep weight)
  grid_is_network = record {
    below = arc_below;
    ends = λ a arc. head_below (a / 8) (a % 8);
    has_twin = twin_arc;
    back = twin_back;
    apart = λ a arc e. (let split = div-add-mod' a 8 in (facts a arc).apart (omega (arith, e, split)));
    negated = λ a arc. ap₂ (λ (n k : ℕ). cost_in_place steep (weight n) k) (twin_edge a arc) (twin_at_place a arc) ∙ (facts a arc).negated;
  }
