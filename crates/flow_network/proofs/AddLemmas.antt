-- One more arc and its twin.
use Rattle.std.proofs.Common.{◌≡◌, ℕ, ◌+◌, ◌-◌, ◌*◌, ◌/◌, ◌%◌, ◌<◌, ◌≤◌, ◌^◌, sym, ◌∙◌, ap, refl, arith, true, false, inl, inr, subst, ◌⊎◌}
use Rattle.std.specs.Prelude.{◌==◌, ◌&&◌, ℤ, pos, ◌+ℤ◌, ◌≤ℤ◌, ◌<ℤ◌, neg_ℤ, unsigned_abs, List, [], ◌∷◌, ◌++◌, length, get_or, slice_set, Option, Some, None}
use Rattle.std.proofs.lemmas.Int.{ints, by_lt_z}
use Rattle.std.proofs.lemmas.List.{length-append, get_or_append_left, get_or_at, length-set, get_or-set_same, get_or-set_other}
use Rattle.std.proofs.lemmas.Bool.Decides.{eqb_tells}
use Rattle.std.proofs.lemmas.Bool.{ne_eqb, eq-eqb, cases_eq, cases_lt, ltb-true, lt-ltb}
use Rattle.flow_network.specs.Nets.{Shape, State, IsArc, IsNetwork, HasReducedCosts, reduced_cost, tail_of, IsNextBelow}
use Rattle.flow_network.specs.Moves.{out_term, residual_out}
use Rattle.flow_network.specs.Growing.{total_residual, total_amount, AddsArc}
use Rattle.flow_network.specs.Lists.{other, signed_cost, shape_in, state_in, HasRoom, FitTogether, AreLinked}
use Rattle.flow_network.proofs.RoomLemmas.{term-le, sum-not_below, term-not_below, both-le}
use Rattle.sums_and_lists.specs.Sums.{sum_below, where_true}
use Rattle.sums_and_lists.proofs.SumLemmas.{sum_below-none, sum_below-more, sum_below-same, sum_below-le}

parity : (a : ℕ) → ((a % 2 == 0) ≡ true) × (a % 2 ≡ 0) ⊎ ((a % 2 == 0) ≡ false) × (a % 2 ≡ 1)
parity a =
    elim (eqb_tells (a % 2) 0) [
      | inl t ↦ inl (t.0, t.1)
      | inr t ↦ inr (t.0, (let ne : a % 2 ≡ 0 → ⊥ = t.1 in omega arith))
    ]

pub other_other : (a : ℕ) → other (other a) ≡ a
other_other a =
    elim (parity a) [
      | inl t ↦ (
          let e : other a ≡ a + 1 = rw t.0 refl in
          let o : ((a + 1) % 2 == 0) ≡ false = ne_eqb ((a + 1) % 2) 0 (λ (q : (a + 1) % 2 ≡ 0). omega (arith, t.1)) in
          rw e (rw o (omega arith)))
      | inr t ↦ (
          let e : other a ≡ a - 1 = rw t.0 refl in
          let o : ((a - 1) % 2 == 0) ≡ true = eq-eqb ((a - 1) % 2) 0 (omega (arith, t.1)) in
          rw e (rw o (omega (arith, t.1))))
    ]

pub other_apart : (a : ℕ) → other a ≡ a → ⊥
other_apart a e =
    elim (parity a) [
      | inl t ↦ (let q : other a ≡ a + 1 = rw t.0 refl in omega (arith, q, e))
      | inr t ↦ (let q : other a ≡ a - 1 = rw t.0 refl in omega (arith, q, e, t.1))
    ]

pub other_below : (a k : ℕ) → a < 2 * k → other a < 2 * k
other_below a k l =
    elim (parity a) [
      | inl t ↦ (let q : other a ≡ a + 1 = rw t.0 refl in omega (arith, q, t.1))
      | inr t ↦ (let q : other a ≡ a - 1 = rw t.0 refl in omega (arith, q, t.1))
    ]

pub cost_negated : (costs : List ℤ) (a : ℕ) → signed_cost costs (other a) ≡ neg_ℤ (signed_cost costs a)
cost_negated costs a =
    elim (parity a) [
      | inl t ↦ (
          let e : other a ≡ a + 1 = rw t.0 refl in
          let o : ((a + 1) % 2 == 0) ≡ false = ne_eqb ((a + 1) % 2) 0 (λ (q : (a + 1) % 2 ≡ 0). omega (arith, t.1)) in
          let d : (a + 1) / 2 ≡ a / 2 = omega (arith, t.1) in
          let x : signed_cost costs (a + 1) ≡ neg_ℤ (get_or costs (a / 2) (pos 0)) = rw o (ap (λ (n : ℕ). neg_ℤ (get_or costs n (pos 0))) d) in
          let y : signed_cost costs a ≡ get_or costs (a / 2) (pos 0) = rw t.0 refl in
          rw (e, x, y) refl)
      | inr t ↦ (
          let e : other a ≡ a - 1 = rw t.0 refl in
          let o : ((a - 1) % 2 == 0) ≡ true = eq-eqb ((a - 1) % 2) 0 (omega (arith, t.1)) in
          let d : (a - 1) / 2 ≡ a / 2 = omega (arith, t.1) in
          let x : signed_cost costs (a - 1) ≡ get_or costs (a / 2) (pos 0) = rw o (ap (λ (n : ℕ). get_or costs n (pos 0)) d) in
          let y : signed_cost costs a ≡ neg_ℤ (get_or costs (a / 2) (pos 0)) = rw t.0 refl in
          rw (e, x, y) (omega (arith, ints)))
    ]

-- any lists of heads of even length give a network, where the heads are nodes
pub net_of : (n k : ℕ) (heads : List ℕ) (costs : List ℤ) → length heads ≡ 2 * k → ((a : ℕ) → a < length heads → get_or heads a 0 < n) → IsNetwork (shape_in n heads costs)
net_of n k heads costs even ends = record {
  below = λ a arc. ltb-true a (length heads) arc;
  ends = λ a arc. ends a (ltb-true a (length heads) arc);
  has_twin = λ a arc. lt-ltb (other a) (length heads) (let l = ltb-true a (length heads) arc in let m = other_below a k (omega (arith, l, even)) in omega (arith, m, even));
  back = λ a arc. other_other a;
  apart = λ a arc. other_apart a;
  negated = λ a arc. cost_negated costs a;
}

-- the next arc out of a node, in a network that has the same arcs below a number
pub next_same : (s z : Shape) (v high : ℕ) (o : Option ℕ) → ((a : ℕ) → a < high → (IsArc s a → IsArc z a) × (IsArc z a → IsArc s a) × (tail_of z a ≡ tail_of s a)) → IsNextBelow s v high o → IsNextBelow z v high o
next_same s z v high o same next = record {
  found = λ a e. (
      let g = next.found a e in
      let m = same a g.2 in
      (m.0 g.0, m.2 ∙ g.1, g.2, λ b arc t l h. (let q = same b h in g.3 b (q.1 arc) (sym q.2 ∙ t) l h)));
  ended = λ e b arc t l h. (let q = same b h in next.ended e b (q.1 arc) (sym q.2 ∙ t) l h);
}

-- past an arc that starts elsewhere
pub next_skip : (s : Shape) (v high : ℕ) (o : Option ℕ) → (tail_of s high ≡ v → ⊥) → IsNextBelow s v high o → IsNextBelow s v (high + 1) o
next_skip s v high o ne next = record {
  found = λ a e. (
      let g = next.found a e in (
        g.0,
        g.1,
        omega (arith, g.2),
        λ b arc t l h. (
            elim (cases_eq b high) [
              | inl q ↦ ne (ap (λ (c : ℕ). tail_of s c) (sym q) ∙ t)
              | inr q ↦ g.3 b arc t l (omega (arith, q, h))
            ]),
      ));
  ended = λ e b arc t l h. (
      elim (cases_eq b high) [
        | inl q ↦ ne (ap (λ (c : ℕ). tail_of s c) (sym q) ∙ t)
        | inr q ↦ next.ended e b arc t l (omega (arith, q, h))
      ]);
}

-- an arc that starts there
pub next_here : (s : Shape) (v high : ℕ) → IsArc s high → tail_of s high ≡ v → IsNextBelow s v (high + 1) (Some high)
next_here s v high arc t = record {
  found = λ a e. (
      let q : high ≡ a = cc in
      (subst (λ (c : ℕ). IsArc s c) q arc, ap (λ (c : ℕ). tail_of s c) (sym q) ∙ t, omega (arith, q), λ b arc t l h. absurd (omega (arith, q, l, h))));
  ended = λ e. absurd cc;
}

-- two more at the end of a list
pub two_old : {X : Type 0} (xs : List X) (p q d : X) (a : ℕ) → a < length xs → get_or (xs ++ p ∷ [] ++ q ∷ []) a d ≡ get_or xs a d
two_old xs p q d a l =
    let m : length (xs ++ p ∷ []) ≡ length xs + 1 = length-append xs (p ∷ []) in
    get_or_append_left (xs ++ p ∷ []) (q ∷ []) d a (omega (arith, m, l)) ∙ get_or_append_left xs (p ∷ []) d a l

pub two_first : {X : Type 0} (xs : List X) (p q d : X) → get_or (xs ++ p ∷ [] ++ q ∷ []) (length xs) d ≡ p
two_first xs p q d =
    let m : length (xs ++ p ∷ []) ≡ length xs + 1 = length-append xs (p ∷ []) in
    get_or_append_left (xs ++ p ∷ []) (q ∷ []) d (length xs) (omega (arith, m)) ∙ get_or_at xs p [] d (length xs) refl

pub two_second : {X : Type 0} (xs : List X) (p q d : X) → get_or (xs ++ p ∷ [] ++ q ∷ []) (length xs + 1) d ≡ q
two_second xs p q d = get_or_at (xs ++ p ∷ []) q [] d (length xs + 1) (length-append xs (p ∷ []))

pub two_length : {X : Type 0} (xs : List X) (p q : X) → length (xs ++ p ∷ [] ++ q ∷ []) ≡ length xs + 2
two_length xs p q =
    let m : length (xs ++ p ∷ []) ≡ length xs + 1 = length-append xs (p ∷ []) in
    let o : length (xs ++ p ∷ [] ++ q ∷ []) ≡ length (xs ++ p ∷ []) + 1 = length-append (xs ++ p ∷ []) (q ∷ []) in
    omega (arith, m, o)

module _ (n k t h : ℕ) (heads : List ℕ) (costs more_costs : List ℤ) (even : length heads ≡ 2 * k) where
  old : Shape
  old = shape_in n heads costs

  new : Shape
  new = shape_in n (heads ++ h ∷ [] ++ t ∷ []) more_costs

  last : ℕ
  last = length heads

  even_last : other last ≡ last + 1
  unfolding last
  even_last = (let e : (length heads % 2 == 0) ≡ true = eq-eqb (length heads % 2) 0 (omega (arith, even)) in rw e refl)

  odd_last : other (last + 1) ≡ last
  unfolding last
  odd_last = (let e : ((length heads + 1) % 2 == 0) ≡ false = ne_eqb ((length heads + 1) % 2) 0 (λ (q : (length heads + 1) % 2 ≡ 0). omega (arith, even, q)) in rw e (omega arith))

  tail_first : tail_of new last ≡ t
  unfolding new
  tail_first = ap (λ (c : ℕ). get_or (heads ++ h ∷ [] ++ t ∷ []) c 0) even_last ∙ unfold last in two_second heads h t 0

  tail_second : tail_of new (last + 1) ≡ h
  unfolding new
  tail_second = ap (λ (c : ℕ). get_or (heads ++ h ∷ [] ++ t ∷ []) c 0) odd_last ∙ unfold last in two_first heads h t 0

  tail_old : (a : ℕ) → a < last → tail_of new a ≡ tail_of old a
  unfolding new old last
  tail_old a l = two_old heads h t 0 (other a) (let m = other_below a k (omega (arith, l, even)) in omega (arith, m, even))

  arcs_same : (a : ℕ) → a < last → (IsArc old a → IsArc new a) × (IsArc new a → IsArc old a) × (tail_of new a ≡ tail_of old a)
  unfolding new old last
  arcs_same a l =
      let more = two_length heads h t in
      (λ arc. lt-ltb a (length (heads ++ h ∷ [] ++ t ∷ [])) (omega (arith, more, l)), λ arc. lt-ltb a (length heads) l, tail_old a l)

  first_is_arc : IsArc new last
  unfolding new last
  first_is_arc = lt-ltb (length heads) (length (heads ++ h ∷ [] ++ t ∷ [])) (let more = two_length heads h t in omega (arith, more))

  second_is_arc : IsArc new (last + 1)
  unfolding new last
  second_is_arc = lt-ltb (length heads + 1) (length (heads ++ h ∷ [] ++ t ∷ [])) (let more = two_length heads h t in omega (arith, more))

  -- the lists of arcs after both were put in front
  pub linked_more : (first next : List (Option ℕ)) → length first ≡ n → length next ≡ length heads → t < n → h < n → AreLinked (shape_in n heads costs) first next →
      AreLinked (shape_in n (heads ++ h ∷ [] ++ t ∷ []) more_costs) (slice_set (slice_set first t (Some (length heads))) h (Some (length heads + 1))) (next ++ get_or first t None ∷ [] ++ get_or (slice_set first t (Some (length heads))) h None ∷ [])
  unfolding new old last
  linked_more first next count same lt lh linked =
      let one = slice_set first t (Some (length heads)) in
      let count_one : length one ≡ n = length-set first t (Some (length heads)) ∙ count in
      let more = two_length heads h t in
      -- the list of a node before the second arc came in
      let before = λ (v : ℕ) (l : v < n). (
      let r : IsNextBelow new v (length heads + 1) (get_or one v None) =
      elim (cases_eq v t) [
        | inl q ↦ rw (q, get_or-set_same first t (Some (length heads)) None (omega (arith, count, lt))) (next_here new t (length heads) first_is_arc tail_first)
        | inr q ↦ rw (get_or-set_other first t v (Some (length heads)) None q) (next_skip new v (length heads) (get_or first v None) (λ e. q (sym e ∙ tail_first)) (next_same old new v (length heads) (get_or first v None) arcs_same (linked.starts v l)))
      ] in r) in
      let high : length heads + 1 + 1 ≡ length (heads ++ h ∷ [] ++ t ∷ []) = omega (arith, more) in
      let longer = next ++ get_or first t None ∷ [] ++ get_or one h None ∷ [] in
      record {
        starts = λ v l. (
            elim (cases_eq v h) [
              | inl q ↦ rw (q, get_or-set_same one h (Some (length heads + 1)) None (omega (arith, count_one, lh))) (subst (λ (m : ℕ). IsNextBelow new h m (Some (length heads + 1))) high (next_here new h (length heads + 1) second_is_arc tail_second))
              | inr q ↦ rw (get_or-set_other one h v (Some (length heads + 1)) None q) (subst (λ (m : ℕ). IsNextBelow new v m (get_or one v None)) high (next_skip new v (length heads + 1) (get_or one v None) (λ e. q (sym e ∙ tail_second)) (before v l)))
            ]);
        goes_on = λ a l. (
            elim (cases_lt a (length heads)) [
              | inl m ↦ (
                  let e : get_or longer a None ≡ get_or next a None = two_old next (get_or first t None) (get_or one h None) None a (omega (arith, same, m)) in
                  rw (e, tail_old a m) (next_same old new (tail_of old a) a (get_or next a None) (λ b lb. arcs_same b (omega (arith, lb, m))) (linked.goes_on a m)))
              | inr m ↦ elim (cases_eq a (length heads)) [
                | inl q ↦ (
                    let e : get_or longer (length heads) None ≡ get_or first t None = ap (λ (c : ℕ). get_or longer c None) (sym same) ∙ two_first next (get_or first t None) (get_or one h None) None in
                    rw (q, e, tail_first) (next_same old new t (length heads) (get_or first t None) arcs_same (linked.starts t lt)))
                | inr q ↦ (
                    let last_one : a ≡ length heads + 1 = omega (arith, q, m, l, more) in
                    let e : get_or longer (length heads + 1) None ≡ get_or one h None = ap (λ (c : ℕ). get_or longer (c + 1) None) (sym same) ∙ two_second next (get_or first t None) (get_or one h None) None in
                    rw (last_one, e, tail_second) (before h lh))
              ]
            ]);
      }

not_negative : (c : ℤ) (n : ℕ) → 0 < n → (c <ℤ pos 0 → n ≡ 0) → pos 0 ≤ℤ c
not_negative c n l h = by_lt_z c (pos 0) (λ m. absurd (let e = h m in omega (arith, e, l))) (λ m. m)

not_positive : (c : ℤ) (n : ℕ) → 0 < n → (pos 0 <ℤ c → n ≡ 0) → c ≤ℤ pos 0
not_positive c n l h = by_lt_z (pos 0) c (λ m. absurd (let e = h m in omega (arith, e, l))) (λ m. m)

-- the new net's ends, costs and residuals by cases
module _ (k t h forward back : ℕ) (cost : ℤ) (heads residuals : List ℕ) (costs excesses potentials : List ℤ) (even : length heads ≡ 2 * k) (pairs : length costs ≡ k) (same : length residuals ≡ length heads) (lt : t < length excesses) (lh : h < length excesses) where
  abbrev s : Shape
  s = shape_in (length excesses) heads costs

  abbrev z : Shape
  z = shape_in (length excesses) (heads ++ h ∷ [] ++ t ∷ []) (costs ++ cost ∷ [])

  abbrev f : State
  f = state_in residuals excesses potentials

  abbrev g : State
  g = state_in (residuals ++ forward ∷ [] ++ back ∷ []) excesses potentials

  which : (a : ℕ) → a < length (heads ++ h ∷ [] ++ t ∷ []) → (a < length heads) ⊎ ((a ≡ length heads) ⊎ (a ≡ length heads + 1))
  which a l =
      let more = two_length heads h t in
      elim (cases_lt a (length heads)) [
        | inl m ↦ inl m
        | inr m ↦ elim (cases_eq a (length heads)) [
          | inl q ↦ inr (inl q)
          | inr q ↦ inr (inr (omega (arith, q, m, l, more)))
        ]
      ]

  pub net_more : IsNetwork s → IsNetwork z
  net_more net = net_of (length excesses) (k + 1) (heads ++ h ∷ [] ++ t ∷ []) (costs ++ cost ∷ []) (let more = two_length heads h t in omega (arith, more, even)) (λ a l. (
      elim (which a l) [
        | inl m ↦ rw (two_old heads h t 0 a m) (net.ends a (lt-ltb a (length heads) m))
        | inr (inl q) ↦ rw (q, two_first heads h t 0) lh
        | inr (inr q) ↦ rw (q, two_second heads h t 0) lt
      ]))

  cost_old : (a : ℕ) → a < length heads → z.cost a ≡ s.cost a
  cost_old a l =
      let e : get_or (costs ++ cost ∷ []) (a / 2) (pos 0) ≡ get_or costs (a / 2) (pos 0) = get_or_append_left costs (cost ∷ []) (pos 0) (a / 2) (omega (arith, pairs, even, l)) in
      rw e refl

  cost_first : z.cost (length heads) ≡ cost
  cost_first =
      let p : (length heads % 2 == 0) ≡ true = eq-eqb (length heads % 2) 0 (omega (arith, even)) in
      let d : length heads / 2 ≡ k = omega (arith, even) in
      let e : get_or (costs ++ cost ∷ []) k (pos 0) ≡ cost = get_or_at costs cost [] (pos 0) k pairs in
      rw p (rw d e)

  cost_second : z.cost (length heads + 1) ≡ neg_ℤ cost
  cost_second =
      let p : ((length heads + 1) % 2 == 0) ≡ false = ne_eqb ((length heads + 1) % 2) 0 (λ (q : (length heads + 1) % 2 ≡ 0). omega (arith, even, q)) in
      let d : (length heads + 1) / 2 ≡ k = omega (arith, even) in
      let e : get_or (costs ++ cost ∷ []) k (pos 0) ≡ cost = get_or_at costs cost [] (pos 0) k pairs in
      rw p (rw d (ap neg_ℤ e))

  residual_old : (a : ℕ) → a < length heads → g.residual a ≡ f.residual a
  residual_old a l = two_old residuals forward back 0 a (omega (arith, same, l))

  residual_first : g.residual (length heads) ≡ forward
  residual_first = ap (λ (c : ℕ). get_or (residuals ++ forward ∷ [] ++ back ∷ []) c 0) (sym same) ∙ two_first residuals forward back 0

  residual_second : g.residual (length heads + 1) ≡ back
  residual_second = ap (λ (c : ℕ). get_or (residuals ++ forward ∷ [] ++ back ∷ []) (c + 1) 0) (sym same) ∙ two_second residuals forward back 0

  flat : ((v : ℕ) → v < length excesses → get_or potentials v (pos 0) ≡ pos 0) → IsNetwork z → (a : ℕ) → IsArc z a → reduced_cost z g a ≡ z.cost a
  flat flat_at net a arc =
      let p : g.potential (tail_of z a) ≡ pos 0 = flat_at (tail_of z a) (net.ends (other a) (net.has_twin a arc)) in
      let q : g.potential (z.head a) ≡ pos 0 = flat_at (z.head a) (net.ends a arc) in
      omega (arith, ints, p, q)

  pub kept_more : IsNetwork s → HasReducedCosts s f → ((v : ℕ) → v < length excesses → get_or potentials v (pos 0) ≡ pos 0) → (cost <ℤ pos 0 → forward ≡ 0) → (pos 0 <ℤ cost → back ≡ 0) → HasReducedCosts z g
  kept_more net kept flat_at no_forward no_back =
      let net' = net_more net in
      record {
        at_least = λ a arc left. (
            let e = flat flat_at net' a arc in
            elim (which a (ltb-true a (length (heads ++ h ∷ [] ++ t ∷ [])) arc)) [
              | inl m ↦ (
                  let arc' : IsArc s a = lt-ltb a (length heads) m in
                  let r = residual_old a m in
                  let c = cost_old a m in
                  let p : f.potential (tail_of s a) ≡ pos 0 = flat_at (tail_of s a) (net.ends (other a) (net.has_twin a arc')) in
                  let q : f.potential (s.head a) ≡ pos 0 = flat_at (s.head a) (net.ends a arc') in
                  let o : pos 0 ≤ℤ reduced_cost s f a = kept.at_least a arc' (omega (arith, r, left)) in
                  omega (arith, ints, e, c, p, q, o))
              | inr (inl q) ↦ (
                  let r : 0 < forward = rw (q, residual_first) at left in
                  let c : z.cost a ≡ cost = ap (signed_cost (costs ++ cost ∷ [])) q ∙ cost_first in
                  omega (arith, ints, e, c, not_negative cost forward r no_forward))
              | inr (inr q) ↦ (
                  let r : 0 < back = rw (q, residual_second) at left in
                  let c : z.cost a ≡ neg_ℤ cost = ap (signed_cost (costs ++ cost ∷ [])) q ∙ cost_second in
                  omega (arith, ints, e, c, not_positive cost back r no_back))
            ]);
        even = kept.even;
      }

  all_more : total_residual z g ≡ total_residual s f +ℤ pos forward +ℤ pos back
  all_more =
      let more = two_length heads h t in
      let r = λ (a : ℕ). where_true (z.is_arc a) (pos (g.residual a)) in
      let first_arc : z.is_arc (length heads) ≡ true = lt-ltb (length heads) (length (heads ++ h ∷ [] ++ t ∷ [])) (omega (arith, more)) in
      let second_arc : z.is_arc (length heads + 1) ≡ true = lt-ltb (length heads + 1) (length (heads ++ h ∷ [] ++ t ∷ [])) (omega (arith, more)) in
      let count : length (heads ++ h ∷ [] ++ t ∷ []) ≡ length heads + 1 + 1 = omega (arith, more) in
      let a : total_residual z g ≡ sum_below (length heads + 1 + 1) r = ap (λ (n : ℕ). sum_below n r) count in
      let b : sum_below (length heads + 1 + 1) r ≡ sum_below (length heads + 1) r +ℤ r (length heads + 1) = sum_below-more (length heads + 1) r in
      let c : sum_below (length heads + 1) r ≡ sum_below (length heads) r +ℤ r (length heads) = sum_below-more (length heads) r in
      let d : sum_below (length heads) r ≡ total_residual s f = sum_below-same (length heads) r (λ k. where_true (s.is_arc k) (pos (f.residual k))) (λ k l. (let o : s.is_arc k ≡ true = lt-ltb k (length heads) l in let n : z.is_arc k ≡ true = lt-ltb k (length (heads ++ h ∷ [] ++ t ∷ [])) (omega (arith, more, l)) in rw (o, n) (ap pos (residual_old k l)))) in
      let x : r (length heads) ≡ pos forward = rw first_arc (ap pos residual_first) in
      let y : r (length heads + 1) ≡ pos back = rw second_arc (ap pos residual_second) in
      omega (arith, ints, a, b, c, d, x, y)

  pub room_more : IsNetwork s → HasRoom s f → unsigned_abs cost ≤ 2 ^ 40 → (total_amount s f +ℤ pos forward +ℤ pos back) ≤ℤ pos (2 ^ 62) → HasRoom z g
  room_more net room small fits =
      let total = all_more in
      let sizes = λ (v : ℕ). pos (unsigned_abs (f.excess v)) in
      let size_sum : pos 0 ≤ℤ sum_below (length excesses) sizes = sum-not_below (length excesses) sizes (λ v l. omega (arith, ints)) in
      let left_most = λ (v : ℕ). (let r : residual_out z g v ≤ℤ total_residual z g = sum_below-le z.arcs (out_term z g v) (λ a. where_true (z.is_arc a) (pos (g.residual a))) (λ a l. both-le (z.is_arc a) (tail_of z a == v) (g.residual a)) in r) in
      let left_least = λ (v : ℕ). (let r : pos 0 ≤ℤ residual_out z g v = sum-not_below z.arcs (out_term z g v) (λ a l. term-not_below (z.is_arc a && (tail_of z a == v)) (g.residual a)) in r) in
      record {
        total = omega (arith, ints, total, fits, size_sum);
        above = λ v l. (
            let one : sizes v ≤ℤ sum_below (length excesses) sizes = term-le (length excesses) v sizes l (λ k m. omega (arith, ints)) in
            let ll = left_least v in
            omega (arith, ints, one, ll, total, fits));
        beneath = λ v l. (
            let one : sizes v ≤ℤ sum_below (length excesses) sizes = term-le (length excesses) v sizes l (λ k m. omega (arith, ints)) in
            let ll = left_most v in
            omega (arith, ints, one, ll, total, fits));
        costs = λ a l. (
            elim (which a l) [
              | inl m ↦ rw (cost_old a m) (room.costs a m)
              | inr (inl q) ↦ (let c : z.cost a ≡ cost = ap (signed_cost (costs ++ cost ∷ [])) q ∙ cost_first in rw c small)
              | inr (inr q) ↦ (let c : z.cost a ≡ neg_ℤ cost = ap (signed_cost (costs ++ cost ∷ [])) q ∙ cost_second in rw c (omega (arith, ints, small)))
            ]);
        potentials = room.potentials;
      }

pub fit_more : (heads residuals : List ℕ) (next : List (Option ℕ)) (costs : List ℤ) (first : List (Option ℕ)) (excesses potentials : List ℤ) (t h forward back : ℕ) (cost : ℤ) (p q r u : Option ℕ) → FitTogether heads residuals next costs first excesses potentials → FitTogether (heads ++ h ∷ [] ++ t ∷ []) (residuals ++ forward ∷ [] ++ back ∷ []) (next ++ p ∷ [] ++ q ∷ []) (costs ++ cost ∷ []) (slice_set (slice_set first t r) h u) excesses potentials
fit_more heads residuals next costs first excesses potentials t h forward back cost p q r u fit =
    let a = two_length heads h t in
    record {
      by_arc = (let b = two_length residuals forward back in omega (arith, a, b, fit.by_arc));
      by_next = (let b = two_length next p q in omega (arith, a, b, fit.by_next));
      by_pair = (let b : length (costs ++ cost ∷ []) ≡ length costs + 1 = length-append costs (cost ∷ []) in omega (arith, a, b, fit.by_pair));
      by_node = length-set (slice_set first t r) h u ∙ length-set first t r ∙ fit.by_node;
      by_height = fit.by_height;
    }

-- a network without arcs
pub empty_net : (n : ℕ) → IsNetwork (shape_in n [] [])
empty_net n = net_of n 0 [] [] (omega arith) (λ a l. absurd (omega arith))

pub empty_linked : (n : ℕ) (first : List (Option ℕ)) → ((v : ℕ) → v < n → get_or first v None ≡ None) → AreLinked (shape_in n [] []) first []
empty_linked n first none = record {
  starts = λ v l. record {
    found = λ a e. absurd (let z = none v l in cc);
    ended = λ e b arc t lo hi. omega arith;
  };
  goes_on = λ a l. absurd (omega arith);
}

pub empty_room : (supplies potentials : List ℤ) → sum_below (length supplies) (λ v. pos (unsigned_abs (get_or supplies v (pos 0)))) ≤ℤ pos (2 ^ 62) → ((v : ℕ) → v < length supplies → get_or potentials v (pos 0) ≡ pos 0) → HasRoom (shape_in (length supplies) [] []) (state_in [] supplies potentials)
empty_room supplies potentials small flat_at =
    let s = shape_in (length supplies) [] [] in
    let f = state_in [] supplies potentials in
    let sizes = λ (v : ℕ). pos (unsigned_abs (get_or supplies v (pos 0))) in
    let total : total_residual s f ≡ pos 0 = sum_below-none (λ a. where_true (s.is_arc a) (pos (f.residual a))) in
    let out : (v : ℕ) → residual_out s f v ≡ pos 0 = λ v. sum_below-none (out_term s f v) in
    record {
      total = omega (arith, ints, total);
      above = λ v l. (let one : sizes v ≤ℤ sum_below (length supplies) sizes = term-le (length supplies) v sizes l (λ k m. omega (arith, ints)) in let o = out v in omega (arith, ints, total, o, one, small));
      beneath = λ v l. (let one : sizes v ≤ℤ sum_below (length supplies) sizes = term-le (length supplies) v sizes l (λ k m. omega (arith, ints)) in let o = out v in omega (arith, ints, o, one, small));
      costs = λ a l. absurd (omega arith);
      potentials = λ v l. rw (flat_at v l) (omega (arith, ints));
    }

pub grown : (k t h forward back : ℕ) (cost : ℤ) (heads residuals : List ℕ) (costs excesses potentials : List ℤ) (even : length heads ≡ 2 * k) (pairs : length costs ≡ k) (same : length residuals ≡ length heads) (lt : t < length excesses) (lh : h < length excesses) →
    AddsArc (shape_in (length excesses) heads costs) (shape_in (length excesses) (heads ++ h ∷ [] ++ t ∷ []) (costs ++ cost ∷ [])) (state_in residuals excesses potentials) (state_in (residuals ++ forward ∷ [] ++ back ∷ []) excesses potentials) t h cost forward back
grown k t h forward back cost heads residuals costs excesses potentials even pairs same lt lh = record {
  nodes = refl;
  arcs = two_length heads h t;
  are_arcs = λ a l. lt-ltb a (length (heads ++ h ∷ [] ++ t ∷ [])) (let more = two_length heads h t in omega (arith, more, l));
  heads = λ a l. two_old heads h t 0 a l;
  twins = λ a l. refl;
  costs = cost_old k t h forward back cost heads residuals costs excesses potentials even pairs same lt lh;
  residuals = residual_old k t h forward back cost heads residuals costs excesses potentials even pairs same lt lh;
  head = two_first heads h t 0;
  tail = two_second heads h t 0;
  twin = (let e : (length heads % 2 == 0) ≡ true = eq-eqb (length heads % 2) 0 (omega (arith, even)) in rw e refl);
  cost_is = cost_first k t h forward back cost heads residuals costs excesses potentials even pairs same lt lh;
  forward_is = residual_first k t h forward back cost heads residuals costs excesses potentials even pairs same lt lh;
  back_is = residual_second k t h forward back cost heads residuals costs excesses potentials even pairs same lt lh;
  excess = λ v l. refl;
  potential = λ v l. refl;
}
