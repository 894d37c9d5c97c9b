-- The arcs that start at a node, from the greatest number down.
use Rattle.std.proofs.Common.{◌≡◌, ℕ, ◌+◌, ◌*◌, ◌/◌, ◌%◌, ◌<◌, ◌≤◌, ◌∙◌, sym, subst, ap, refl, arith, inl, inr, true, false}
use Rattle.std.specs.Prelude.{Option, Some, None, ◌==◌, if◌then◌else◌, IsTrue}
use Rattle.std.proofs.lemmas.Bool.{and_parts, and_from, cases_Bool, cases_lt, eq-eqb, eqb-true, false≢true}
use Rattle.std.proofs.lemmas.Nat.{div-add-mod', mod_below}
use Rattle.raster_model.specs.declared.tiling.Window.{Window}
use Rattle.flow_network.specs.Nets.{Shape, IsArc, IsGreatest, IsNextBelow, NoneBetween, tail_of}
use Rattle.dual_grid.specs.Building.{IsOutAcross, IsPlaceBelow, LiesAt, LiesAtNone, starts_at}
use Rattle.dual_grid.specs.Grids.{is_taken, leads_forth, window_shape}
use Rattle.dual_grid.specs.Nodes.{edges_of, edge_of, first_side, other_side}
use Rattle.dual_grid.proofs.ArcLemmas.{arc_taken, place_is_arc, place_tail, tail_is}

-- ---- arcs of any network
module _ (s : Shape) (u : ℕ) where
  -- none further down, and none from there on
  pub none_between : (low mid high : ℕ) → NoneBetween s u low mid → NoneBetween s u mid high → NoneBetween s u low high
  none_between low mid high p q b arc tail l m =
      elim (cases_lt b mid) [
        | inl k ↦ p b arc tail l k
        | inr k ↦ q b arc tail k m
      ]

  -- the next below a number is the next below a greater one, if none lies between
  pub next_over : (low high : ℕ) (o : Option ℕ) → low ≤ high → NoneBetween s u low high → IsNextBelow s u low o → IsNextBelow s u high o
  next_over low high o l none next = record {
    found = λ a e. (let g = next.found a e in (g.0, g.1, omega (arith, g.2, l), none_between (a + 1) low high g.3 none));
    ended = λ e. none_between 0 low high (next.ended e) none;
  }

  pub no_arc : (high : ℕ) → NoneBetween s u 0 high → IsNextBelow s u high None
  no_arc high none = record { found = λ a e. absurd cc; ended = λ e. none }

  -- an arc across an edge is the next below
  pub next_here : (n high : ℕ) (o : Option ℕ) → IsOutAcross s u n high o → (o ≡ None → ⊥) → IsNextBelow s u (n * 8 + high) o
  next_here n high o out is = record { found = λ a e. (out.found a e).1; ended = λ e. absurd (is e) }

module _ (v : Window) (steep : ℕ) (weight : ℕ → ℕ) (u : ℕ) where
  -- an arc that starts at a node is across an edge that the node lies at
  lies_there : (b : ℕ) → IsArc (window_shape v steep weight) b → tail_of (window_shape v steep weight) b ≡ u → LiesAt v u (b / 8)
  lies_there b arc e =
      elim (cases_Bool (leads_forth (b % 8))) [
        | inl t ↦ inl (rw t at (sym (tail_is v steep weight b arc) ∙ e))
        | inr t ↦ inr (rw t at (sym (tail_is v steep weight b arc) ∙ e))
      ]

  pub none_across : (low high : ℕ) → LiesAtNone v u low high → NoneBetween (window_shape v steep weight) u (low * 8) (high * 8)
  none_across low high none b arc tail l m = none (b / 8) (omega (arith, l)) (omega (arith, m)) (lies_there b arc tail)

  -- an arc starts there, across each edge that the node lies at
  some_across : (n : ℕ) → n < edges_of v → LiesAt v u n → NoneBetween (window_shape v steep weight) u (n * 8) (n * 8 + 8) → ⊥
  some_across n l (inl e) none = let arc = place_is_arc v steep weight n 0 l (omega arith) refl in none (n * 8 + 0) arc (place_tail v steep weight n 0 (omega arith) arc ∙ e) (omega arith) (omega arith)
  some_across n l (inr e) none = let arc = place_is_arc v steep weight n 2 l (omega arith) refl in none (n * 8 + 2) arc (place_tail v steep weight n 2 (omega arith) arc ∙ e) (omega arith) (omega arith)

  -- the next arc across the next edge below
  pub next_edge : (n high : ℕ) (o : Option ℕ) → high ≤ edges_of v → n < high → LiesAt v u n → LiesAtNone v u (n + 1) high → IsOutAcross (window_shape v steep weight) u n 8 o → IsNextBelow (window_shape v steep weight) u (high * 8) o
  next_edge n high o top l at none out =
      let e : (n + 1) * 8 ≡ n * 8 + 8 = omega arith in
      let rest = subst (λ (k : ℕ). NoneBetween (window_shape v steep weight) u k (high * 8)) e (none_across (n + 1) high none) in
      next_over (window_shape v steep weight) u (n * 8 + 8) (high * 8) o (omega (arith, l)) rest
      (next_here (window_shape v steep weight) u n 8 o out (λ i. some_across n (omega (arith, l, top)) at (out.ended i)))

  -- ---- across one edge
  module _ (n : ℕ) (l : n < edges_of v) (f o : ℕ) (first : f ≡ first_side v (edge_of v n)) (other : o ≡ other_side v (edge_of v n)) where
    tested : (b : ℕ) → IsArc (window_shape v steep weight) b → b / 8 ≡ n → tail_of (window_shape v steep weight) b ≡ u → starts_at steep (weight n) (f == u) (o == u) (b % 8) ≡ true
    tested b arc e tail =
        and_from (is_taken steep (weight n) (b % 8)) (if leads_forth (b % 8) then f == u else o == u) (ap (λ (m : ℕ). is_taken steep (weight m) (b % 8)) (sym e) ∙ arc_taken v steep weight b arc)
        (elim (cases_Bool (leads_forth (b % 8))) [
          | inl t ↦ rw t (eq-eqb f u (first ∙ ap (λ (m : ℕ). first_side v (edge_of v m)) (sym e) ∙ (rw t at (sym (tail_is v steep weight b arc) ∙ tail))))
          | inr t ↦ rw t (eq-eqb o u (other ∙ ap (λ (m : ℕ). other_side v (edge_of v m)) (sym e) ∙ (rw t at (sym (tail_is v steep weight b arc) ∙ tail))))
        ])

    -- no arc in places that fail the test
    pub none_from : (low high : ℕ) → high ≤ 8 → ((j : ℕ) → low ≤ j → j < high → starts_at steep (weight n) (f == u) (o == u) j ≡ false) → NoneBetween (window_shape v steep weight) u (n * 8 + low) (n * 8 + high)
    none_from low high top none b arc tail p q =
        let split = div-add-mod' b 8 in
        let k = mod_below b 8 (omega arith) in
        let e : b / 8 ≡ n = omega (arith, p, q, top, split, k) in
        false≢true (sym (none (b % 8) (omega (arith, p, split, e)) (omega (arith, q, split, e))) ∙ tested b arc e tail)

    test_arc : (k : ℕ) → k < 8 → IsTrue (starts_at steep (weight n) (f == u) (o == u) k) → IsArc (window_shape v steep weight) (n * 8 + k)
    test_arc k m t = place_is_arc v steep weight n k l m (and_parts (is_taken steep (weight n) k) (if leads_forth k then f == u else o == u) t).0

    test_tail : (k : ℕ) (m : k < 8) (t : IsTrue (starts_at steep (weight n) (f == u) (o == u) k)) → tail_of (window_shape v steep weight) (n * 8 + k) ≡ u
    test_tail k m t =
        let test = (and_parts (is_taken steep (weight n) k) (if leads_forth k then f == u else o == u) t).1 in
        place_tail v steep weight n k m (test_arc k m t) ∙ (elim (cases_Bool (leads_forth k)) [
          | inl b ↦ rw b (sym first ∙ eqb-true f u (rw b at test))
          | inr b ↦ rw b (sym other ∙ eqb-true o u (rw b at test))
        ])

    pub place_found : (high k : ℕ) → high ≤ 8 → IsPlaceBelow steep (weight n) (f == u) (o == u) high (Some k) → IsOutAcross (window_shape v steep weight) u n high (Some (n * 8 + k))
    place_found high k top below =
        let p = below.found k refl in
        let m : k < 8 = omega (arith, p.0, top) in
        record {
          found = λ a e. (
              let i : n * 8 + k ≡ a = cc in
              subst (λ (b : ℕ). (n * 8 ≤ b) × IsGreatest (window_shape v steep weight) u (n * 8 + high) b) i
              (omega arith, (test_arc k m p.1, test_tail k m p.1, omega (arith, p.0), subst (λ (b : ℕ). NoneBetween (window_shape v steep weight) u b (n * 8 + high)) (let e : n * 8 + (k + 1) ≡ n * 8 + k + 1 = omega arith in e) (none_from (k + 1) high top (λ j x y. p.2 j (omega (arith, x)) y)))));
          ended = λ e. absurd cc;
        }

    pub place_missing : (high : ℕ) → high ≤ 8 → IsPlaceBelow steep (weight n) (f == u) (o == u) high None → IsOutAcross (window_shape v steep weight) u n high None
    place_missing high top below = record {
      found = λ a e. absurd cc;
      ended = λ e. (
          let zero : n * 8 + 0 ≡ n * 8 = omega arith in
          subst (λ (b : ℕ). NoneBetween (window_shape v steep weight) u b (n * 8 + high)) zero (none_from 0 high top (λ j x y. below.ended refl j y)));
    }
