-- What margins bound, and that surfaces of nearly the least cost agree in parts.
use Rattle.std.proofs.Common.{◌≡◌, ◌≢◌, ◌∙◌, ℕ, ◌+◌, ◌≤◌, refl, sym, arith, inl, inr, Bool, true, false}
use Rattle.std.specs.Prelude.{ℤ, pos, ◌+ℤ◌, ◌-ℤ◌, ◌≤ℤ◌, ◌<ℤ◌, ◌&&◌, int_lt, IsTrue}
use Rattle.std.proofs.lemmas.Int.{ints, int_min_is, by_lt_z}
use Rattle.sums_and_lists.specs.Sums.{where_true}
use Rattle.raster_model.specs.declared.edge.Edge.{Edge}
use Rattle.raster_model.specs.Sums.{Field, at_edge_end, at_edge_start, down_edge, is_edge, right_edge}
use Rattle.raster_model.specs.Raster.{IsCongruent, departure, has_open_ends}
use Rattle.raster_model.specs.Whole.{whole_cost}
use Rattle.raster_model.proofs.Exact.{departure_is_exact}
use Rattle.sums_and_lists.proofs.SumLemmas.{picked}
use Rattle.certain_parts.specs.Margins.{Faced, IsCertified, departure_at, excess, extra_cost, margin}
use Rattle.joined_cells.specs.Joining.{joins}
use Rattle.joined_cells.specs.Joining.AreJoinedBy.{here, rightward, leftward, downward, upward}
use Rattle.sums_and_lists.proofs.Tests.{and_first, and_second}
use Rattle.certain_parts.specs.Parts.{AreInOnePart, IsCertainEdge, parts_joined}
use Rattle.certain_parts.specs.Laws.{ExcessesAreLeastAtTheSurface, MarginsBoundExcesses, OthersCostMore, SurfacesAgreeInParts}
use Rattle.certain_parts.proofs.Convex.{beside_is_least}
use Rattle.certain_parts.proofs.Excesses.{adds_up, excess_convex, excess_positive}
use Rattle.certain_parts.proofs.SumOfEdges.{sum_edges-has}

-- no edge takes anything off what another surface costs more
extra_positive : (c : Faced) → IsCertified c → (other : Field ℤ) → (e : Edge) → IsTrue (is_edge c.raster.width c.raster.height e) → pos 0 ≤ℤ extra_cost c other e
extra_positive c is other e i = where_open (has_open_ends c.mask e)
  where
    where_open : (clear : Bool) → pos 0 ≤ℤ where_true clear (excess c e (departure c.raster other e))
    where_open true = excess_positive c is e i (departure c.raster other e)
    where_open false = omega (arith, ints)

-- an edge with open ends alone adds no more than another surface costs more
costs_at_least : (c : Faced) → IsCertified c → (other : Field ℤ) → IsCongruent c.raster c.mask other → (e : Edge) → IsTrue (is_edge c.raster.width c.raster.height e) → IsTrue (has_open_ends c.mask e) → (whole_cost c.raster c.mask c.surface +ℤ excess c e (departure c.raster other e)) ≤ℤ whole_cost c.raster c.mask other
costs_at_least c is other good e i o =
    let part = sum_edges-has c.raster.width c.raster.height (extra_cost c other) (extra_positive c is other) e i in
    let one = picked (has_open_ends c.mask e) (excess c e (departure c.raster other e)) o in
    omega (arith, ints, part, one, adds_up c is other good)

none_at_surface : (c : Faced) → IsCertified c → (e : Edge) → IsTrue (is_edge c.raster.width c.raster.height e) → IsTrue (has_open_ends c.mask e) → excess c e (departure_at c e) ≡ pos 0
none_at_surface c is e i o =
    omega (arith, ints, excess_positive c is e i (departure_at c e), costs_at_least c is c.surface is.congruent e i o)

pub excesses_are_least : ExcessesAreLeastAtTheSurface
excesses_are_least c is e i = (excess_positive c is e i, none_at_surface c is e i)

pub margins_bound : MarginsBoundExcesses
margins_bound c is one e i o j other =
    let none = none_at_surface c is e i o in
    let up = excess_positive c is e i (departure_at c e +ℤ pos 1) in
    let down = excess_positive c is e i (departure_at c e -ℤ pos 1) in
    let least = int_min_is (excess c e (departure_at c e +ℤ pos 1)) (excess c e (departure_at c e -ℤ pos 1)) in
    elim (beside_is_least (excess c e) (excess_convex c e one) (departure_at c e) (omega (arith, ints, none, up)) (omega (arith, ints, none, down)) j other) [
      | inl h ↦ omega (arith, ints, h, least)
      | inr h ↦ omega (arith, ints, h, least)
    ]

-- ---- two surfaces at an edge
-- where they depart alike they rise alike
rise_alike : (c : Faced) → IsCertified c → (other : Field ℤ) → IsCongruent c.raster c.mask other → (e : Edge) → IsTrue (is_edge c.raster.width c.raster.height e) → IsTrue (has_open_ends c.mask e) → departure c.raster other e ≡ departure_at c e → at_edge_start other e -ℤ at_edge_start c.surface e ≡ at_edge_end other e -ℤ at_edge_end c.surface e
rise_alike c is other good e i o same =
    let a = departure_is_exact c.raster c.mask other good e i o in
    let b = departure_is_exact c.raster c.mask c.surface is.congruent e i o in
    omega (arith, ints, rw same at a, b)

-- an edge that joins its ends is certain
is_certain : (c : Faced) (limit : ℕ) (e : Edge) → IsTrue (joins (parts_joined c limit) e) → IsCertainEdge c limit e
is_certain c limit e joined =
    let ends = and_first (is_edge c.raster.width c.raster.height e && has_open_ends c.mask e) (int_lt (pos limit) (margin c e)) joined in
    record {
      inside = and_first (is_edge c.raster.width c.raster.height e) (has_open_ends c.mask e) ends;
      unmasked = and_second (is_edge c.raster.width c.raster.height e) (has_open_ends c.mask e) ends;
      certain = above (pos limit) (margin c e) (and_second (is_edge c.raster.width c.raster.height e && has_open_ends c.mask e) (int_lt (pos limit) (margin c e)) joined);
    }
  where
    above : (a b : ℤ) → int_lt a b ≡ true → a <ℤ b
    above a b t = omega (arith, ints)

-- at a certain edge a surface that does not cost too much departs as the certified one does
module _ (c : Faced) (limit : ℕ) (other : Field ℤ) (is : IsCertified c) (one : 1 ≤ c.raster.steep) (good : IsCongruent c.raster c.mask other) (near : whole_cost c.raster c.mask other ≤ℤ (whole_cost c.raster c.mask c.surface +ℤ pos limit)) where
  departs_alike : (e : Edge) → IsCertainEdge c limit e → departure c.raster other e ≡ departure_at c e
  departs_alike e certain =
      by_lt_z (departure c.raster other e) (departure_at c e) (λ l. absurd (too_dear (λ s. omega (arith, ints, l, s))))
      (λ l. by_lt_z (departure_at c e) (departure c.raster other e) (λ m. absurd (too_dear (λ s. omega (arith, ints, m, s)))) (λ m. omega (arith, ints, l, m)))
    where
      too_dear : departure c.raster other e ≢ departure_at c e → ⊥
      too_dear differ =
          let bound = margins_bound c is one e certain.inside certain.unmasked (departure c.raster other e) differ in
          let cost = costs_at_least c is other good e certain.inside certain.unmasked in
          omega (arith, ints, bound, cost, near, certain.certain)

  alike : (e : Edge) → IsTrue (joins (parts_joined c limit) e) → at_edge_start other e -ℤ at_edge_start c.surface e ≡ at_edge_end other e -ℤ at_edge_end c.surface e
  alike e joined =
      let certain = is_certain c limit e joined in
      rise_alike c is other good e certain.inside certain.unmasked (departs_alike e certain)

  agree : (x y a b : ℕ) → AreInOnePart c limit x y a b → other x y -ℤ c.surface x y ≡ other a b -ℤ c.surface a b
  agree x y _ _ here = refl
  agree x y _ _ (rightward {a} {b} walk certain) = agree x y a b walk ∙ alike (right_edge a b) certain
  agree x y _ _ (leftward {a} {b} walk certain) = agree x y (a + 1) b walk ∙ sym (alike (right_edge a b) certain)
  agree x y _ _ (downward {a} {b} walk certain) = agree x y a b walk ∙ alike (down_edge a b) certain
  agree x y _ _ (upward {a} {b} walk certain) = agree x y a (b + 1) walk ∙ sym (alike (down_edge a b) certain)

pub surfaces_agree : SurfacesAgreeInParts
surfaces_agree c limit other is one good near x y a b walk = agree c limit other is one good near x y a b walk

pub others_cost_more : OthersCostMore
others_cost_more c limit other is one good x y a b walk differ =
    by_lt_z (whole_cost c.raster c.mask c.surface +ℤ pos limit) (whole_cost c.raster c.mask other) (λ l. l) (λ near. absurd (differ (agree c limit other is one good near x y a b walk)))
