-- The margin of an edge by its weight and the step of the faces there.
use Rattle.std.proofs.Common.{◌≡◌, ◌≢◌, ◌∙◌, ℕ, zero, suc, ◌*◌, ◌<◌, ◌≤◌, refl, sym, inl, inr, arith, Bool, List}
use Rattle.std.specs.Prelude.{ℤ, pos, negsuc, ◌+ℤ◌, ◌-ℤ◌, ◌*ℤ◌, ◌≤ℤ◌, nat_le, IsTrue, unsigned_abs}
use Rattle.std.specs.Int.{int_min}
use Rattle.std.proofs.lemmas.Bool.{cases_Bool}
use Rattle.std.proofs.lemmas.Bool.Decides.{nat_tests}
use Rattle.std.proofs.lemmas.Int.{ints, int_min_is}
use Rattle.raster_model.specs.declared.edge.Edge.{Edge}
use Rattle.raster_model.specs.Cells.{IsCertifiedTile}
use Rattle.raster_model.specs.Sums.{Field, is_edge}
use Rattle.raster_model.specs.Raster.{Raster, has_open_ends, lifted, masked_weight, over, steps}
use Rattle.raster_model.specs.Whole.{whole_of}
use Rattle.raster_model.proofs.Exact.{lifted_is_congruent}
use Rattle.certain_parts.specs.Margins.{Faced, IsCertified, departure_at, excess, face_step, margin}
use Rattle.certain_parts.specs.Faces.{faced_by}
use Rattle.certain_parts.proofs.Agreeing.{excesses_are_least}
use Rattle.certain_parts.proofs.Convex.{IsConvex, beside_is_least}
use Rattle.certain_parts.proofs.Excesses.{excess_convex}

-- ---- beside a departure without excess
abbrev beside : (ℤ → ℤ) → ℤ → ℤ
beside f k = int_min (f (k +ℤ pos 1)) (f (k -ℤ pos 1))

none_beside : (f : ℤ → ℤ) → IsConvex f → ((j : ℤ) → pos 0 ≤ℤ f j) → (a k : ℤ) → f a ≡ pos 0 → f k ≡ pos 0 → k ≢ a → beside f a ≡ pos 0
none_beside f convex positive a k none too other =
    let up = positive (a +ℤ pos 1) in
    let down = positive (a -ℤ pos 1) in
    let least = int_min_is (f (a +ℤ pos 1)) (f (a -ℤ pos 1)) in
    elim (beside_is_least f convex a (omega (arith, ints, none, up)) (omega (arith, ints, none, down)) k other) [
      | inl h ↦ omega (arith, ints, h, too, up, down, least)
      | inr h ↦ omega (arith, ints, h, too, up, down, least)
    ]

-- which of them it is, does not matter
beside_alike : (f : ℤ → ℤ) → IsConvex f → ((j : ℤ) → pos 0 ≤ℤ f j) → (a k : ℤ) → f a ≡ pos 0 → f k ≡ pos 0 → beside f k ≡ beside f a
beside_alike f convex positive a k none too = by_difference (k -ℤ a) (omega (arith, ints))
  where
    apart : k ≢ a → beside f k ≡ beside f a
    apart other = none_beside f convex positive k a too none (λ e. other (sym e)) ∙ sym (none_beside f convex positive a k none too other)

    by_difference : (d : ℤ) → k ≡ a +ℤ d → beside f k ≡ beside f a
    by_difference (pos zero) e = let same : k ≡ a = omega (arith, ints, e) in rw same refl
    by_difference (pos (suc n)) e = apart (λ same. absurd (omega (arith, ints, e, same)))
    by_difference (negsuc n) e = apart (λ same. absurd (omega (arith, ints, e, same)))

-- ---- excesses by steepness, weight and step: without departure up to the weight, and at one cycle beyond it, there is none
abbrev excess_by : ℕ → ℕ → ℤ → ℤ → ℤ
excess_by q g d j = pos (g * steps q j) -ℤ d *ℤ j +ℤ pos (over g d)

within : (q g : ℕ) (d : ℤ) → unsigned_abs d ≤ g → (excess_by q g d (pos 0) ≡ pos 0) × (beside (excess_by q g d) (pos 0) ≡ pos g -ℤ pos (unsigned_abs d))
within q g (pos n) l =
    let least = int_min_is (excess_by q g (pos n) (pos 1)) (excess_by q g (pos n) (negsuc 0)) in
    (omega (arith, ints, l), omega (arith, ints, l, least))
within q g (negsuc n) l =
    let least = int_min_is (excess_by q g (negsuc n) (pos 1)) (excess_by q g (negsuc n) (negsuc 0)) in
    (omega (arith, ints, l), omega (arith, ints, l, least))

abbrev beyond_is : ℕ → ℕ → ℤ → ℤ
beyond_is q g d = int_min (pos (unsigned_abs d) -ℤ pos g) (pos (q * g) -ℤ pos (unsigned_abs d))

beyond : (q g : ℕ) (d : ℤ) → g < unsigned_abs d → (a : ℤ) × (excess_by q g d a ≡ pos 0) × (beside (excess_by q g d) a ≡ beyond_is q g d)
beyond q g (pos n) l =
    let least = int_min_is (excess_by q g (pos n) (pos 2)) (excess_by q g (pos n) (pos 0)) in
    let told = int_min_is (pos n -ℤ pos g) (pos (q * g) -ℤ pos n) in
    (pos 1, omega (arith, ints, l), omega (arith, ints, l, least, told))
beyond q g (negsuc n) l =
    let least = int_min_is (excess_by q g (negsuc n) (pos 0)) (excess_by q g (negsuc n) (negsuc 1)) in
    let told = int_min_is (pos (suc n) -ℤ pos g) (pos (q * g) -ℤ pos (suc n)) in
    (negsuc 0, omega (arith, ints, l), omega (arith, ints, l, least, told))

-- ---- the margin
module _ (c : Faced) (is : IsCertified c) (one : 1 ≤ c.raster.steep) (e : Edge) (i : IsTrue (is_edge c.raster.width c.raster.height e)) (o : IsTrue (has_open_ends c.mask e)) where
  abbrev g : ℕ
  g = masked_weight c.raster c.mask e

  abbrev d : ℤ
  d = face_step c e

  margin_beside : (a : ℤ) → excess c e a ≡ pos 0 → margin c e ≡ beside (excess c e) a
  margin_beside a none =
      let least = excesses_are_least c is e i in
      beside_alike (excess c e) (excess_convex c e one) least.0 a (departure_at c e) none (least.1 o)

  -- what code works out by weight and step alone is the margin
  pub margin_told : (z : ℤ) → (unsigned_abs d ≤ g → z ≡ pos g -ℤ pos (unsigned_abs d)) → (g < unsigned_abs d → z ≡ beyond_is c.raster.steep g d) → z ≡ margin c e
  margin_told z low high = elim (cases_Bool (nat_le (unsigned_abs d) g)) [
    | inl t ↦ (
        let l : unsigned_abs d ≤ g = grind (arith, nat_tests) in
        let w = within c.raster.steep g d l in
        low l ∙ sym w.1 ∙ sym (margin_beside (pos 0) w.0))
    | inr t ↦ (
        let l : g < unsigned_abs d = grind (arith, nat_tests) in
        let b = beyond c.raster.steep g d l in
        high l ∙ sym b.2 ∙ sym (margin_beside b.0 b.1))
  ]

-- ---- a surface of whole cycles above the phase, with a list of faces
pub certified_by : (raster : Raster) (mask : Field Bool) (cycles : Field ℤ) (faces : List ℤ) → IsCertifiedTile (whole_of raster) mask 0 (lifted raster cycles) faces → IsCertified (faced_by raster mask cycles faces)
certified_by raster mask cycles faces is = record { congruent = lifted_is_congruent raster mask cycles; certified = is.1 }

-- the weight of an edge with open ends
pub open_weight : (raster : Raster) (mask : Field Bool) (e : Edge) → IsTrue (has_open_ends mask e) → masked_weight raster mask e ≡ raster.weight e
open_weight raster mask e o = rw o refl
