-- Laws of nearest surfaces.
use Rattle.std.proofs.Common.{◌≡◌, ℕ, ◌<◌, ℤ, pos, ◌+ℤ◌, ◌-ℤ◌, ◌*ℤ◌, ◌≤ℤ◌, arith, refl, sym, ap, subst, ◌∙◌, inl, inr}
use Rattle.std.specs.Prelude.{◌<ℤ◌, unsigned_abs}
use Rattle.std.proofs.lemmas.Bool.{cases_lt}
use Rattle.std.proofs.lemmas.Int.{by_lt_z, ints}
use Rattle.sums_and_lists.proofs.Orders.{below_at_above}
use Rattle.raster_model.specs.Seams.{IsEarlier}
use Rattle.grid_writer.specs.Grids.{GridOf}
use Rattle.nearest_surface.specs.declared.fault.NearestFault.{NearestFault}
use Rattle.nearest_surface.specs.declared.fault.NearestFault.TheVariants.{Sizes, Missing, Wide}
use Rattle.nearest_surface.specs.Laws.{IsFurther, NearestIsOwn, NearestIsUnique, NoneIsNearer, OneAnswer}
use Rattle.nearest_surface.specs.Nearest.{HasCause, IsFirstOf, IsNearest, IsNearestSurface, MaskedPhase}
use Rattle.nearest_surface.proofs.ValueLemmas.{not_wide, stands_one}

-- ---- none is nearer

module _ (phase : ℕ) (given value other cycles : ℤ) (is : IsNearest phase given value) (e : other ≡ pos phase +ℤ pos 65536 *ℤ cycles) where
  above : is.cycles <ℤ cycles → IsFurther given value other
  above l =
      let w = is.whole in
      let a = is.least in
      let b = is.most in
      let far : pos 65536 ≤ℤ (other -ℤ value) = omega (arith, ints, w, e, l) in
      elim (cases_lt (unsigned_abs (value -ℤ given)) (unsigned_abs (other -ℤ given))) [
        | inl less ↦ inl less
        | inr le ↦ inr (omega (arith, ints, a, b, far, le), omega (arith, ints, far))
      ]

  below : cycles <ℤ is.cycles → IsFurther given value other
  below l =
      let w = is.whole in
      let a = is.least in
      let b = is.most in
      let far : pos 65536 ≤ℤ (value -ℤ other) = omega (arith, ints, w, e, l) in
      inl (omega (arith, ints, a, b, far))

  same : cycles ≤ℤ is.cycles → is.cycles ≤ℤ cycles → other ≡ value
  same l m = let w = is.whole in omega (arith, ints, w, e, l, m)

pub none_nearer : NoneIsNearer
none_nearer phase given value other cycles is e apart =
    by_lt_z is.cycles cycles (above phase given value other cycles is e)
    (λ ge. by_lt_z cycles is.cycles (below phase given value other cycles is e) (λ le. absurd (apart (same phase given value other cycles is e ge le))))

-- ---- one surface

pub nearest_unique : NearestIsUnique
nearest_unique p given one other a b = record {
  width = a.size.0 ∙ sym b.size.0;
  height = a.size.1 ∙ sym b.size.1;
  values = λ x y l m.
      let across : x < p.width = subst (λ (n : ℕ). x < n) a.size.0 l in
      let along : y < p.height = subst (λ (n : ℕ). y < n) a.size.1 m in
      stands_one (p.mask x y) (p.phase x y) (given.values x y) (one.values x y) (other.values x y) (a.values x y across along) (b.values x y across along);
}

pub nearest_own : NearestIsOwn
nearest_own p given output s = record {
  given_size = s.size;
  size = s.size;
  complete = λ x y l m missing. ((s.values x y l m).nearest missing.0).1.1 missing.1;
  values = λ x y l m.
      let v = s.values x y l m in
      record {
        masked = v.masked;
        nearest = λ clear. (let n = (v.nearest clear).0 in record { cycles = n.cycles; whole = n.whole; least = omega (arith, ints); most = omega (arith, ints) }, (v.nearest clear).1);
      };
}

-- ---- one answer

-- of two first pixels none is before the other
first_one : (w h : ℕ) (P : ℕ → ℕ → Type 0) (x y a b : ℕ) → IsFirstOf w h P x y → IsFirstOf w h P a b → (x ≡ a) × (y ≡ b)
first_one w h P x y a b p q =
    let no : IsEarlier x y a b → ⊥ = λ e. q.first x y p.across e p.here in
    let none : IsEarlier a b x y → ⊥ = λ e. p.first a b q.across e q.here in
    let row : y ≡ b = elim (below_at_above y b) [ inl l ↦ absurd (no (inl l)) | inr r ↦ elim r [ inl e ↦ e | inr l ↦ absurd (none (inl l)) ] ] in
    let column : x ≡ a = elim (below_at_above x a) [ inl l ↦ absurd (no (inr (row, l))) | inr r ↦ elim r [ inl e ↦ e | inr l ↦ absurd (none (inr (sym row, l))) ] ] in
    (column, row)

pub either_answer : (p : MaskedPhase) (given output : GridOf) (fault : NearestFault) → IsNearestSurface p given output → HasCause p given fault → ⊥
either_answer p given output Sizes s c = c s.given_size
either_answer p given output (Missing x y) s c = s.complete x y c.1.across c.1.along c.1.here
either_answer p given output (Wide x y) s c =
    let w = c.1.1 in
    not_wide (p.mask x y) (p.phase x y) (given.values x y) (output.values x y) (s.values x y w.across w.along) w.here.0 w.here.1

one_fault : (p : MaskedPhase) (given : GridOf) (fault other : NearestFault) → HasCause p given fault → HasCause p given other → fault ≡ other
one_fault p given Sizes Sizes c d = refl
one_fault p given Sizes (Missing a b) c d = absurd (c d.0)
one_fault p given Sizes (Wide a b) c d = absurd (c d.0)
one_fault p given (Missing x y) Sizes c d = absurd (d c.0)
one_fault p given (Missing x y) (Missing a b) c d = let e = first_one _ _ _ x y a b c.1 d.1 in ap (λ (k : ℕ). Missing k y) e.0 ∙ ap (λ (k : ℕ). Missing a k) e.1
one_fault p given (Missing x y) (Wide a b) c d = absurd (d.1.0 x y c.1.across c.1.along c.1.here)
one_fault p given (Wide x y) Sizes c d = absurd (d c.0)
one_fault p given (Wide x y) (Missing a b) c d = absurd (c.1.0 a b d.1.across d.1.along d.1.here)
one_fault p given (Wide x y) (Wide a b) c d = let e = first_one _ _ _ x y a b c.1.1 d.1.1 in ap (λ (k : ℕ). Wide k y) e.0 ∙ ap (λ (k : ℕ). Wide a k) e.1

pub one_answer : OneAnswer
one_answer = record { either = either_answer; one = one_fault }
