-- The limits of a header: what breaks them and what keeps them.
use Rattle.std.proofs.Common.{◌≡◌, ℕ, ◌*◌, ◌≤◌, true, false, ◌||◌, ◌⊎◌, Some, None, refl, arith, inl, inr, eqb, ltb}
use Rattle.pgm_planes.proofs.Words.{◌≢◌, cases_Bool, both_ways, eqb-true, eqb-false, ltb-false, le-ltb, ne_eqb, or_parts, Role, Phase, Weight, Mask, Extent, Sought, Form, Size, PhaseMaxval, HasMaxval, IsSizeWithin, max_side_within, max_pixels_within, is_too_large, maxval_break, header_break}

within_u16 : (m : ℕ) → (eqb m 0 || ltb 65535 m) ≡ false → (1 ≤ m) × (m ≤ 65535)
within_u16 m e = let p = or_parts (eqb m 0) (ltb 65535 m) e in (omega (arith, eqb-false m 0 p.0), ltb-false 65535 m p.1)

outside_u16 : (m : ℕ) → (1 ≤ m) × (m ≤ 65535) → (eqb m 0 || ltb 65535 m) ≡ false
outside_u16 m h = rw (ne_eqb m 0 (λ e. omega arith), le-ltb 65535 m h.1) refl

out_of_u16 : (m : ℕ) → ((1 ≤ m) × (m ≤ 65535) → ⊥) → (eqb m 0 || ltb 65535 m) ≡ true
out_of_u16 m n = elim (cases_Bool (eqb m 0 || ltb 65535 m)) [ inl y ↦ y | inr k ↦ absurd (n (within_u16 m k)) ]

size_fits : (extent : Extent) (w h : ℕ) → is_too_large extent w h ≡ false → IsSizeWithin extent w h
size_fits extent w h e = record { across = grind (arith, or_parts, eqb-false, ltb-false); along = grind (arith, or_parts, eqb-false, ltb-false); pixels = grind (arith, or_parts, ltb-false) }

fits_size : (extent : Extent) (w h : ℕ) → IsSizeWithin extent w h → is_too_large extent w h ≡ false
fits_size extent w h s = rw (ne_eqb w 0 (λ e. omega (arith, s.across.0)), le-ltb (max_side_within extent) w s.across.1, ne_eqb h 0 (λ e. omega (arith, s.along.0)), le-ltb (max_side_within extent) h s.along.1, le-ltb (max_pixels_within extent) (w * h) s.pixels) refl

pub size_or_not : (extent : Extent) (w h : ℕ) → IsSizeWithin extent w h ⊎ (¬ IsSizeWithin extent w h)
size_or_not extent w h = elim (cases_Bool (is_too_large extent w h)) [ inl y ↦ inr (λ s. both_ways (is_too_large extent w h) (fits_size extent w h s) y) | inr n ↦ inl (size_fits extent w h n) ]

within_or_not : (m : ℕ) → ((1 ≤ m) × (m ≤ 65535)) ⊎ ((1 ≤ m) × (m ≤ 65535) → ⊥)
within_or_not m = elim (cases_Bool (eqb m 0 || ltb 65535 m)) [ inl y ↦ inr (λ h. both_ways (eqb m 0 || ltb 65535 m) (outside_u16 m h) y) | inr n ↦ inl (within_u16 m n) ]

pub maxval_or_not : (role : Role) (m : ℕ) → HasMaxval role m ⊎ (HasMaxval role m → ⊥)
maxval_or_not Phase m = elim (cases_Bool (eqb m 65535)) [ inl y ↦ inl (eqb-true m 65535 y) | inr n ↦ inr (eqb-false m 65535 n) ]
maxval_or_not Weight m = within_or_not m
maxval_or_not Mask m = within_or_not m

-- a plane is the phase or it is not
pub phase_or_not : (role : Role) → (role ≡ Phase) ⊎ (role ≢ Phase)
phase_or_not Phase = inl refl
phase_or_not Weight = inr (λ e. cc)
phase_or_not Mask = inr (λ e. cc)

-- what is told of a size and of a maxval
module _ (sought : Sought) (w h m place : ℕ) where
  pub size_told : (¬ IsSizeWithin sought.extent w h) → header_break sought w h m place ≡ Some (Size w h)
  size_told n = elim (cases_Bool (is_too_large sought.extent w h)) [ inl y ↦ rw y refl | inr k ↦ absurd (n (size_fits sought.extent w h k)) ]

  pub maxval_told : IsSizeWithin sought.extent w h → header_break sought w h m place ≡ maxval_break sought.role m place
  maxval_told s = rw (fits_size sought.extent w h s) refl

pub kept : (role : Role) (m place : ℕ) → HasMaxval role m → maxval_break role m place ≡ None
kept Phase m place h = rw h refl
kept Weight m place h = rw (outside_u16 m h) refl
kept Mask m place h = rw (outside_u16 m h) refl

pub phase_told : (role : Role) (m place : ℕ) → role ≡ Phase → m ≢ 65535 → maxval_break role m place ≡ Some (PhaseMaxval m)
phase_told role m place phase n = rw (phase, ne_eqb m 65535 n) refl

pub form_told : (role : Role) (m place : ℕ) → role ≢ Phase → (HasMaxval role m → ⊥) → maxval_break role m place ≡ Some (Form place)
form_told Phase m place other n = absurd (other refl)
form_told Weight m place other n = rw (out_of_u16 m n) refl
form_told Mask m place other n = rw (out_of_u16 m n) refl
