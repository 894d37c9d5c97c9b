-- The columns of a tile that are left from a column on, as a pass along a row counts them down.
use Rattle.std.proofs.Common.{◌≡◌, ◌∙◌, ℕ, ◌+◌, ◌-◌, ◌*◌, ◌/◌, ◌%◌, ◌<◌, ◌≤◌, sym, ap, refl, arith, inl, inr}
use Rattle.std.specs.Prelude.{◌==◌, if◌then◌else◌}
use Rattle.std.proofs.lemmas.Bool.Decides.{eqb_tells}
use Rattle.std.proofs.lemmas.Nat.{div-add-mod', mod-mul-add}

-- of the columns that are left to the end of a block, one is left where the next begins another
one_left : (x n d : ℕ) → 1 ≤ n → n ≤ d → (x + n) % d ≡ 0 → (n ≡ 1 → (x + 1) % d ≡ 0) × ((x + 1) % d ≡ 0 → n ≡ 1)
one_left x n d p q e = (
  (λ o. rw o at e),
  (λ z.
      let s = div-add-mod' (x + 1) d in
      let t : x + n ≡ (x + 1) / d * d + (n - 1) = omega (arith, s, z) in
      let m : (x + n) % d ≡ n - 1 = ap (λ (k : ℕ). k % d) t ∙ mod-mul-add ((x + 1) / d) d (n - 1) (omega arith) in
      omega (arith, m, e)),
)

pub last_left : (x n d : ℕ) → 1 ≤ n → n ≤ d → (x + n) % d ≡ 0 → (n == 1) ≡ ((x + 1) % d == 0)
last_left x n d p q e =
    let o = one_left x n d p q e in
    elim (eqb_tells n 1) [
      | inl one ↦ one.0 ∙ (elim (eqb_tells ((x + 1) % d) 0) [ inl z ↦ sym z.0 | inr z ↦ absurd (z.1 (o.0 one.1)) ])
      | inr more ↦ more.0 ∙ (elim (eqb_tells ((x + 1) % d) 0) [ inl z ↦ absurd (more.1 (o.1 z.1)) | inr z ↦ sym z.0 ])
    ]

pub still_left : (x n d m : ℕ) → 1 ≤ n → n ≤ d → (x + n) % d ≡ 0 → m ≡ (if n == 1 then d else n - 1) → (x + 1 + m) % d ≡ 0
still_left x n d m p q e f =
    elim (eqb_tells n 1) [
      | inl one ↦
          (let s = div-add-mod' (x + 1) d in
          let z = (one_left x n d p q e).0 one.1 in
          let g : m ≡ d = f ∙ rw one.0 refl in
          let t : x + 1 + m ≡ ((x + 1) / d + 1) * d + 0 = omega (arith, s, z, g) in
          ap (λ (k : ℕ). k % d) t ∙ mod-mul-add ((x + 1) / d + 1) d 0 (omega arith))
      | inr more ↦
          (let g : m ≡ n - 1 = f ∙ rw more.0 refl in
          let t : x + 1 + m ≡ x + n = omega (arith, g) in
          ap (λ (k : ℕ). k % d) t ∙ e)
    ]

pub all_left : (d : ℕ) → 0 < d → (0 + d) % d ≡ 0
all_left d p =
    let t : 0 + d ≡ 1 * d + 0 = omega arith in
    ap (λ (k : ℕ). k % d) t ∙ mod-mul-add 1 d 0 p
