-- A whole plane: bytes begin with one, or break where the reader does.
use Rattle.std.proofs.Common.{◌≡◌, ℕ, suc, Bool, ◌+◌, true, ◌&&◌, ◌⊎◌, List, [], ◌∷◌, ◌++◌, length, None, get_or, refl, sym, ap, ◌∙◌, arith, inl, inr, eqb, ltb}
use Rattle.pgm_planes.proofs.Words.{scan_at, and_parts, cases_Bool, eqb-true, Spelling, Raw, Plain, Digits, is_space, digit_of, AreSamples, HasNoMagic, HasEnded, IsPartOfSample, spelling_of, byte_at, octet_at, magic_at, form_of, spelled_sample_at, samples_at}
use Rattle.pgm_planes.proofs.HeaderLemmas.{done}
use Rattle.pgm_planes.proofs.FieldLemmas.{spaced}
use Rattle.pgm_planes.proofs.SampleLemmas.{Rastered, EndsSample, CutSample}

-- ---- the magic

pub magic_again : (spelling : Spelling) (goes : Bool) (at : ℕ) (behind : List ℕ) → magic_at goes at (80 ∷ digit_of spelling ∷ behind) ≡ done spelling (at + 2) behind
unfolding magic_at octet_at byte_at
magic_again Raw goes at behind = let e : (at + 1) + 1 ≡ at + 2 = omega arith in rw e refl
magic_again Plain goes at behind = let e : (at + 1) + 1 ≡ at + 2 = omega arith in rw e refl

pub spelling_cases : (a b : ℕ) → (spelling_of a b ≡ None) ⊎ ((s : Spelling) × (a ≡ 80) × (b ≡ digit_of s))
spelling_cases a b = elim (cases_Bool (eqb a 80 && eqb b 53)) [
  | inl y ↦ let p = and_parts (eqb a 80) (eqb b 53) y in inr (Raw, eqb-true a 80 p.0, eqb-true b 53 p.1)
  | inr n ↦ elim (cases_Bool (eqb a 80 && eqb b 50)) [
    | inl y ↦ let p = and_parts (eqb a 80) (eqb b 50) y in inr (Plain, eqb-true a 80 p.0, eqb-true b 50 p.1)
    | inr m ↦ inl (rw (n, m) refl)
  ]
]

known : (s : Spelling) → spelling_of 80 (digit_of s) ≡ None → ⊥
known Raw e = cc
known Plain e = cc

pub magic_walk : (bytes : List ℕ) → HasNoMagic bytes ⊎ ((s : Spelling) × (rest : List ℕ) × (bytes ≡ 80 ∷ digit_of s ∷ rest))
magic_walk [] = inl (λ s behind e. cc)
magic_walk (a ∷ []) = inl (λ s behind e. absurd (omega (arith, ap length e)))
magic_walk (a ∷ b ∷ rest) = elim (spelling_cases a b) [
  | inl n ↦ inl (λ s behind e.
      let x : a ≡ 80 = ap (λ (l : List ℕ). get_or l 0 0) e in
      let y : b ≡ digit_of s = ap (λ (l : List ℕ). get_or l 1 0) e in
      known s (rw (x, y) at n))
  | inr s ↦ inr (s.0, rest, rw (s.1, s.2) refl)
]

-- ---- samples after the header's white space

-- what of the white space byte after maxval belongs to the samples, and what stands before them
abbrev pub lead_of : Spelling → ℕ → List ℕ
lead_of Raw space = []
lead_of Plain space = space ∷ []

abbrev pub front_of : Spelling → ℕ → List ℕ
front_of Raw space = space ∷ []
front_of Plain space = []

pub front_then : (spelling : Spelling) (space : ℕ) (rest : List ℕ) → front_of spelling space ++ (lead_of spelling space ++ rest) ≡ space ∷ rest
front_then Raw space rest = refl
front_then Plain space rest = refl

pub lead_ends : (spelling : Spelling) (m space : ℕ) (rest : List ℕ) → is_space space ≡ true → EndsSample (form_of spelling m) (lead_of spelling space ++ rest)
lead_ends Raw m space rest s = elim (cases_Bool (ltb 255 m)) [ inl y ↦ rw y tt | inr n ↦ rw n tt ]
lead_ends Plain m space rest s = spaced (space ∷ rest) s

-- samples are read from there
pub samples_from : (spelling : Spelling) (m n : ℕ) (goes : Bool) (at space : ℕ) (rest : List ℕ) → is_space space ≡ true → samples_at (form_of spelling m) m (suc n) 0 goes (at + 1) rest ≡ samples_at (form_of spelling m) m (suc n) 0 goes (at + length (front_of spelling space)) (lead_of spelling space ++ rest)
unfolding samples_at spelled_sample_at scan_at
samples_from Raw m n goes at space rest s = refl
samples_from Plain m n goes at space rest s = let e : at + 0 ≡ at = omega arith in rw (e, s) refl

pub samples_are : (spelling : Spelling) (m space : ℕ) (samples vs : List ℕ) → is_space space ≡ true → Rastered (form_of spelling m) samples vs → AreSamples spelling m (front_of spelling space ++ samples) vs
samples_are Raw m space samples vs s r = (space, samples, refl, s, elim (cases_Bool (ltb 255 m)) [ inl y ↦ rw y (rw y at r) | inr n ↦ rw n (rw n at r) ])
samples_are Plain m space samples vs s r = r

pub has_ended : (spelling : Spelling) (m : ℕ) (rest : List ℕ) → EndsSample (form_of spelling m) rest → HasEnded spelling rest
has_ended Raw m rest e = tt
has_ended Plain m rest e = e

pub is_cut : (spelling : Spelling) (m : ℕ) (part : List ℕ) → CutSample (form_of spelling m) part → IsPartOfSample spelling m part
is_cut Raw m part c = elim (cases_Bool (ltb 255 m)) [ inl y ↦ rw y (rw y at c) | inr n ↦ rw n (rw n at c) ]
is_cut Plain m part c = c

pub cut_is : (spelling : Spelling) (m : ℕ) (part : List ℕ) → IsPartOfSample spelling m part → CutSample (form_of spelling m) part
cut_is Raw m part c = elim (cases_Bool (ltb 255 m)) [ inl y ↦ rw y (rw y at c) | inr n ↦ rw n (rw n at c) ]
cut_is Plain m part c = c

pub ended_is : (spelling : Spelling) (m : ℕ) (rest : List ℕ) → HasEnded spelling rest → EndsSample (form_of spelling m) rest
ended_is Raw m rest e = elim (cases_Bool (ltb 255 m)) [ inl y ↦ rw y tt | inr n ↦ rw n tt ]
ended_is Plain m rest e = e

-- the samples of a text as the reader takes them
pub are_samples : (spelling : Spelling) (m : ℕ) (samples vs more : List ℕ) (space : ℕ) (rest : List ℕ) → AreSamples spelling m samples vs → samples ++ more ≡ space ∷ rest → (bytes : List ℕ) × Rastered (form_of spelling m) bytes vs × (lead_of spelling space ++ rest ≡ bytes ++ more)
are_samples Raw m samples vs more space rest a e = (
  a.1,
  elim (cases_Bool (ltb 255 m)) [ inl y ↦ rw y (rw y at a.4) | inr n ↦ rw n (rw n at a.4) ],
  (let x : a.0 ∷ (a.1 ++ more) ≡ space ∷ rest = ap (λ (t : List ℕ). t ++ more) (sym a.2) ∙ e in let y : a.1 ++ more ≡ rest = cc in sym y),
)
are_samples Plain m samples vs more space rest a e = (samples, a, sym e)

pub digits_alone : (spelling : Spelling) (m : ℕ) → form_of spelling m ≡ Digits → spelling ≡ Plain
digits_alone Raw m e = absurd (elim (cases_Bool (ltb 255 m)) [ inl y ↦ (let x = rw y at e in cc) | inr n ↦ (let x = rw n at e in cc) ])
digits_alone Plain m e = refl
