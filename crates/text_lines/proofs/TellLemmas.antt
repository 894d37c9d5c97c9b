-- Whether bytes are the text of a number, or of numbers: one or the other can be told.
use Rattle.std.proofs.Common.{◌≡◌, ℕ, zero, suc, ◌^◌, ◌<◌, ◌≤◌, List, [], ◌∷◌, ◌++◌, length, ℤ, pos, negsuc, inl, inr, ◌⊎◌, refl, sym, ap, ◌∙◌, arith}
use Rattle.std.specs.Fmt.{signed_decimal}
use Rattle.std.proofs.lemmas.Bool.{cases_eq}
use Rattle.std.proofs.lemmas.List.{length-append}
use Rattle.std.proofs.lemmas.List.Elements.{All-cons, All-nil}
use Rattle.sums_and_lists.proofs.Orders.{below_or_last}
use Rattle.text_lines.specs.Numbers.{AreLongs, BeginsField, FitsLong, numbers_text}
use Rattle.text_lines.proofs.FormLemmas.{Without, bytes_of, cons_head, cons_same, cons_tail, not_nil}
use Rattle.text_lines.proofs.NumberLemmas.{first_of_numbers, numbers_cons, numbers_field}

-- a statement or its opposite
abbrev pub Told : Type 0 → Type 0
Told P = P ⊎ (P → ⊥)

pub bytes_told : (a b : List ℕ) → Told (a ≡ b)
bytes_told [] [] = inl refl
bytes_told [] (b ∷ ys) = inr (not_nil b ys)
bytes_told (a ∷ xs) [] = inr (λ e. not_nil a xs (sym e))
bytes_told (a ∷ xs) (b ∷ ys) = elim (cases_eq a b) [
  | inr n ↦ inr (λ e. n (cons_head a b xs ys e))
  | inl h ↦ elim (bytes_told xs ys) [ inl t ↦ inl (cons_same a b xs ys h t) | inr n ↦ inr (λ e. n (cons_tail a b xs ys e)) ]
]

-- some number below k, or none
pub told_below : (P : ℕ → Type 0) → ((n : ℕ) → Told (P n)) → (k : ℕ) → Told ((n : ℕ) × ((n < k) × P n))
told_below P d zero = inr (λ f. let lt = f.1.0 in omega (arith, lt))
told_below P d (suc k) = elim (d k) [
  | inl p ↦ inl (k, (omega arith, p))
  | inr n ↦ elim (told_below P d k) [
    | inl f ↦ inl (f.0, (let lt = f.1.0 in omega (arith, lt), f.1.1))
    | inr none ↦ inr (λ f. last f.0 f.1.0 f.1.1 n none)
  ]
]
  where
    last : (m : ℕ) → m < suc k → P m → (P k → ⊥) → (((n : ℕ) × ((n < k) × P n)) → ⊥) → ⊥
    last m lt p n none = elim (below_or_last m k (omega (arith, lt))) [ inl below ↦ none (m, (below, p)) | inr same ↦ n (rw same at p) ]

-- the bytes are the text of a number of 64 bits
abbrev pub IsNumberText : List ℕ → Type 0
IsNumberText token = (n : ℤ) × (FitsLong n × (token ≡ signed_decimal n))

module _ (k : ℕ) (e : k ≡ 2 ^ 63) (token : List ℕ) where
  number_told_by : Told ((n : ℕ) × ((n < k) × (token ≡ signed_decimal (pos n)))) → Told ((n : ℕ) × ((n < k) × (token ≡ signed_decimal (negsuc n)))) → Told (IsNumberText token)
  number_told_by (inl p) other = inl (pos p.0, (record { sfits = (let lt = p.1.0 in omega (arith, lt, e)) }, p.1.1))
  number_told_by (inr bad) (inl p) = inl (negsuc p.0, (record { sfits = (let lt = p.1.0 in omega (arith, lt, e)) }, p.1.1))
  number_told_by (inr bad) (inr nor) = inr (λ f. none f.0 f.1.0 f.1.1)
    where
      none : (n : ℤ) → FitsLong n → token ≡ signed_decimal n → ⊥
      none (pos n) long t = bad (n, (let s = long.sfits in omega (arith, s, e), t))
      none (negsuc n) long t = nor (n, (let s = long.sfits in omega (arith, s, e), t))

  pub number_told_at : Told (IsNumberText token)
  number_told_at = number_told_by (told_below (λ n. token ≡ signed_decimal (pos n)) (λ n. bytes_told token (signed_decimal (pos n))) k) (told_below (λ n. token ≡ signed_decimal (negsuc n)) (λ n. bytes_told token (signed_decimal (negsuc n))) k)

unfoldable most_long : ℕ
most_long = 2 ^ 63

most_is : most_long ≡ 2 ^ 63
unfolding most_long
most_is = refl

pub number_told : (token : List ℕ) → Told (IsNumberText token)
number_told = number_told_at most_long most_is

-- the bytes up to the first space, and the rest
pub token_in_front : (bytes : List ℕ) → (token : List ℕ) × (rest : List ℕ) × (Without 32 token × (BeginsField rest × (bytes ≡ token ++ rest)))
token_in_front [] = ([], [], (tt, (inl refl, refl)))
token_in_front (b ∷ bytes) = elim (cases_eq b 32) [
  | inl e ↦ ([], b ∷ bytes, (tt, (inr (bytes, ap (λ (c : ℕ). c ∷ bytes) e), refl)))
  | inr n ↦ (let t = token_in_front bytes in (b ∷ t.0, t.1, ((n, t.2.0), (t.2.1.0, ap (λ (l : List ℕ). b ∷ l) t.2.1.1))))
]

abbrev pub AreNumbersText : List ℕ → Type 0
AreNumbersText bytes = (row : List ℤ) × (AreLongs row × (bytes ≡ numbers_text row))

-- numbers, each after a space
numbers_by : (f : ℕ) (bytes : List ℕ) → length bytes ≤ f → Told (AreNumbersText bytes)
numbers_by f [] le = inl ([], (All-nil FitsLong, refl))
numbers_by zero (b ∷ bytes) le = absurd (omega (arith, le))
numbers_by (suc f) (b ∷ bytes) le = elim (cases_eq b 32) [
  | inr n ↦ inr (λ r. elim (numbers_field r.0) [ inl e ↦ not_nil b bytes (sym (r.1.1 ∙ e)) | inr e ↦ n (cons_head b 32 bytes e.0 (r.1.1 ∙ e.1)) ])
  | inl e ↦ (let t = token_in_front bytes in let size = ap length t.2.1.1 in numbers_in t.0 t.1 t.2.0 t.2.1.0 (cons_same b 32 bytes (t.0 ++ t.1) e t.2.1.1) (number_told t.0) (numbers_by f t.1 (omega (arith, le, size, length-append t.0 t.1))))
]
  where
    numbers_in : (token rest : List ℕ) → Without 32 token → BeginsField rest → bytes_of (b ∷ bytes) ≡ 32 ∷ (token ++ rest) → Told (IsNumberText token) → Told (AreNumbersText rest) → Told (AreNumbersText (b ∷ bytes))
    numbers_in token rest t g parts (inl n) (inl r) = inl (n.0 ∷ r.0, (All-cons FitsLong n.0 r.0 n.1.0 r.1.0, parts ∙ ap (λ (l : List ℕ). 32 ∷ (l ++ rest)) n.1.1 ∙ ap (λ (l : List ℕ). 32 ∷ (signed_decimal n.0 ++ l)) r.1.1 ∙ sym (numbers_cons n.0 r.0)))
    numbers_in token rest t g parts (inr bad) r = inr (λ a. let w = first_of_numbers (b ∷ bytes) token rest parts t g a.0 a.1.0 a.1.1 in bad (w.first, (w.long, w.spelled)))
    numbers_in token rest t g parts (inl n) (inr bad) = inr (λ a. let w = first_of_numbers (b ∷ bytes) token rest parts t g a.0 a.1.0 a.1.1 in bad (w.others, (w.longs, w.rest)))

pub numbers_told : (bytes : List ℕ) → Told (AreNumbersText bytes)
numbers_told bytes = numbers_by (length bytes) bytes (omega arith)
