-- Samples one after the other: how bytes part into them, and what is read of the parts.
use Rattle.std.proofs.Common.{◌≡◌, ℕ, zero, suc, ◌+◌, ◌*◌, ◌≤◌, ◌<◌, Bool, true, false, ◌⊎◌, List, [], ◌∷◌, ◌++◌, length, refl, sym, ap, subst, ◌∙◌, append_assoc, arith, inl, inr, ltb}
use Rattle.pgm_planes.proofs.Words.{scan_at, unless_more, capped_number, ⊤, list_all, AllByRecursion, and_parts, cases_Bool, both_ways, ltb-true, ltb-false, le-ltb, lt-ltb, length-append, PlaneFault, Form, SampleAbove, Short, SampleForm, Narrow, Wide, Digits, is_space, is_digit, is_blank, begins, is_number, AreNumbers, IsRaster, Reading, ◌⟫◌, ◌▸◌, breaks, nothing, byte_at, octet_at, blanks_at, numeral_at, judged_at, spelled_sample_at, samples_at}
use Rattle.std.proofs.lemmas.List.{append-nil}
use Rattle.pgm_planes.proofs.HeaderLemmas.{done, seen, seen_begun, seen_then, seen_behind, passing, blanks_again, number_again, octet_cut, number_cut}
use Rattle.pgm_planes.proofs.FieldLemmas.{spaced, blank_spaced, number_stops}
use Rattle.pgm_planes.proofs.NumberLemmas.{numbers_begin}
use Rattle.pgm_planes.proofs.StepLemmas.{and_others, others_begin, others_end, others_are}

-- samples of one form, one after the other
abbrev pub Rastered : SampleForm → List ℕ → List ℕ → Type 0
Rastered Narrow bytes vs = IsRaster false bytes vs
Rastered Wide bytes vs = IsRaster true bytes vs
Rastered Digits bytes vs = AreNumbers is_blank bytes vs

-- what may follow a sample, and what may stand before one
abbrev pub EndsSample : SampleForm → List ℕ → Type 0
EndsSample Narrow rest = ⊤
EndsSample Wide rest = ⊤
EndsSample Digits rest = begins is_digit rest ≡ false

-- less than a sample
abbrev pub CutSample : SampleForm → List ℕ → Type 0
CutSample Narrow part = length part < 1
CutSample Wide part = length part < 2
CutSample Digits part = list_all is_space part ≡ true

abbrev pub AllBelow : ℕ → List ℕ → Type 0
AllBelow maxval vs = AllByRecursion (λ v. v ≤ maxval) vs

pub all_append : (p : ℕ → Bool) (xs ys : List ℕ) → list_all p xs ≡ true → list_all p ys ≡ true → list_all p (xs ++ ys) ≡ true
all_append p [] ys a b = b
all_append p (x ∷ xs) ys a b = let q = and_parts (p x) (list_all p xs) a in rw (q.0, all_append p xs ys q.1 b) refl

-- ---- samples before and behind others

rastered_none : (form : SampleForm) → Rastered form [] []
rastered_none Narrow = refl
rastered_none Wide = refl
rastered_none Digits = refl

none_rastered : (form : SampleForm) (samples : List ℕ) → Rastered form samples [] → samples ≡ []
none_rastered Narrow samples r = r
none_rastered Wide samples r = r
none_rastered Digits samples r = r

rastered_cons : (form : SampleForm) (text : List ℕ) (v : ℕ) (samples vs : List ℕ) → Rastered form text (v ∷ []) → Rastered form samples vs → Rastered form (text ++ samples) (v ∷ vs)
rastered_cons Narrow [] v samples vs r s = absurd r
rastered_cons Narrow (b ∷ text) v samples vs r s = (r.0, rw r.1 s)
rastered_cons Wide [] v samples vs r s = absurd r
rastered_cons Wide (b ∷ []) v samples vs r s = absurd r
rastered_cons Wide (b ∷ c ∷ text) v samples vs r s = (r.0, rw r.1 s)
rastered_cons Digits text v samples vs r s = (
  r.0,
  r.1,
  samples,
  ap (λ (t : List ℕ). t ++ samples) r.3 ∙ append_assoc r.0 (r.1 ++ r.2) samples ∙ ap (λ (t : List ℕ). r.0 ++ t) (append_assoc r.1 r.2 samples ∙ ap (λ (t : List ℕ). r.1 ++ (t ++ samples)) r.7),
  r.4,
  r.5,
  r.6,
  s,
)

-- the first sample and those after it
first_sample : (form : SampleForm) (bytes : List ℕ) (v : ℕ) (vs : List ℕ) → Rastered form bytes (v ∷ vs) → (text : List ℕ) × (others : List ℕ) × (bytes ≡ text ++ others) × Rastered form text (v ∷ []) × Rastered form others vs
first_sample Narrow [] v vs r = absurd r
first_sample Narrow (b ∷ bytes) v vs r = (b ∷ [], bytes, refl, (r.0, refl), r.1)
first_sample Wide [] v vs r = absurd r
first_sample Wide (b ∷ []) v vs r = absurd r
first_sample Wide (b ∷ c ∷ bytes) v vs r = (b ∷ c ∷ [], bytes, refl, (r.0, refl), r.1)
first_sample Digits bytes v vs r = (r.0 ++ r.1, r.2, r.3 ∙ sym (append_assoc r.0 r.1 r.2), (r.0, r.1, [], ap (λ (t : List ℕ). r.0 ++ t) (sym (append-nil r.1)), r.4, r.5, r.6, refl), r.7)

-- samples and those after them
parted : (form : SampleForm) (bytes vs ws : List ℕ) → Rastered form bytes (vs ++ ws) → (front : List ℕ) × (last : List ℕ) × (bytes ≡ front ++ last) × Rastered form front vs × Rastered form last ws
parted form bytes [] ws r = ([], bytes, refl, rastered_none form, r)
parted form bytes (v ∷ vs) ws r =
    let f = first_sample form bytes v (vs ++ ws) r in
    let l = parted form f.1 vs ws f.4 in
    (f.0 ++ l.0, l.1, f.2 ∙ ap (λ (t : List ℕ). f.0 ++ t) l.2 ∙ sym (append_assoc f.0 l.0 l.1), rastered_cons form f.0 v l.0 vs f.3 l.3, l.4)

pub rastered_append : (form : SampleForm) (a vs b ws : List ℕ) → Rastered form a vs → Rastered form b ws → Rastered form (a ++ b) (vs ++ ws)
rastered_append form a [] b ws r s = rw (none_rastered form a r) s
rastered_append form a (v ∷ vs) b ws r s =
    let f = first_sample form a v vs r in
    let whole : f.0 ++ (f.1 ++ b) ≡ a ++ b = sym (append_assoc f.0 f.1 b) ∙ ap (λ (t : List ℕ). t ++ b) (sym f.2) in
    subst (λ (t : List ℕ). Rastered form t (v ∷ (vs ++ ws))) whole (rastered_cons form f.0 v (f.1 ++ b) (vs ++ ws) f.3 (rastered_append form f.1 vs b ws f.4 s))

samples_end : (form : SampleForm) (samples vs rest : List ℕ) → Rastered form samples vs → EndsSample form rest → EndsSample form (samples ++ rest)
samples_end Narrow samples vs rest r e = tt
samples_end Wide samples vs rest r e = tt
samples_end Digits samples vs rest r e = numbers_begin is_blank blank_spaced samples vs rest r e

-- ---- how bytes part into samples

pub record NextSample (form : SampleForm) (bytes : List ℕ) : Type 0 where
  pub text : List ℕ
  pub value : ℕ
  pub rest : List ℕ
  pub parts : bytes ≡ text ++ rest
  pub is : Rastered form text (value ∷ [])
  pub ends : EndsSample form rest

-- a byte that begins no number, after white space
pub record BadByte (bytes : List ℕ) : Type 0 where
  pub blank : List ℕ
  pub byte : ℕ
  pub behind : List ℕ
  pub parts : bytes ≡ blank ++ byte ∷ behind
  pub blanks : list_all is_space blank ≡ true
  pub no_space : is_space byte ≡ false
  pub no_digit : is_digit byte ≡ false

-- no sample begins
abbrev pub NoSample : SampleForm → List ℕ → Type 0
NoSample form bytes = CutSample form bytes ⊎ ((form ≡ Digits) × BadByte bytes)

digits_behind : (bytes blank tail number rest : List ℕ) → begins is_digit bytes ≡ false → bytes ≡ blank ++ tail → list_all is_space blank ≡ true → begins is_space tail ≡ false → tail ≡ number ++ rest → list_all is_digit number ≡ true → begins is_digit rest ≡ false → NoSample Digits bytes ⊎ NextSample Digits bytes
digits_behind bytes blank tail [] [] n p a s q d e = inl (inl (ap (list_all is_space) (p ∙ ap (λ (t : List ℕ). blank ++ t) q ∙ append-nil blank) ∙ a))
digits_behind bytes blank tail [] (b ∷ behind) n p a s q d e =
    inl (inr (refl, record { blank = blank; byte = b; behind = behind; parts = p ∙ ap (λ (t : List ℕ). blank ++ t) q; blanks = a; no_space = ap (begins is_space) (sym q) ∙ s; no_digit = e }))
digits_behind bytes [] tail (x ∷ number) rest n p a s q d e = absurd (both_ways (begins is_digit bytes) n (ap (begins is_digit) (p ∙ q) ∙ (and_parts (is_digit x) (list_all is_digit number) d).0))
digits_behind bytes (y ∷ blank) tail (x ∷ number) rest n p a s q d e = inr (record {
  text = (y ∷ blank) ++ (x ∷ number);
  value = capped_number (x ∷ number);
  rest = rest;
  parts = p ∙ ap (λ (t : List ℕ). (y ∷ blank) ++ t) q ∙ sym (append_assoc (y ∷ blank) (x ∷ number) rest);
  is = (y ∷ blank, x ∷ number, [], ap (λ (t : List ℕ). (y ∷ blank) ++ t) (sym (append-nil (x ∷ number))), a, d, refl, refl);
  ends = e;
})

next_sample : (form : SampleForm) (bytes : List ℕ) → EndsSample form bytes → NoSample form bytes ⊎ NextSample form bytes
next_sample Narrow [] n = inl (inl (omega arith))
next_sample Narrow (b ∷ rest) n = inr (record { text = b ∷ []; value = b; rest = rest; parts = refl; is = (refl, refl); ends = tt })
next_sample Wide [] n = inl (inl (omega arith))
next_sample Wide (b ∷ []) n = inl (inl (omega arith))
next_sample Wide (b ∷ c ∷ rest) n = inr (record { text = b ∷ c ∷ []; value = 256 * b + c; rest = rest; parts = refl; is = (refl, refl); ends = tt })
next_sample Digits bytes n =
    let p = passing is_space bytes in
    let d = passing is_digit p.rest in
    digits_behind bytes p.front p.rest d.front d.rest n p.parts p.all p.stops d.parts d.all d.stops

-- what stands behind good samples, of which so many are missing
abbrev pub Behind : SampleForm → ℕ → ℕ → List ℕ → Type 0
Behind form maxval missing rest = ((missing ≡ 0) × EndsSample form rest) ⊎ ((1 ≤ missing) × (NoSample form rest ⊎ ((s : NextSample form rest) × (maxval < s.value))))

pub record Samples (form : SampleForm) (maxval n : ℕ) (bytes : List ℕ) : Type 0 where
  pub samples : List ℕ
  pub values : List ℕ
  pub rest : List ℕ
  pub missing : ℕ
  pub parts : bytes ≡ samples ++ rest
  pub are : Rastered form samples values
  pub below : AllBelow maxval values
  pub count : length values + missing ≡ n
  pub behind : Behind form maxval missing rest

no_samples : (form : SampleForm) (maxval n : ℕ) (bytes : List ℕ) → Behind form maxval n bytes → Samples form maxval n bytes
no_samples form maxval n bytes b = record { samples = []; values = []; rest = bytes; missing = n; parts = refl; are = rastered_none form; below = tt; count = omega arith; behind = b }

pub samples_parts : (form : SampleForm) (maxval n : ℕ) (bytes : List ℕ) → EndsSample form bytes → Samples form maxval n bytes
samples_parts form maxval zero bytes e = no_samples form maxval 0 bytes (inl (refl, e))
samples_parts form maxval (suc n) bytes e = elim (next_sample form bytes e) [
  | inl k ↦ no_samples form maxval (suc n) bytes (inr (omega arith, inl k))
  | inr s ↦ elim (cases_Bool (ltb maxval s.value)) [
    | inl y ↦ no_samples form maxval (suc n) bytes (inr (omega arith, inr (s, ltb-true maxval s.value y)))
    | inr m ↦
        let p = samples_parts form maxval n s.rest s.ends in
        record {
          samples = s.text ++ p.samples;
          values = s.value ∷ p.values;
          rest = p.rest;
          missing = p.missing;
          parts = s.parts ∙ ap (λ (t : List ℕ). s.text ++ t) p.parts ∙ sym (append_assoc s.text p.samples p.rest);
          are = rastered_cons form s.text s.value p.samples p.values s.is p.are;
          below = (ltb-false maxval s.value m, p.below);
          count = omega (arith, p.count);
          behind = p.behind;
        }
  ]
]

-- ---- what is read of one sample

-- a sample of digits is seen to the byte after it
abbrev pub heard : {A : Type 0} → SampleForm → Bool → List ℕ → Reading A → Reading A
heard Narrow goes rest r = r
heard Wide goes rest r = r
heard Digits goes rest r = seen goes rest r

pub heard_or : {A : Type 0} (form : SampleForm) (goes : Bool) (rest : List ℕ) (r : Reading A) → (heard form goes rest r ≡ r) ⊎ ((goes ≡ true) × (form ≡ Digits) × (rest ≡ []))
heard_or Narrow goes rest r = inl refl
heard_or Wide goes rest r = inl refl
heard_or Digits true [] r = inr (refl, refl, refl)
heard_or Digits false [] r = inl refl
heard_or Digits goes (b ∷ rest) r = inl refl

pub heard_then : {A B : Type 0} (form : SampleForm) (goes : Bool) (rest : List ℕ) (r : Reading A) (f : A → ℕ → List ℕ → Reading B) → (heard form goes rest r ⟫ f) ≡ heard form goes rest (r ⟫ f)
heard_then Narrow goes rest r f = refl
heard_then Wide goes rest r f = refl
heard_then Digits goes rest r f = seen_then goes rest r f

of_blank : (xs : List ℕ) → is_blank xs ≡ true → list_all is_space xs ≡ true
of_blank [] a = absurd cc
of_blank (x ∷ xs) a = a

number_begins : (number more : List ℕ) → is_number number ≡ true → begins is_digit (number ++ more) ≡ true
number_begins [] more h = absurd cc
number_begins (c ∷ number) more h = (and_parts (is_digit c) (list_all is_digit number) h).0

module _ (maxval k at : ℕ) (goes : Bool) where
  sample_again : (form : SampleForm) (text : List ℕ) (v : ℕ) (rest : List ℕ) → Rastered form text (v ∷ []) → EndsSample form rest → spelled_sample_at form maxval k goes at (text ++ rest) ≡ heard form goes rest (judged_at maxval k v goes (at + length text) rest)
  unfolding spelled_sample_at octet_at byte_at
  sample_again Narrow [] v rest r e = absurd r
  sample_again Narrow (b ∷ []) v rest r e = ap (λ (x : ℕ). judged_at maxval k x goes (at + 1) rest) (sym r.0)
  sample_again Narrow (b ∷ c ∷ text) v rest r e = absurd (let x = r.1 in cc)
  sample_again Wide [] v rest r e = absurd r
  sample_again Wide (b ∷ []) v rest r e = absurd r
  sample_again Wide (b ∷ c ∷ []) v rest r e = let place : (at + 1) + 1 ≡ at + 2 = omega arith in rw (place, r.0) refl
  sample_again Wide (b ∷ c ∷ d ∷ text) v rest r e = absurd (let x = r.1 in cc)
  sample_again Digits text v rest r e =
      let same : text ≡ r.0 ++ r.1 = r.3 ∙ ap (λ (t : List ℕ). r.0 ++ (r.1 ++ t)) r.7 ∙ ap (λ (t : List ℕ). r.0 ++ t) (append-nil r.1) in
      let whole : text ++ rest ≡ r.0 ++ (r.1 ++ rest) = ap (λ (t : List ℕ). t ++ rest) same ∙ append_assoc r.0 r.1 rest in
      let place : (at + length r.0) + length r.1 ≡ at + length text = omega (arith, ap length same, length-append r.0 r.1) in
      let blanks = blanks_again goes at r.0 (r.1 ++ rest) (of_blank r.0 r.4) (number_stops r.1 rest r.5).no_space ∙ seen_begun goes is_digit (r.1 ++ rest) (done nothing (at + length r.0) (r.1 ++ rest)) (number_begins r.1 rest r.5) in
      ap (spelled_sample_at Digits maxval k goes at) whole
      ∙ rw (blanks, number_again goes (Short k) (at + length r.0) r.1 rest r.5 e, place)
      (seen_then goes rest (done (capped_number r.1) (at + length text) rest) (λ v. judged_at maxval k v goes)
      ∙ ap (λ (x : ℕ). seen goes rest (judged_at maxval k x goes (at + length text) rest)) (sym r.6))

  sample_cut : (form : SampleForm) (bytes : List ℕ) → CutSample form bytes → spelled_sample_at form maxval k goes at bytes ≡ unless_more goes (breaks (Short k))
  unfolding spelled_sample_at numeral_at octet_at byte_at
  sample_cut Narrow [] c = octet_cut goes (Short k) at _
  sample_cut Narrow (b ∷ bytes) c = absurd (omega arith)
  sample_cut Wide [] c = octet_cut goes (Short k) at _
  sample_cut Wide (b ∷ []) c = octet_cut goes (Short k) (at + 1) _
  sample_cut Wide (b ∷ d ∷ bytes) c = absurd (omega arith)
  sample_cut Digits bytes c =
      let one : blanks_at goes at bytes ≡ seen goes [] (done nothing (at + length bytes) []) = ap (blanks_at goes at) (sym (append-nil bytes)) ∙ blanks_again goes at bytes [] c refl in
      rw one (seen_behind goes [] [] (done nothing (at + length bytes) []) (λ _. (numeral_at (Short k) ▸ judged_at maxval k) goes) (breaks (Short k)) (rw (number_cut goes (Short k) (at + length bytes)) (seen_then goes [] (breaks (Short k)) (λ v. judged_at maxval k v goes))))

  -- a byte that begins no number breaks the form
  sample_bad : (blank : List ℕ) (byte : ℕ) (behind : List ℕ) → list_all is_space blank ≡ true → is_space byte ≡ false → is_digit byte ≡ false → spelled_sample_at Digits maxval k goes at (blank ++ byte ∷ behind) ≡ breaks (Form (at + length blank))
  unfolding spelled_sample_at numeral_at octet_at byte_at
  sample_bad blank byte behind a s n = rw (blanks_again goes at blank (byte ∷ behind) a s, n) refl

-- ---- what is read of samples one after the other

-- after samples that were read the last one is seen to its end
abbrev pub heard_after : {A : Type 0} → SampleForm → List ℕ → Bool → List ℕ → Reading A → Reading A
heard_after form [] goes rest r = r
heard_after form (v ∷ vs) goes rest r = heard form goes rest r

-- where another sample follows or is looked for, nothing else is heard
heard_once : {A : Type 0} (form : SampleForm) (others vs : List ℕ) (goes : Bool) (rest : List ℕ) (r : Reading A) → Rastered form others vs → heard form goes (others ++ rest) (heard_after form vs goes rest r) ≡ heard form goes rest r
heard_once form others [] goes rest r a = ap (λ (t : List ℕ). heard form goes (t ++ rest) r) (none_rastered form others a)
heard_once Narrow others (v ∷ vs) goes rest r a = refl
heard_once Wide others (v ∷ vs) goes rest r a = refl
heard_once Digits others (v ∷ vs) goes rest r a = seen_begun goes is_space (others ++ rest) (seen goes rest r) (rw (a.3, append_assoc a.0 (a.1 ++ a.2) rest) (blank_spaced a.0 ((a.1 ++ a.2) ++ rest) a.4))

heard_others : (form : SampleForm) (front vs : List ℕ) (maxval n k : ℕ) (goes : Bool) (at : ℕ) (rest : List ℕ) → heard_after form vs goes rest (and_others front form maxval (suc n) k goes at rest) ≡ and_others front form maxval (suc n) k goes at rest
unfolding and_others samples_at spelled_sample_at scan_at
heard_others form front [] maxval n k goes at rest = refl
heard_others Narrow front (v ∷ vs) maxval n k goes at rest = refl
heard_others Wide front (v ∷ vs) maxval n k goes at rest = refl
heard_others Digits front (v ∷ vs) maxval n k true at [] = refl
heard_others Digits front (v ∷ vs) maxval n k false at [] = refl
heard_others Digits front (v ∷ vs) maxval n k goes at (b ∷ rest) = refl

pub same_others : (form : SampleForm) (maxval : ℕ) (more : Bool) (rest front front_2 : List ℕ) (n n_2 k k_2 at at_2 : ℕ) → front ≡ front_2 → n ≡ n_2 → k ≡ k_2 → at ≡ at_2 → and_others front form maxval n k more at rest ≡ and_others front_2 form maxval n_2 k_2 more at_2 rest
same_others form maxval more rest front front_2 n n_2 k k_2 at at_2 a b c d = cc

-- one less of what is left
fewer : (a n : ℕ) → a < n → (m : ℕ) × (n ≡ a + suc m)
fewer a zero lt = absurd (omega arith)
fewer zero (suc n) lt = (n, omega arith)
fewer (suc a) (suc n) lt = let f = fewer a n (omega arith) in (f.0, omega (arith, f.1))

bad_begins : (blank : List ℕ) (byte : ℕ) (behind : List ℕ) → list_all is_space blank ≡ true → is_digit byte ≡ false → begins is_digit (blank ++ byte ∷ behind) ≡ false
bad_begins [] byte behind a n = n
bad_begins (b ∷ blank) byte behind a n = spaced (b ∷ blank) (and_parts (is_space b) (list_all is_space blank) a).0

cut_ended : (form : SampleForm) (part : List ℕ) → CutSample form part → EndsSample form part
cut_ended Narrow part c = tt
cut_ended Wide part c = tt
cut_ended Digits [] c = refl
cut_ended Digits (b ∷ part) c = spaced (b ∷ part) (and_parts (is_space b) (list_all is_space part) c).0

module _ (form : SampleForm) (maxval : ℕ) (goes : Bool) where
  -- one sample that is read and not above maxval
  one_over : (front : List ℕ) (n m k at v end : ℕ) (bytes rest : List ℕ) → n ≡ suc m → spelled_sample_at form maxval k goes at bytes ≡ heard form goes rest (judged_at maxval k v goes end rest) → v ≤ maxval → and_others front form maxval n k goes at bytes ≡ heard form goes rest (and_others (front ++ v ∷ []) form maxval m (k + 1) goes end rest)
  one_over front n m k at v end bytes rest is e le =
      let good : judged_at maxval k v goes end rest ≡ done v end rest = rw (le-ltb maxval v le) refl in
      rw is (others_are form maxval front m k goes at bytes ∙ rw (e, good) (heard_then form goes rest (done v end rest) (λ v. and_others (front ++ v ∷ []) form maxval m (k + 1) goes)))

  pub samples_over : (samples vs rest : List ℕ) → Rastered form samples vs → AllBelow maxval vs → EndsSample form rest → (front : List ℕ) (n m k at : ℕ) → n ≡ length vs + m → and_others front form maxval n k goes at (samples ++ rest) ≡ heard_after form vs goes rest (and_others (front ++ vs) form maxval m (k + length vs) goes (at + length samples) rest)
  samples_over samples [] rest r below e front n m k at is =
      let none = none_rastered form samples r in
      ap (λ (t : List ℕ). and_others front form maxval n k goes at (t ++ rest)) none ∙ same_others form maxval goes rest front (front ++ []) n m k (k + 0) at (at + length samples) (sym (append-nil front)) (omega arith) (omega arith) (omega (arith, ap length none))
  samples_over samples (v ∷ vs) rest r below e front n m k at is =
      let s = first_sample form samples v vs r in
      let whole : samples ++ rest ≡ s.0 ++ (s.1 ++ rest) = ap (λ (t : List ℕ). t ++ rest) s.2 ∙ append_assoc s.0 s.1 rest in
      let end : ℕ = at + length s.0 in
      let one = sample_again maxval k at goes form s.0 v (s.1 ++ rest) s.3 (samples_end form s.1 vs rest s.4 e) in
      ap (and_others front form maxval n k goes at) whole
      ∙ one_over front n (length vs + m) k at v end (s.0 ++ (s.1 ++ rest)) (s.1 ++ rest) (omega arith) one below.0
      ∙ ap (heard form goes (s.1 ++ rest)) (samples_over s.1 vs rest s.4 below.1 e (front ++ v ∷ []) (length vs + m) m (k + 1) end refl)
      ∙ heard_once form s.1 vs goes rest (and_others ((front ++ v ∷ []) ++ vs) form maxval m ((k + 1) + length vs) goes (end + length s.1) rest) s.4
      ∙ ap (heard form goes rest) (same_others form maxval goes rest ((front ++ v ∷ []) ++ vs) (front ++ v ∷ vs) m m ((k + 1) + length vs) (k + length (v ∷ vs)) (end + length s.1) (at + length samples) (append_assoc front (v ∷ []) vs) refl (omega arith) (omega (arith, ap length s.2, length-append s.0 s.1)))

  -- all samples are read
  pub samples_again : (k at : ℕ) (samples vs rest : List ℕ) → Rastered form samples vs → AllBelow maxval vs → EndsSample form rest → 1 ≤ length vs → samples_at form maxval (length vs) k goes at (samples ++ rest) ≡ heard form goes rest (done vs (at + length samples) rest)
  samples_again k at samples [] rest r below e one = absurd (omega arith)
  samples_again k at samples (v ∷ vs) rest r below e one =
      others_begin form maxval (length (v ∷ vs)) k goes at (samples ++ rest)
      ∙ samples_over samples (v ∷ vs) rest r below e [] (length (v ∷ vs)) 0 k at (omega arith)
      ∙ ap (heard form goes rest) (others_end form maxval (v ∷ vs) (k + length (v ∷ vs)) goes (at + length samples) rest)

  -- the sample after good ones breaks, or is asked for
  samples_stop : (n k at : ℕ) (samples vs rest : List ℕ) → Rastered form samples vs → AllBelow maxval vs → EndsSample form rest → length vs < n → (r : Reading ℕ) (q : Reading (List ℕ)) → spelled_sample_at form maxval (k + length vs) goes (at + length samples) rest ≡ r → ((g : ℕ → ℕ → List ℕ → Reading (List ℕ)) → (r ⟫ g) ≡ q) → samples_at form maxval n k goes at (samples ++ rest) ≡ q
  samples_stop n k at samples vs rest a below e some r q b f =
      let m = fewer (length vs) n some in
      others_begin form maxval n k goes at (samples ++ rest)
      ∙ samples_over samples vs rest a below e [] n (suc m.0) k at m.1
      ∙ heard_others form vs vs maxval m.0 (k + length vs) goes (at + length samples) rest
      ∙ others_are form maxval vs m.0 (k + length vs) goes (at + length samples) rest
      ∙ rw b (f (λ v. and_others (vs ++ v ∷ []) form maxval m.0 ((k + length vs) + 1) goes))

  pub above_again : (n k at : ℕ) (samples vs : List ℕ) (value : ℕ) (rest : List ℕ) → Rastered form samples (vs ++ value ∷ []) → AllBelow maxval vs → EndsSample form rest → length vs < n → maxval < value → samples_at form maxval n k goes at (samples ++ rest) ≡ heard form goes rest (breaks (SampleAbove (k + length vs) value))
  above_again n k at samples vs value rest a below e some lt =
      let l = parted form samples vs (value ∷ []) a in
      let whole : samples ++ rest ≡ l.0 ++ (l.1 ++ rest) = ap (λ (t : List ℕ). t ++ rest) l.2 ∙ append_assoc l.0 l.1 rest in
      let fault : PlaneFault = SampleAbove (k + length vs) value in
      ap (samples_at form maxval n k goes at) whole
      ∙ samples_stop n k at l.0 vs (l.1 ++ rest) l.3 below (samples_end form l.1 (value ∷ []) rest l.4 e) some (heard form goes rest (breaks fault)) (heard form goes rest (breaks fault))
      (sample_again maxval (k + length vs) (at + length l.0) goes form l.1 value rest l.4 e ∙ ap (heard form goes rest) (rw (lt-ltb maxval value lt) refl))
      (heard_then form goes rest (breaks fault))

  pub short_again : (n k at : ℕ) (samples vs part : List ℕ) → Rastered form samples vs → AllBelow maxval vs → CutSample form part → length vs < n → samples_at form maxval n k goes at (samples ++ part) ≡ unless_more goes (breaks (Short (k + length vs)))
  short_again n k at samples vs part a below c some =
      let fault : PlaneFault = Short (k + length vs) in
      samples_stop n k at samples vs part a below (cut_ended form part c) some (unless_more goes (breaks fault)) (unless_more goes (breaks fault)) (sample_cut maxval (k + length vs) (at + length samples) goes form part c) (seen_then goes [] (breaks fault))

-- a byte that begins no number, behind good samples
pub bad_again : (maxval : ℕ) (goes : Bool) (n k at : ℕ) (samples vs blank : List ℕ) (byte : ℕ) (behind : List ℕ) → AreNumbers is_blank samples vs → AllBelow maxval vs → list_all is_space blank ≡ true → is_space byte ≡ false → is_digit byte ≡ false → length vs < n → samples_at Digits maxval n k goes at (samples ++ (blank ++ byte ∷ behind)) ≡ breaks (Form ((at + length samples) + length blank))
bad_again maxval goes n k at samples vs blank byte behind a below b s d some =
    let fault : PlaneFault = Form ((at + length samples) + length blank) in
    samples_stop Digits maxval goes n k at samples vs (blank ++ byte ∷ behind) a below (bad_begins blank byte behind b d) some (breaks fault) (breaks fault) (sample_bad maxval (k + length vs) (at + length samples) goes blank byte behind b s d) (λ g. refl)
