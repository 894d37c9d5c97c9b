-- What is read of a header is spelled so, and what is spelled so is read.
use Rattle.std.proofs.Common.{◌≡◌, ℕ, ◌+◌, ◌-◌, ◌*◌, ◌≤◌, min, Bool, true, false, ◌⊎◌, List, [], ◌∷◌, ◌++◌, length, Ok, refl, sym, ap, ◌∙◌, arith, inl, inr, eqb, ltb}
use Rattle.pgm_planes.proofs.Words.{scan_at, unless_more, ◌⟫◌, list_all, and_parts, or_cases, not-true, cases_Bool, eqb-true, ltb-true, PlaneFault, Form, is_space, is_line_end, is_digit, begins, is_filling, is_number, goes_on_to, capped_number, is_hash, is_in_comment, Reading, breaks, asks, nothing, byte_at, octet_at, space_at, filling_at, blanks_at, with_digit, digits_at, numeral_at}

abbrev pub done : {A : Type 0} → A → ℕ → List ℕ → Reading A
done x at rest = Ok (x, at, rest)

-- the parts of an answer
pub ok_is : {A : Type 0} (x y : A × ℕ × List ℕ) → (let r : Reading A = Ok x in r) ≡ Ok y → x ≡ y
ok_is x y e = cc

pub same_value : {A : Type 0} (x y : A) (a b : ℕ) (p q : List ℕ) → done x a p ≡ done y b q → x ≡ y
same_value {A = A} x y a b p q e = ap (λ (t : A × ℕ × List ℕ). t.0) (ok_is (x, a, p) (y, b, q) e)

pub same_rest : {A : Type 0} (x y : A) (a b : ℕ) (p q : List ℕ) → done x a p ≡ done y b q → p ≡ q
same_rest {A = A} x y a b p q e = ap (λ (t : A × ℕ × List ℕ). t.2) (ok_is (x, a, p) (y, b, q) e)

pub break_is : {A : Type 0} (e f : PlaneFault) → (let r : Reading A = breaks e in r) ≡ breaks f → e ≡ f
break_is e f x = cc

pub not_both : {A : Type 0} (x : A) (at : ℕ) (rest : List ℕ) (f : PlaneFault) → done x at rest ≡ breaks f → ⊥
not_both x at rest f e = cc

-- a value or a break asks for nothing
pub done_asks : {A : Type 0} (x : A) (at : ℕ) (rest : List ℕ) → done x at rest ≡ asks → ⊥
done_asks x at rest e = cc

pub break_asks : {A : Type 0} (f : PlaneFault) → (let r : Reading A = breaks f in r) ≡ asks → ⊥
break_asks f e = cc

-- where the bytes end and more come, these are asked for
abbrev pub seen : {A : Type 0} → Bool → List ℕ → Reading A → Reading A
seen goes [] r = unless_more goes r
seen goes (b ∷ rest) r = r

pub seen_begun : {A : Type 0} (goes : Bool) (test : ℕ → Bool) (rest : List ℕ) (r : Reading A) → begins test rest ≡ true → seen goes rest r ≡ r
seen_begun goes test [] r h = absurd cc
seen_begun goes test (b ∷ rest) r h = refl

pub seen_then : {A B : Type 0} (goes : Bool) (rest : List ℕ) (r : Reading A) (f : A → ℕ → List ℕ → Reading B) → (seen goes rest r ⟫ f) ≡ seen goes rest (r ⟫ f)
seen_then true [] r f = refl
seen_then false [] r f = refl
seen_then goes (b ∷ rest) r f = refl

-- what follows is seen to its end, which is that of all
pub seen_behind : {A B : Type 0} (goes : Bool) (part rest : List ℕ) (r : Reading A) (f : A → ℕ → List ℕ → Reading B) (q : Reading B) → (r ⟫ f) ≡ seen goes rest q → (seen goes (part ++ rest) r ⟫ f) ≡ seen goes rest q
seen_behind true [] [] r f q e = refl
seen_behind false [] [] r f q e = e
seen_behind goes [] (b ∷ rest) r f q e = e
seen_behind goes (b ∷ part) rest r f q e = e

-- the bytes in front that pass a test, and what follows them
pub record Passing (test : ℕ → Bool) (bytes : List ℕ) : Type 0 where
  pub front : List ℕ
  pub rest : List ℕ
  pub parts : bytes ≡ front ++ rest
  pub all : list_all test front ≡ true
  pub stops : begins test rest ≡ false

pub passing : (test : ℕ → Bool) (bytes : List ℕ) → Passing test bytes
passing test [] = record { front = []; rest = []; parts = refl; all = refl; stops = refl }
passing test (b ∷ bytes) = elim (cases_Bool (test b)) [
  | inl y ↦ let p = passing test bytes in record { front = b ∷ p.front; rest = p.rest; parts = ap (λ (t : List ℕ). b ∷ t) p.parts; all = rw (y, p.all) refl; stops = p.stops }
  | inr n ↦ record { front = []; rest = b ∷ bytes; parts = refl; all = refl; stops = n }
]

-- ---- white space and comments

-- what stops white space and comments
pub record StopsFilling (rest : List ℕ) : Type 0 where
  pub no_space : begins is_space rest ≡ false
  pub no_hash : begins is_hash rest ≡ false

pub record Filled (inside : Bool) (bytes : List ℕ) : Type 0 where
  pub front : List ℕ
  pub rest : List ℕ
  pub parts : bytes ≡ front ++ rest
  pub filled : is_filling inside front ≡ true
  pub stops : StopsFilling rest

-- a filling, then # and bytes of a comment that does not end
pub record IsOpen (inside : Bool) (bytes : List ℕ) : Type 0 where
  pub gap : List ℕ
  pub comment : List ℕ
  pub parts : bytes ≡ gap ++ 35 ∷ comment
  pub filled : is_filling inside gap ≡ true
  pub within : list_all is_in_comment comment ≡ true

abbrev pub OpenFrom : Bool → List ℕ → Type 0
OpenFrom false bytes = IsOpen false bytes
OpenFrom true bytes = (list_all is_in_comment bytes ≡ true) ⊎ IsOpen true bytes

module _ (from inside : Bool) (b : ℕ) (bytes : List ℕ) (goes : (text : List ℕ) → is_filling inside text ≡ true → is_filling from (b ∷ text) ≡ true) where
  filled_more : Filled inside bytes → Filled from (b ∷ bytes)
  filled_more s = record { front = b ∷ s.front; rest = s.rest; parts = ap (λ (t : List ℕ). b ∷ t) s.parts; filled = goes s.front s.filled; stops = s.stops }

  open_more : IsOpen inside bytes → IsOpen from (b ∷ bytes)
  open_more o = record { gap = b ∷ o.gap; comment = o.comment; parts = ap (λ (t : List ℕ). b ∷ t) o.parts; filled = goes o.gap o.filled; within = o.within }

-- bytes begin with white space and comments, or a comment stays open
pub filling_parts : (inside : Bool) (bytes : List ℕ) → Filled inside bytes ⊎ OpenFrom inside bytes
filling_parts false [] = inl (record { front = []; rest = []; parts = refl; filled = refl; stops = record { no_space = refl; no_hash = refl } })
filling_parts true [] = inr (inl refl)
filling_parts false (b ∷ bytes) = elim (cases_Bool (is_space b)) [
  | inl y ↦ elim (filling_parts false bytes) [
    | inl s ↦ inl (filled_more false false b bytes (λ t f. rw (y, f) refl) s)
    | inr o ↦ inr (open_more false false b bytes (λ t f. rw (y, f) refl) o)
  ]
  | inr n ↦ elim (cases_Bool (eqb b 35)) [
    | inr m ↦ inl (record { front = []; rest = b ∷ bytes; parts = refl; filled = refl; stops = record { no_space = n; no_hash = m } })
    | inl y ↦ elim (filling_parts true bytes) [
      | inl s ↦ inl (filled_more false true b bytes (λ t f. rw (n, y, f) refl) s)
      | inr o ↦ inr (elim o [
        | inl all ↦ record { gap = []; comment = bytes; parts = ap (λ (x : ℕ). x ∷ bytes) (eqb-true b 35 y); filled = refl; within = all }
        | inr p ↦ open_more false true b bytes (λ t f. rw (n, y, f) refl) p
      ])
    ]
  ]
]
filling_parts true (b ∷ bytes) = elim (cases_Bool (is_line_end b)) [
  | inl y ↦ elim (filling_parts false bytes) [
    | inl s ↦ inl (filled_more true false b bytes (λ t f. rw (y, f) refl) s)
    | inr o ↦ inr (inr (open_more true false b bytes (λ t f. rw (y, f) refl) o))
  ]
  | inr n ↦ elim (filling_parts true bytes) [
    | inl s ↦ inl (filled_more true true b bytes (λ t f. rw (n, f) refl) s)
    | inr o ↦ inr (elim o [ inl all ↦ inl (rw (n, all) refl) | inr p ↦ inr (open_more true true b bytes (λ t f. rw (n, f) refl) p) ])
  ]
]

-- a filling is read over
space_no_hash : (b : ℕ) → is_space b ≡ true → eqb b 35 ≡ false
space_no_hash b s = grind (arith, or_cases, and_parts, eqb-true, ltb-true)

by_space : (b : ℕ) (text : List ℕ) → is_space b ≡ true → is_filling false (b ∷ text) ≡ true → is_filling false text ≡ true
by_space b text s f = grind (arith, or_cases, and_parts, space_no_hash)

by_hash : (b : ℕ) (text : List ℕ) → is_space b ≡ false → is_filling false (b ∷ text) ≡ true → (eqb b 35 ≡ true) × (is_filling true text ≡ true)
by_hash b text s f = and_parts (eqb b 35) (is_filling true text) (rw s at f)

pub filling_over : (goes inside : Bool) (at : ℕ) (text more : List ℕ) → is_filling inside text ≡ true → filling_at inside goes at (text ++ more) ≡ filling_at false goes (at + length text) more
unfolding scan_at
filling_over goes false at [] more f = ap (λ (n : ℕ). filling_at false goes n more) (omega arith)
filling_over goes true at [] more f = absurd cc
filling_over goes false at (b ∷ text) more f =
    let place : (at + 1) + length text ≡ at + length (b ∷ text) = omega arith in
    elim (cases_Bool (is_space b)) [
      | inl y ↦ rw y (rw (← place) (filling_over goes false (at + 1) text more (by_space b text y f)))
      | inr n ↦ rw (n, (by_hash b text n f).0) (rw (← place) (filling_over goes true (at + 1) text more (by_hash b text n f).1))
    ]
filling_over goes true at (b ∷ text) more f =
    let place : (at + 1) + length text ≡ at + length (b ∷ text) = omega arith in
    elim (cases_Bool (is_line_end b)) [
      | inl y ↦ rw y (rw (← place) (filling_over goes false (at + 1) text more (rw y at f)))
      | inr n ↦ rw n (rw (← place) (filling_over goes true (at + 1) text more (rw n at f)))
    ]

-- what begins neither with white space nor with # ends the filling
pub filling_stops : (goes : Bool) (at : ℕ) (more : List ℕ) → StopsFilling more → filling_at false goes at more ≡ seen goes more (done nothing at more)
unfolding scan_at
filling_stops goes at [] s = refl
filling_stops goes at (d ∷ more) s = rw (s.no_space, s.no_hash) refl

in_comment : (b : ℕ) (bs : List ℕ) → list_all is_in_comment (b ∷ bs) ≡ true → (is_line_end b ≡ false) × (list_all is_in_comment bs ≡ true)
in_comment b bs h = let p = and_parts (is_in_comment b) (list_all is_in_comment bs) h in (not-true (is_line_end b) p.0, p.1)

pub comment_again : (goes : Bool) (at : ℕ) (comment : List ℕ) → list_all is_in_comment comment ≡ true → filling_at true goes at comment ≡ unless_more goes (breaks (Form (at + length comment)))
unfolding scan_at
comment_again goes at [] h = ap (λ (n : ℕ). unless_more goes (breaks (Form n))) (omega arith)
comment_again goes at (b ∷ bs) h =
    let p = in_comment b bs h in
    let place : (at + 1) + length bs ≡ at + length (b ∷ bs) = omega arith in
    rw p.0 (rw (← place) (comment_again goes (at + 1) bs p.1))

-- ---- white space

pub blanks_again : (goes : Bool) (at : ℕ) (text more : List ℕ) → list_all is_space text ≡ true → begins is_space more ≡ false → blanks_at goes at (text ++ more) ≡ seen goes more (done nothing (at + length text) more)
unfolding scan_at
blanks_again goes at [] [] h s = ap (λ (n : ℕ). unless_more goes (done nothing n [])) (omega arith)
blanks_again goes at [] (d ∷ more) h s = rw s (ap (λ (n : ℕ). done nothing n (d ∷ more)) (omega arith))
blanks_again goes at (b ∷ text) more h s =
    let p = and_parts (is_space b) (list_all is_space text) h in
    let place : (at + 1) + length text ≡ at + length (b ∷ text) = omega arith in
    rw p.0 (rw (← place) (blanks_again goes (at + 1) text more p.1 s))

-- ---- numbers

abbrev pub capped : ℕ → ℕ
capped n = min n 4294967295

-- stopping at the cap on the way changes nothing
capped_on_the_way : (n : ℕ) (bs : List ℕ) → capped (goes_on_to (capped n) bs) ≡ capped (goes_on_to n bs)
capped_on_the_way n [] = omega arith
capped_on_the_way n (b ∷ bs) =
    let one = capped_on_the_way (10 * capped n + (b - 48)) bs in
    let two = capped_on_the_way (10 * n + (b - 48)) bs in
    let same : capped (10 * capped n + (b - 48)) ≡ capped (10 * n + (b - 48)) = omega arith in
    sym one ∙ ap (λ (k : ℕ). capped (goes_on_to k bs)) same ∙ two

digits_stop : (goes : Bool) (n at : ℕ) (more : List ℕ) → begins is_digit more ≡ false → digits_at n goes at more ≡ seen goes more (done n at more)
unfolding scan_at
digits_stop goes n at [] s = refl
digits_stop goes n at (d ∷ more) s = rw s refl

pub digits_again : (goes : Bool) (n at : ℕ) (text more : List ℕ) → n ≤ 4294967295 → list_all is_digit text ≡ true → begins is_digit more ≡ false → digits_at n goes at (text ++ more) ≡ seen goes more (done (capped (goes_on_to n text)) (at + length text) more)
unfolding scan_at
digits_again goes n at [] more le f s = digits_stop goes n at more s ∙ (let e : at ≡ at + 0 = omega arith in let c : n ≡ capped n = omega arith in ap (λ (k : ℕ). seen goes more (done n k more)) e ∙ ap (λ (k : ℕ). seen goes more (done k (at + 0) more)) c)
digits_again goes n at (b ∷ text) more le f s =
    let place : (at + 1) + length text ≡ at + length (b ∷ text) = omega arith in
    let parts = and_parts (is_digit b) (list_all is_digit text) f in
    rw parts.0 (digits_again goes (with_digit n b) (at + 1) text more (omega arith) parts.1 s ∙ rw (place, capped_on_the_way (10 * n + (b - 48)) text) refl)

pub digit_small : (b : ℕ) → is_digit b ≡ true → b - 48 ≤ 4294967295
digit_small b d = let p = and_parts (ltb 47 b) (ltb b 58) d in omega (arith, ltb-true b 58 p.1)

pub number_again : (goes : Bool) (cut : PlaneFault) (at : ℕ) (text more : List ℕ) → is_number text ≡ true → begins is_digit more ≡ false → numeral_at cut goes at (text ++ more) ≡ seen goes more (done (capped_number text) (at + length text) more)
unfolding numeral_at octet_at byte_at
number_again goes cut at [] more f s = absurd cc
number_again goes cut at (b ∷ text) more f s =
    let place : (at + 1) + length text ≡ at + length (b ∷ text) = omega arith in
    let parts = and_parts (is_digit b) (list_all is_digit text) f in
    let small : b - 48 ≤ 4294967295 = digit_small b parts.0 in
    let start : 10 * 0 + (b - 48) ≡ b - 48 = omega arith in
    rw parts.0 (digits_again goes (b - 48) (at + 1) text more small parts.1 s ∙ rw (place, start) refl)

-- where the bytes end there is no byte and no number
pub octet_cut : {B : Type 0} (goes : Bool) (cut : PlaneFault) (at : ℕ) (f : ℕ → ℕ → List ℕ → Reading B) → (octet_at cut goes at [] ⟫ f) ≡ unless_more goes (breaks cut)
unfolding octet_at byte_at
octet_cut true cut at f = refl
octet_cut false cut at f = refl

pub number_cut : (goes : Bool) (cut : PlaneFault) (at : ℕ) → numeral_at cut goes at [] ≡ unless_more goes (breaks cut)
unfolding numeral_at
number_cut goes cut at = octet_cut goes cut at _

pub no_number : (goes : Bool) (at : ℕ) (rest : List ℕ) → begins is_digit rest ≡ false → numeral_at (Form at) goes at rest ≡ seen goes rest (breaks (Form at))
unfolding numeral_at octet_at byte_at
no_number goes at [] h = number_cut goes (Form at) at
no_number goes at (b ∷ rest) h = rw h refl

-- what one byte is read as
pub space_taken : (more : Bool) (at b : ℕ) (rest : List ℕ) → is_space b ≡ true → space_at more at (b ∷ rest) ≡ done nothing (at + 1) rest
unfolding space_at octet_at byte_at
space_taken more at b rest s = rw s refl
