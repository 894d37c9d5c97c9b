-- A gap and a number: what is read is spelled so, what is spelled so is read, and where the form breaks.
use Rattle.std.proofs.Common.{◌≡◌, ℕ, Bool, ◌+◌, ◌≤◌, ◌<◌, true, false, ◌⊎◌, List, [], ◌∷◌, ◌++◌, length, refl, sym, ap, ◌∙◌, arith, inl, inr, eqb}
use Rattle.pgm_planes.proofs.Words.{list_all, and_parts, or_cases, eqb-true, ltb-false, cases_Bool, ltb-true, length-append, Form, is_space, is_digit, is_filling, is_gap, is_blank, begins, is_number, capped_number, is_hash, HasNoGap, HasNoNumber, EndsInComment, breaks, nothing, byte_at, octet_at, space_at, scan_at, filling_at, numeral_at, field_at, Reader, ◌▸◌, here, pure}
use Rattle.std.proofs.lemmas.List.{append-nil}
use Rattle.pgm_planes.proofs.HeaderLemmas.{done, seen, seen_then, seen_behind, Filled, filling_parts, passing, StopsFilling, filling_over, filling_stops, comment_again, number_again, no_number, octet_cut, space_taken}

-- ---- what a gap and a number begin with

space_no_digit : (d : ℕ) → is_space d ≡ true → is_digit d ≡ false
space_no_digit d h = grind (arith, or_cases, and_parts, eqb-true, ltb-true, ltb-false)

digit_no_space : (d : ℕ) → is_digit d ≡ true → is_space d ≡ false
digit_no_space d h = grind (arith, or_cases, and_parts, eqb-true, ltb-true, ltb-false)

digit_no_hash : (d : ℕ) → is_digit d ≡ true → eqb d 35 ≡ false
digit_no_hash d h = grind (arith, and_parts, eqb-true, ltb-true)

pub spaced : (bytes : List ℕ) → begins is_space bytes ≡ true → begins is_digit bytes ≡ false
spaced [] h = refl
spaced (b ∷ bytes) h = space_no_digit b h

pub split_space : (bytes : List ℕ) → begins is_space bytes ≡ true → (space : ℕ) × (rest : List ℕ) × (bytes ≡ space ∷ rest) × (is_space space ≡ true)
split_space [] h = absurd cc
split_space (b ∷ bytes) h = (b, bytes, refl, h)

pub number_stops : (number more : List ℕ) → is_number number ≡ true → StopsFilling (number ++ more)
number_stops [] more h = absurd cc
number_stops (c ∷ number) more h =
    let d = (and_parts (is_digit c) (list_all is_digit number) h).0 in
    record { no_space = digit_no_space c d; no_hash = digit_no_hash c d }

pub gap_spaced : (gap more : List ℕ) → is_gap gap ≡ true → begins is_space (gap ++ more) ≡ true
gap_spaced [] more h = absurd cc
gap_spaced (b ∷ gap) more h = (and_parts (is_space b) (is_filling false gap) h).0

pub blank_spaced : (gap more : List ℕ) → is_blank gap ≡ true → begins is_space (gap ++ more) ≡ true
blank_spaced [] more h = absurd cc
blank_spaced (b ∷ gap) more h = (and_parts (is_space b) (list_all is_space gap) h).0

-- ---- how bytes part into a gap and a number

pub record Field (bytes : List ℕ) : Type 0 where
  pub gap : List ℕ
  pub number : List ℕ
  pub rest : List ℕ
  pub parts : bytes ≡ gap ++ (number ++ rest)
  pub is_a_gap : is_gap gap ≡ true
  pub is_a_number : is_number number ≡ true
  pub no_digit : begins is_digit rest ≡ false

abbrev pub IsStuck : ℕ → List ℕ → List ℕ → Type 0
IsStuck k part rest = HasNoGap k part rest ⊎ (HasNoNumber k part rest ⊎ EndsInComment k part rest)

-- after so many numbers no other begins
pub record NoField (k : ℕ) (bytes : List ℕ) : Type 0 where
  pub part : List ℕ
  pub rest : List ℕ
  pub parts : bytes ≡ part ++ rest
  pub stuck : IsStuck k part rest

pub no_gap : (k : ℕ) (bytes : List ℕ) → k ≤ 3 → begins is_space bytes ≡ false → (1 ≤ k → begins is_digit bytes ≡ false) → NoField k bytes
no_gap k bytes le s d = record { part = []; rest = bytes; parts = refl; stuck = inl (record { header = le; none = refl; no_space = s; no_digit = d }) }

field_behind : (k b : ℕ) (bytes : List ℕ) → k < 3 → is_space b ≡ true → (f : Filled false bytes) (number rest : List ℕ) → f.rest ≡ number ++ rest → list_all is_digit number ≡ true → begins is_digit rest ≡ false → NoField k (b ∷ bytes) ⊎ Field (b ∷ bytes)
field_behind k b bytes lt s f [] rest e a n = inl (record {
  part = b ∷ f.front;
  rest = rest;
  parts = ap (λ (t : List ℕ). b ∷ t) (f.parts ∙ ap (λ (t : List ℕ). f.front ++ t) e);
  stuck = inr (inl (record { header = lt; gap = rw (s, f.filled) refl; no_space = ap (begins is_space) (sym e) ∙ f.stops.no_space; no_comment = ap (begins is_hash) (sym e) ∙ f.stops.no_hash; no_digit = n }));
})
field_behind k b bytes lt s f (d ∷ number) rest e a n = inr (record {
  gap = b ∷ f.front;
  number = d ∷ number;
  rest = rest;
  parts = ap (λ (t : List ℕ). b ∷ t) (f.parts ∙ ap (λ (t : List ℕ). f.front ++ t) e);
  is_a_gap = rw (s, f.filled) refl;
  is_a_number = a;
  no_digit = n;
})

-- a field stands in front, or nothing that begins one
pub field_parts : (k : ℕ) (bytes : List ℕ) → k < 3 → (1 ≤ k → begins is_digit bytes ≡ false) → NoField k bytes ⊎ Field bytes
field_parts k [] lt d = inl (no_gap k [] (omega arith) refl d)
field_parts k (b ∷ bytes) lt d = elim (cases_Bool (is_space b)) [
  | inr n ↦ inl (no_gap k (b ∷ bytes) (omega arith) n d)
  | inl y ↦ elim (filling_parts false bytes) [
    | inl f ↦ let p = passing is_digit f.rest in field_behind k b bytes lt y f p.front p.rest p.parts p.all p.stops
    | inr o ↦ inl (record {
      part = b ∷ bytes;
      rest = [];
      parts = sym (append-nil (b ∷ bytes));
      stuck = inr (inr (record { header = lt; gap = b ∷ o.gap; comment = o.comment; parts = ap (λ (t : List ℕ). b ∷ t) o.parts; is = rw (y, o.filled) refl; inside = o.within; ended = refl }));
    })
  ]
]

-- ---- what is read of them

-- what is read of a number after a gap
after_gap : Reader (ℕ × ℕ)
after_gap = filling_at false ▸ λ _. here ▸ λ place. numeral_at (Form place) ▸ λ n. pure (n, place)

-- a gap is read over
gap_over : (goes : Bool) (at : ℕ) (gap more : List ℕ) → is_gap gap ≡ true → field_at goes at (gap ++ more) ≡ after_gap goes (at + length gap) more
unfolding field_at after_gap
gap_over goes at [] more g = absurd cc
gap_over goes at (b ∷ gap) more g =
    let parts = and_parts (is_space b) (is_filling false gap) g in
    let place : (at + 1) + length gap ≡ at + length (b ∷ gap) = omega arith in
    rw (space_taken goes at b (gap ++ more) parts.0, filling_over goes false (at + 1) gap more parts.1, place) refl

-- a gap and a number are read again, where no digit follows
pub field_again : (goes : Bool) (at : ℕ) (gap number more : List ℕ) → is_gap gap ≡ true → is_number number ≡ true → begins is_digit more ≡ false → field_at goes at (gap ++ (number ++ more)) ≡ seen goes more (done (capped_number number, at + length gap) (at + length (gap ++ number)) more)
unfolding after_gap
field_again goes at gap [] more g n s = absurd cc
field_again goes at gap (d ∷ number) more g n s =
    let start : ℕ = at + length gap in
    let end : start + length (d ∷ number) ≡ at + length (gap ++ d ∷ number) = omega (arith, length-append gap (d ∷ number)) in
    gap_over goes at gap (d ∷ number ++ more) g
    ∙ rw (filling_stops goes start (d ∷ number ++ more) (number_stops (d ∷ number) more n), number_again goes (Form start) start (d ∷ number) more n s, end)
    (seen_then goes more (done (capped_number (d ∷ number)) (at + length (gap ++ d ∷ number)) more) (λ m after rest. done (m, start) after rest))

pub no_space : (goes : Bool) (at : ℕ) (rest : List ℕ) → begins is_space rest ≡ false → space_at goes at rest ≡ seen goes rest (breaks (Form at))
unfolding space_at octet_at byte_at
no_space goes at [] h = octet_cut goes (Form at) at _
no_space goes at (b ∷ rest) h = rw h refl

-- where no field begins the form breaks again
pub field_break_again : (goes : Bool) (k at : ℕ) (part rest : List ℕ) → IsStuck k part rest → field_at goes at (part ++ rest) ≡ seen goes rest (breaks (Form (at + length part)))
unfolding field_at after_gap scan_at
field_break_again goes k at part rest (inl n) =
    let place : at ≡ at + 0 = omega arith in
    rw n.none (rw (no_space goes at rest n.no_space) (seen_then goes rest (breaks (Form at)) _ ∙ ap (λ (k : ℕ). seen goes rest (breaks (Form k))) place))
field_break_again goes k at part rest (inr (inl n)) =
    let start : ℕ = at + length part in
    gap_over goes at part rest n.gap
    ∙ rw (filling_stops goes start rest (record { no_space = n.no_space; no_hash = n.no_comment })) (seen_behind goes [] rest (done nothing start rest) _ (breaks (Form start)) (rw (no_number goes start rest n.no_digit) (seen_then goes rest (breaks (Form start)) _)))
field_break_again goes k at part rest (inr (inr n)) =
    let whole : part ++ rest ≡ n.gap ++ 35 ∷ n.comment = ap (λ (t : List ℕ). part ++ t) n.ended ∙ append-nil part ∙ n.parts in
    let start : ℕ = at + length n.gap in
    let place : (start + 1) + length n.comment ≡ at + length part = omega (arith, ap length n.parts, length-append n.gap (35 ∷ n.comment)) in
    ap (field_at goes at) whole ∙ gap_over goes at n.gap (35 ∷ n.comment) n.is ∙ rw (comment_again goes (start + 1) n.comment n.inside, place, n.ended) (seen_then goes [] (breaks (Form (at + length part))) _)
