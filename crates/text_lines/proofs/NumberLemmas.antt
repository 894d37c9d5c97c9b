-- Numbers as text: their tokens, and lists of them.
use Rattle.std.proofs.Common.{◌≡◌, ℕ, ◌^◌, ◌<◌, List, [], ◌∷◌, ◌++◌, length, ℤ, pos, negsuc, suc, inl, inr, refl, sym, ap, ◌∙◌, append_assoc, arith, Bool, true, false, eqb, nat_eq, ◌-◌}
use Rattle.std.specs.Prelude.{◌==◌, MatchBool}
use Rattle.std.specs.Cmp.Lexicographic.{pointwise}
use Rattle.std.proofs.lemmas.Bool.{false≢true}
use Rattle.std.proofs.lemmas.Bool.Decides.{Decides-eqb, nat_tests}
use Rattle.std.proofs.lemmas.Slice.Eq.{slice_eq-Decides}
use Rattle.std.specs.Fmt.{decimal, signed_decimal}
use Rattle.std.specs.Str.Parse.{AllDigits}
use lib.Signed.{mag}
use Rattle.std.proofs.lemmas.Fmt.{decimal_injective, decimal_is_IsNumeral_wide, signed_decimal_injective}
use Rattle.std.proofs.lemmas.List.{append-nil, length-append, append_cancel_left}
use Rattle.std.proofs.lemmas.List.Elements.{All-cons, All-head, All-nil, All-tail}
use Rattle.std.proofs.lemmas.Str.Parse.{digit_from_value}
use Rattle.text_lines.specs.Numbers.{FitsLong, AreLongs, ArePushed, BeginsField, number_text, numbers_line, numbers_text}
use Rattle.text_lines.proofs.FormLemmas.{InLine, Without, cons_tail, front_unique, not_nil}
use Rattle.sums_and_lists.proofs.Lists.{no_length}

-- ---- the bytes of a number

digits_without : (byte : ℕ) → byte < 48 → (ds : List ℕ) → AllDigits 10 ds → Without byte ds
digits_without byte low [] d = tt
digits_without byte low (b ∷ ds) d = (λ e. let r = digit_from_value b d.0 in let lt = r.0 in omega (arith, lt, e), digits_without byte low ds d.1)

pub wide_without : (byte : ℕ) → byte < 48 → (n : ℕ) → n < 2 ^ 128 → Without byte (decimal n)
wide_without byte low n small = digits_without byte low (decimal n) (decimal_is_IsNumeral_wide n (omega arith)).0.1

pub decimal_without : (byte : ℕ) → byte < 48 → (n : ℕ) → n < 2 ^ 64 → Without byte (decimal n)
decimal_without byte low n small = wide_without byte low n (omega arith)

pub signed_without : (byte : ℕ) → byte < 45 → (n : ℤ) → FitsLong n → Without byte (signed_decimal n)
signed_without byte low (pos n) long = let f = long.sfits in decimal_without byte (omega arith) n (omega (arith, f))
signed_without byte low (negsuc n) long = let f = long.sfits in (λ e. omega (arith, e), decimal_without byte (omega arith) (suc n) (omega (arith, f)))

pub magnitude : (n : ℤ) → FitsLong n → mag n < 2 ^ 63
magnitude n long = let f = long.sfits in omega (arith, f)

pub number_in_line : (n : ℤ) → FitsLong n → InLine (signed_decimal n)
number_in_line n long = signed_without 10 (omega arith) n long

-- ---- tokens

pub parts_unique : (a b r s : List ℕ) → Without 32 a → Without 32 b → BeginsField r → BeginsField s → a ++ r ≡ b ++ s → (a ≡ b) × (r ≡ s)
parts_unique = front_unique 32

-- ---- lists of numbers

pub numbers_cons : (n : ℤ) (numbers : List ℤ) → numbers_text (n ∷ numbers) ≡ 32 ∷ (signed_decimal n ++ numbers_text numbers)
unfolding number_text
numbers_cons n numbers = refl

pub numbers_field : (numbers : List ℤ) → BeginsField (numbers_text numbers)
numbers_field [] = inl refl
numbers_field (n ∷ numbers) = inr (signed_decimal n ++ numbers_text numbers, numbers_cons n numbers)

-- a row and a space in front of it
pub row_numbers : (row : List ℤ) → 0 < length row → numbers_text row ≡ 32 ∷ numbers_line row
row_numbers [] some = absurd (omega arith)
row_numbers (n ∷ row) some = numbers_cons n row

-- a number, and others after it
pub record FirstNumber (token after : List ℕ) : Type 0 where
  pub first : ℤ
  pub others : List ℤ
  pub long : FitsLong first
  pub longs : AreLongs others
  pub spelled : token ≡ signed_decimal first
  pub rest : after ≡ numbers_text others

pub first_of_numbers : (text token after : List ℕ) → text ≡ 32 ∷ (token ++ after) → Without 32 token → BeginsField after → (row : List ℤ) → AreLongs row → text ≡ numbers_text row → FirstNumber token after
first_of_numbers text token after parts t f [] longs e = absurd (not_nil 32 (token ++ after) (sym e ∙ parts))
first_of_numbers text token after parts t f (n ∷ row) longs e =
    let long = All-head FitsLong n row longs in
    let same = parts_unique token (signed_decimal n) after (numbers_text row) t (signed_without 32 (omega arith) n long) f (numbers_field row)
    (cons_tail 32 32 (token ++ after) (signed_decimal n ++ numbers_text row) (sym parts ∙ e ∙ numbers_cons n row)) in
    record { first = n; others = row; long = long; longs = All-tail FitsLong n row longs; spelled = same.0; rest = same.1 }

-- ---- numbers that are added to a list

-- a number and those after it
pub pushed_more : (old now : List ℤ) (text after : List ℕ) (n : ℤ) (all : Bool) → text ≡ 32 ∷ (signed_decimal n ++ after) → FitsLong n → BeginsField after → ArePushed after (old ++ n ∷ []) now all → ArePushed text old now all
pushed_more old now text after n true e long f (row, (items, (spelled, longs))) = (
  n ∷ row,
  (
    items ∙ append_assoc old (n ∷ []) row,
    (e ∙ ap (λ (l : List ℕ). 32 ∷ (signed_decimal n ++ l)) spelled ∙ sym (numbers_cons n row), All-cons FitsLong n row long longs),
  ),
)
pushed_more old now text after n false e long f none = λ row longs g.
    let first = first_of_numbers text (signed_decimal n) after e (signed_without 32 (omega arith) n long) f row longs g in
    none first.others first.longs first.rest

-- none after a space
pub pushed_none : (old now : List ℤ) (text fields : List ℕ) → text ≡ 32 ∷ fields → ((n : ℤ) (after : List ℕ) → FitsLong n → BeginsField after → fields ≡ signed_decimal n ++ after → ⊥) → ArePushed text old now false
pushed_none old now text fields e none [] longs g = not_nil 32 fields (sym g ∙ e)
pushed_none old now text fields e none (n ∷ row) longs g =
    none n (numbers_text row) (All-head FitsLong n row longs) (numbers_field row) (cons_tail 32 32 fields (signed_decimal n ++ numbers_text row) (sym e ∙ g ∙ numbers_cons n row))

-- no space
pub pushed_end : (old : List ℤ) (text : List ℕ) (all : Bool) → ((fields : List ℕ) → text ≡ 32 ∷ fields → ⊥) → all ≡ (length text == 0) → ArePushed text old old all
pushed_end old [] true none e = ([], (sym (append-nil old), (refl, All-nil FitsLong)))
pushed_end old [] false none e = absurd (false≢true e)
pushed_end old (b ∷ text) true none e = absurd (grind (arith, nat_tests, e))
pushed_end old (b ∷ text) false none e = λ row longs g. elim (numbers_field row) [ inl f ↦ not_nil b text (sym (g ∙ f)) | inr f ↦ none f.0 (g ∙ f.1) ]

-- numbers that fit are known by their text
pub numbers_unique : (a b : List ℤ) → AreLongs a → AreLongs b → numbers_text a ≡ numbers_text b → a ≡ b
numbers_unique [] [] p q e = refl
numbers_unique [] (n ∷ b) p q e = absurd (not_nil 32 (signed_decimal n ++ numbers_text b) (e ∙ numbers_cons n b))
numbers_unique (m ∷ a) [] p q e = absurd (not_nil 32 (signed_decimal m ++ numbers_text a) (sym e ∙ numbers_cons m a))
numbers_unique (m ∷ a) (n ∷ b) p q e =
    let f = All-head FitsLong m a p in
    let g = All-head FitsLong n b q in
    let tail = cons_tail 32 32 (signed_decimal m ++ numbers_text a) (signed_decimal n ++ numbers_text b) (sym (numbers_cons m a) ∙ e ∙ numbers_cons n b) in
    let parts = parts_unique (signed_decimal m) (signed_decimal n) (numbers_text a) (numbers_text b) (signed_without 32 (omega arith) m f) (signed_without 32 (omega arith) n g) (numbers_field a) (numbers_field b) tail in
    let first : m ≡ n = signed_decimal_injective m n (magnitude m f) (magnitude n g) parts.0 in
    ap (λ (k : ℤ). k ∷ a) first ∙ ap (λ (l : List ℤ). n ∷ l) (numbers_unique a b (All-tail FitsLong m a p) (All-tail FitsLong n b q) parts.1)

-- rows of one length too
pub line_unique : (a b : List ℤ) → AreLongs a → AreLongs b → length a ≡ length b → numbers_line a ≡ numbers_line b → a ≡ b
line_unique [] b p q l e = sym (no_length b (sym l))
line_unique (m ∷ a) b p q l e = numbers_unique (m ∷ a) b p q (numbers_cons m a ∙ ap (λ (t : List ℕ). 32 ∷ t) e ∙ sym (row_numbers b (omega (arith, l))))

-- ---- what std's functions say

-- texts that are the same by `==`
pub agree : (a b : List ℕ) (r : Bool) → r ≡ pointwise eqb a b → r ≡ true → a ≡ b
agree a b r is same = (slice_eq-Decides Decides-eqb a b r is).0 same

pub same_count : (line label : List ℕ) (a b : ℕ) → a < 2 ^ 64 → b < 2 ^ 64 → line ≡ label ++ decimal a → line ≡ label ++ decimal b → a ≡ b
same_count line label a b p q e f = decimal_injective a b p q (append_cancel_left label (decimal a) (decimal b) (sym e ∙ f))

-- ---- a row

-- no row where there are no numbers after a space
pub no_row : (text : List ℕ) (count : ℕ) → 0 < count → ((row : List ℤ) → AreLongs row → 32 ∷ text ≡ numbers_text row → ⊥) → (row : List ℤ) → AreLongs row → length row ≡ count → text ≡ numbers_line row → ⊥
no_row text count some none row longs l e = none row longs (ap (λ (t : List ℕ). 32 ∷ t) e ∙ sym (row_numbers row (omega (arith, l, some))))

-- a row where there are, if they are so many
pub row_pushed : (old now : List ℤ) (text : List ℕ) (count had has : ℕ) (same : Bool) → 0 < count → had ≡ length old → has ≡ length now → same ≡ nat_eq (has - had) count → ArePushed (32 ∷ text) old now true →
    MatchBool same ((row : List ℤ) × ((now ≡ old ++ row) × ((length row ≡ count) × ((text ≡ numbers_line row) × AreLongs row)))) ((row : List ℤ) → AreLongs row → length row ≡ count → text ≡ numbers_line row → ⊥)
row_pushed old now text count had has true some b a test (row, (items, (spelled, longs))) =
    let size = ap length items in
    let len : length row ≡ count = grind (arith, nat_tests, size, length-append old row) in
    (row, (items, (len, (cons_tail 32 32 text (numbers_line row) (spelled ∙ row_numbers row (omega (arith, len, some))), longs))))
row_pushed old now text count had has false some b a test (new, (items, (spelled, longs))) = λ row all l e.
    let size = ap length items in
    let one = ap length (numbers_unique row new all longs (row_numbers row (omega (arith, l, some)) ∙ ap (λ (t : List ℕ). 32 ∷ t) (sym e) ∙ spelled)) in
    grind (arith, nat_tests, size, one, length-append old new)
