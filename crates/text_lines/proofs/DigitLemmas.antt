-- Numbers read by their digits.
use Rattle.std.proofs.Common.{◌≡◌, ℕ, ◌+◌, ◌-◌, ◌*◌, ◌^◌, ◌<◌, ◌≤◌, List, [], ◌∷◌, ◌++◌, length, take, drop, get_or, ℤ, pos, negsuc, zero, suc, true, false, Option, None, Result, Ok, Err, inl, inr, refl, sym, ap, subst, ◌∙◌, arith, decimal}
use Rattle.std.specs.Prelude.{◌≢◌, ◌⊎◌, ◌==◌, OkIff, neg_ℤ}
use Rattle.std.specs.Result.{result_ok}
use Rattle.std.specs.Char.{digit_value}
use Rattle.std.specs.Fmt.{signed_decimal}
use Rattle.std.specs.Int.{IsInRange}
use Rattle.std.specs.Str.Parse.{AllDigits, digits_value}
use Rattle.std.proofs.lemmas.Bool.{cases_lt, eqb-true}
use Rattle.std.proofs.lemmas.Bool.Decides.{nat_tests}
use Rattle.std.proofs.lemmas.Fmt.{decimal_is_IsNumeral, decimal_digit, decimal_injective, decimal_nonempty, decimal-digits_value, first_decimal, length-decimal-le}
use Rattle.std.proofs.lemmas.Int.Digits.{digits_more, digits_value_more}
use Rattle.std.proofs.lemmas.List.{append-nil, drop_at, get_or-take, get_or_append_left, get_or_at, length-append, length-take, length-take-le, take_at, take-append-drop}
use Rattle.std.proofs.lemmas.Option.{none-some}
use Rattle.std.proofs.lemmas.Str.{digit_value_digit}
use Rattle.std.proofs.lemmas.Str.Parse.{IsNumeralModel, digit_at, digits_value_short, numerals_by_value, tells_digits}
use Rattle.sums_and_lists.proofs.Lists.{no_length}
use Rattle.text_lines.specs.Numbers.{BeginsField, FitsLong}
use Rattle.text_lines.specs.Parsing.{IsParsedAs, IsWord}
use Rattle.text_lines.proofs.FormLemmas.{Without, cons_tail}
use Rattle.text_lines.proofs.NumberLemmas.{decimal_without, parts_unique}

own : IsNumeralModel (AllDigits 10) (digits_value 10)
own = numerals_by_value (AllDigits 10) tells_digits

-- no number of at most 19 digits stands in front, up to a space or the end
abbrev NoCount : List ℕ → Type 0
NoCount text = (count : ℕ) (rest : List ℕ) → count < 10 ^ 19 → BeginsField rest → text ≡ decimal count ++ rest → ⊥

-- and no number of 64 bits with a sign
abbrev NoNumber : List ℕ → Type 0
NoNumber text = (number : ℤ) (rest : List ℕ) → FitsLong number → BeginsField rest → text ≡ signed_decimal number ++ rest → ⊥

-- ---- one digit after another

module _ (text : List ℕ) (count : ℕ) (digits : AllDigits 10 (take count text)) where
  pub digits_small : count < 19 → digits_value 10 (take count text) < 10 ^ 18
  digits_small few = digits_value_short own (take count text) 18 digits (omega (arith, few, length-take count text))

  pub digits_grow : count < length text → digit_value (get_or text count 0) < 10 → AllDigits 10 (take (count + 1) text)
  digits_grow more low = digits_more 10 text count more digits low

pub value_grows : (text : List ℕ) (count number digit : ℕ) → count < length text → IsInRange 48 57 (get_or text count 0) → digit ≡ get_or text count 0 - 48 → number ≡ digits_value 10 (take count text) → 10 * number + digit ≡ digits_value 10 (take (count + 1) text)
value_grows text count number digit more range is value =
    let step = digits_value_more 10 text count more in
    let last = digit_value_digit (get_or text count 0) range in
    omega (arith, step, last, value, is)

-- ---- the digits in front are those of a number

below : (n : ℕ) → n < 10 ^ 19 → n < 2 ^ 64
below n small = omega (arith, small)

digits_of_decimal : (n : ℕ) → n < 2 ^ 64 → AllDigits 10 (decimal n)
digits_of_decimal n small = (decimal_is_IsNumeral n small).0.1

no_lead : (n : ℕ) → n < 2 ^ 64 → get_or (decimal n) 0 0 ≡ 48 → 1 < length (decimal n) → ⊥
no_lead n small lead long =
    elim (cases_lt n 10) [
      | inl lt ↦ (let one = ap length (decimal_digit n lt) in omega (arith, one, long))
      | inr ge ↦ (let first = first_decimal n (omega (arith, ge)) small in omega (arith, first, lead))
    ]

-- `len` digits stand in front, and where there are fewer than 19 no more
module _ (text : List ℕ) (len : ℕ) (within : len ≤ length text) (few : len ≤ 19) (digits : AllDigits 10 (take len text)) (stops : len < length text → len < 19 → IsInRange 48 57 (get_or text len 0) → ⊥) where
  not_fewer : (ds rest : List ℕ) → AllDigits 10 ds → length ds ≤ 19 → text ≡ ds ++ rest → len < length ds → ⊥
  not_fewer ds rest all short e lt =
      let size = ap length e in
      stops (omega (arith, size, lt, length-append ds rest)) (omega (arith, lt, short))
      (subst (IsInRange 48 57) (sym (ap (λ (l : List ℕ). get_or l len 0) e ∙ get_or_append_left ds rest 0 len lt)) (digit_at ds len all lt))

  not_more : (ds rest : List ℕ) → BeginsField rest → text ≡ ds ++ rest → length ds < len → ⊥
  not_more ds rest (inl f) e lt =
      let size = ap length e in
      let none = ap length f in
      omega (arith, size, none, lt, within, length-append ds rest)
  not_more ds rest (inr f) e lt =
      let here : get_or text (length ds) 0 ≡ 32 = ap (λ (l : List ℕ). get_or l (length ds) 0) (e ∙ ap (λ (l : List ℕ). ds ++ l) f.1) ∙ get_or_at ds 32 f.0 0 (length ds) refl in
      let digit = digit_at (take len text) (length ds) digits (omega (arith, lt, length-take-le len text within)) in
      omega (arith, digit.0, get_or-take len text (length ds) 0 lt, here)

  digits_are : (ds rest : List ℕ) → AllDigits 10 ds → length ds ≤ 19 → BeginsField rest → text ≡ ds ++ rest → (take len text ≡ ds) × (drop len text ≡ rest)
  digits_are ds rest all short f e =
      let same : length ds ≡ len =
      elim (cases_lt len (length ds)) [
        | inl lt ↦ absurd (not_fewer ds rest all short e lt)
        | inr le ↦ elim (cases_lt (length ds) len) [ inl lt ↦ absurd (not_more ds rest f e lt) | inr ge ↦ omega (arith, le, ge) ]
      ] in
      (ap (take len) e ∙ take_at ds rest len same, ap (drop len) e ∙ drop_at ds rest len same)

  are_decimal : (n : ℕ) (rest : List ℕ) → n < 10 ^ 19 → BeginsField rest → text ≡ decimal n ++ rest → (take len text ≡ decimal n) × (drop len text ≡ rest)
  are_decimal n rest small begins e = digits_are (decimal n) rest (digits_of_decimal n (below n small)) (length-decimal-le 19 n (omega arith) small (below n small)) begins e

  -- no number stands in front where no space follows the digits
  pub no_field : (after : List ℕ) → after ≡ drop len text → (BeginsField after → ⊥) → NoCount text
  no_field after is none n rest small begins e = none (subst BeginsField (sym (is ∙ (are_decimal n rest small begins e).1)) begins)

  -- nor where they are none, or a zero in front of others
  pub not_plain : (front : List ℕ) → front ≡ take len text → (length front ≡ 0) ⊎ ((get_or front 0 0 ≡ 48) × (1 < length front)) → NoCount text
  not_plain front is (inl none) n rest small begins e =
      let some = decimal_nonempty n (below n small) in
      let size = ap length (is ∙ (are_decimal n rest small begins e).0) in
      omega (arith, none, some, size)
  not_plain front is (inr lead) n rest small begins e =
      let same = is ∙ (are_decimal n rest small begins e).0 in
      no_lead n (below n small) (rw same at lead.0) (rw same at lead.1)

-- digits without a zero in front spell their number
pub count_found : (text digits rest : List ℕ) (len number : ℕ) → digits ≡ take len text → rest ≡ drop len text → len ≤ 19 → AllDigits 10 (take len text) → number ≡ digits_value 10 (take len text) → 0 < length digits → (get_or digits 0 0 ≡ 48 → length digits ≡ 1) → text ≡ decimal number ++ rest
count_found text digits rest len number d r few all value some lead =
    let short : length (take len text) ≤ 19 = omega (arith, few, length-take len text) in
    let small = digits_value_short own (take len text) 19 all short in
    let spelled : decimal (digits_value 10 (take len text)) ≡ take len text = decimal-digits_value own (take len text) all (rw d at some) (rw d at lead) (omega (arith, small)) in
    sym (take-append-drop len text) ∙ ap (λ (l : List ℕ). l ++ drop len text) (sym spelled ∙ ap decimal (sym value)) ∙ ap (λ (l : List ℕ). decimal number ++ l) (sym r)

-- ---- signs

pub negative : (size : ℕ) → size ≢ 0 → signed_decimal (neg_ℤ (pos size)) ≡ 45 ∷ decimal size
negative zero some = absurd (some refl)
negative (suc n) some = refl

-- a number without a sign begins with a digit
no_minus : (n : ℕ) (more rest : List ℕ) → n < 2 ^ 64 → decimal n ++ rest ≡ 45 ∷ more → ⊥
no_minus n more rest small e =
    let some = decimal_nonempty n small in
    let digit = digit_at (decimal n) 0 (digits_of_decimal n small) some in
    let first = sym (get_or_append_left (decimal n) rest 0 0 some) ∙ ap (λ (l : List ℕ). get_or l 0 0) e in
    omega (arith, digit.0, first)

-- two numbers in front of one text are one
one_count : (text a b : List ℕ) (m n : ℕ) → m < 2 ^ 64 → n < 2 ^ 64 → BeginsField a → BeginsField b → text ≡ decimal m ++ a → text ≡ decimal n ++ b → (m ≡ n) × (a ≡ b)
one_count text a b m n p q f g e h =
    let parts = parts_unique (decimal m) (decimal n) a b (decimal_without 32 (omega arith) m p) (decimal_without 32 (omega arith) n q) f g (sym e ∙ h) in
    (decimal_injective m n p q parts.0, parts.1)

pub no_negative : (text digits : List ℕ) → text ≡ 45 ∷ digits → NoCount digits → NoNumber text
no_negative text digits minus none (pos n) rest long f e = let r = long.sfits in no_minus n digits rest (omega (arith, r)) (sym e ∙ minus)
no_negative text digits minus none (negsuc n) rest long f e =
    let r = long.sfits in
    none (suc n) rest (omega (arith, r)) f (cons_tail 45 45 digits (decimal (suc n) ++ rest) (sym minus ∙ e))

pub too_negative : (text digits after : List ℕ) (size : ℕ) → text ≡ 45 ∷ digits → size < 2 ^ 64 → digits ≡ decimal size ++ after → BeginsField after → (size ≡ 0) ⊎ (2 ^ 63 < size) → NoNumber text
too_negative text digits after size minus small found g other (pos n) rest long f e = let r = long.sfits in no_minus n digits rest (omega (arith, r)) (sym e ∙ minus)
too_negative text digits after size minus small found g other (negsuc n) rest long f e =
    let r = long.sfits in
    let same = (one_count digits after rest size (suc n) small (omega (arith, r)) g f found (cons_tail 45 45 digits (decimal (suc n) ++ rest) (sym minus ∙ e))).0 in
    elim other [ inl nothing ↦ omega (arith, nothing, same) | inr much ↦ omega (arith, much, same, r) ]

pub too_positive : (text after : List ℕ) (size : ℕ) → ((digits : List ℕ) → text ≡ 45 ∷ digits → ⊥) → size < 2 ^ 64 → text ≡ decimal size ++ after → BeginsField after → (FitsLong (pos size) → ⊥) → NoNumber text
too_positive text after size plus small found g other (pos n) rest long f e =
    let r = long.sfits in
    let same = (one_count text after rest size n small (omega (arith, r)) g f found e).0 in
    other (subst (λ (k : ℕ). FitsLong (pos k)) (sym same) long)
too_positive text after size plus small found g other (negsuc n) rest long f e = plus (decimal (suc n) ++ rest) e

-- what `try_from` refuses is not in its range
pub not_in_range : {T E : Type 0} (r : Result T E) (P : Type 0) (x : T) → None ≡ result_ok r → OkIff r P x → P → ⊥
not_in_range (Ok y) P x none is p = none-some y none
not_in_range (Err e) P x none is p = is p

-- ---- a whole text

whole : (text front rest : List ℕ) → text ≡ front ++ rest → (length rest == 0) ≡ true → text ≡ front
whole text front rest e none = e ∙ ap (λ (l : List ℕ). front ++ l) (no_length rest (eqb-true (length rest) 0 none)) ∙ append-nil front

pub no_whole_count : (text : List ℕ) → NoCount text → (n : ℕ) → n < 2 ^ 32 → text ≡ decimal n → ⊥
no_whole_count text none n small e = none n [] (omega (arith, small)) (inl refl) (e ∙ sym (append-nil (decimal n)))

-- a text in front of more is no whole text
pub more_behind : (text a b rest : List ℕ) → Without 32 a → Without 32 b → text ≡ a ++ rest → BeginsField rest → (length rest == 0) ≡ false → text ≡ b → ⊥
more_behind text a b rest p q found f some e =
    let none = ap length (parts_unique a b rest [] p q f (inl refl) (sym found ∙ e ∙ sym (append-nil b))).1 in
    grind (arith, nat_tests, none, some)

other_count : (text : List ℕ) (m : ℕ) → text ≡ decimal m → m < 2 ^ 64 → (m < 2 ^ 32 → ⊥) → (n : ℕ) → n < 2 ^ 32 → text ≡ decimal n → ⊥
other_count text m found small big n small_n e =
    let same = decimal_injective m n small (omega (arith, small_n)) (sym found ∙ e) in
    big (omega (arith, same, small_n))

-- a number without a sign that fits 32 bits, or does not
pub count_read : {E : Type 0} (text rest : List ℕ) (m : ℕ) (r : Result ℕ E) (o : Option ℕ) → o ≡ result_ok r → OkIff r (m < 2 ^ 32) m → text ≡ decimal m ++ rest → (length rest == 0) ≡ true → m < 2 ^ 64 → IsParsedAs IsWord decimal text o
count_read text rest m (Ok x) o e is found none small = rw e (subst IsWord (sym is.1) is.0, whole text (decimal m) rest found none ∙ ap decimal (sym is.1))
count_read text rest m (Err x) o e is found none small = rw e (other_count text m (whole text (decimal m) rest found none) small is)
