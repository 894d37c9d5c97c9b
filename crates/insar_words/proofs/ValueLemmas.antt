-- Values and their texts: which texts clap accepts, and what it reads of them.
use Rattle.std.proofs.Common.{◌≡◌, ◌≢◌, ◌∙◌, ◌<◌, ◌≤◌, ◌^◌, ◌&&◌, ◌||◌, ℕ, Bool, cond, true, false, refl, sym, ap, ap₂, subst, arith, List, [], ◌∷◌, drop, Option, Some, None, pos}
use Rattle.std.specs.Prelude.{◌==◌, ◌≤ℤ◌, ℤ, ⊤, neg_ℤ, FitsSigned, decimal, nat_le, nat_lt, option_and_then, option_map, slice_get}
use mir.Syntax.{w64}
use Rattle.std.specs.Str.{bytes_eq}
use Rattle.std.specs.Str.Parse.{IsNumeral, digits_value, signed_digits_value, starts_with_minus, without_leading_plus, without_leading_sign}
use Rattle.std.proofs.lemmas.Bool.{leb-true, ltb-true, ne_eqb}
use Rattle.std.proofs.lemmas.Fmt.{decimal_is_IsNumeral}
use Rattle.std.proofs.lemmas.Int.{ints}
use Rattle.std.proofs.lemmas.Slice.Eq.{bytes_eq-Decides}
use Rattle.std.proofs.lemmas.Str.Parse.{digit_from_value}
use Rattle.clap.specs.Lexer.{long_of, short_of, without_minus}
use Rattle.clap.specs.Values.{IsSignedIn, read_as, reading_of}
use Rattle.clap.specs.ValueTests.{accepts}
use Rattle.clap.specs.Walk.{Row, Text, one_of, row_text}
use Rattle.clap.specs.declared.builder.value_parser.Reading.{Reading}
use Rattle.clap.specs.declared.builder.value_parser.ValueParser.TheVariants as vp
use Rattle.clap.specs.declared.parser.matches.ValueSource.{ValueSource}
use Rattle.clap.proofs.ValueTestLemmas.{Accepts-accepts}
use Rattle.clap.proofs.WalkLemmas.{both}
use Rattle.insar_words.specs.Forms.{Argument, Each, Taking, Value, any_number, fits, is_among, name, names, number, numbers, word_of}
use Rattle.insar_words.specs.PlainForms.{Has}
use Rattle.insar_words.specs.Stated.{parser_taking}
use Rattle.insar_words.specs.Values.{HasNumber}
use Rattle.insar_words.proofs.TakenLemmas.{row_at}

-- a word that is no flag
pub record IsValueWord (word : Text) : Type 0 where
  pub no_dashes : bytes_eq word (45 ∷ 45 ∷ []) ≡ false
  pub no_long : long_of word ≡ None
  pub no_short : short_of word ≡ None

-- ---- texts of numbers

-- a numeral begins with a digit, so it is no flag and has no sign
record IsUnsigned (ds : Text) : Type 0 where
  word : IsValueWord ds
  plus : without_leading_plus ds ≡ ds
  minus : starts_with_minus ds ≡ false
  kept : without_minus ds ≡ ds

unsigned : (ds : Text) → IsNumeral 10 ds → IsUnsigned ds
unsigned [] h = absurd (omega (arith, h.0))
unsigned (d ∷ ds) h =
    let minus : (d == 45) ≡ false = ne_eqb _ _ (λ e. omega (arith, e, digit_from_value d h.1.0)) in
    let plus : (d == 43) ≡ false = ne_eqb _ _ (λ e. omega (arith, e, digit_from_value d h.1.0)) in
    record { word = record { no_dashes = rw minus refl; no_long = rw minus refl; no_short = rw minus refl }; plus = rw plus refl; minus = minus; kept = rw minus refl }

minus_dropped : (t : Text) → without_minus t ≡ cond (starts_with_minus t) (drop 1 t) t
minus_dropped [] = refl
minus_dropped (x ∷ xs) = grind arith

-- a numeral with a sign, as clap reads it
without_sign : (t : Text) → IsNumeral 10 (without_leading_sign t) → without_leading_plus (without_minus t) ≡ without_leading_sign t
without_sign t h = ap without_leading_plus (minus_dropped t) ∙ go (starts_with_minus t) refl
  where
    go : (b : Bool) → starts_with_minus t ≡ b → without_leading_plus (cond b (drop 1 t) t) ≡ cond b (drop 1 t) (without_leading_plus t)
    go true minus = (unsigned (drop 1 t) (rw minus at h)).plus
    go false minus = refl

bounds : (minus : Bool) (least most n : ℕ) → pos least ≤ℤ cond minus (neg_ℤ (pos n)) (pos n) → cond minus (neg_ℤ (pos n)) (pos n) ≤ℤ pos most → (least ≤ n) × (n ≤ most)
bounds true least most n low high = (omega (arith, ints, low), omega (arith, ints, low, high))
bounds false least most n low high = (omega (arith, ints, low), omega (arith, ints, high))

pub number_in : (id : Text) (least most : ℕ) (rows : List Row) (t : Text) → one_of id rows ≡ Some (without_minus t) → IsSignedIn (pos least) (pos most) t → HasNumber id least most rows
number_in id least most rows t told within =
    let same = sym (without_sign t within.0) in
    let between = bounds (starts_with_minus t) least most (digits_value 10 (without_leading_sign t)) within.2 within.3 in
    record {
      text = without_minus t;
      told = told;
      numeral = subst (IsNumeral 10) same within.0;
      at_least = subst (λ (ds : Text). least ≤ digits_value 10 ds) same between.0;
      at_most = subst (λ (ds : Text). digits_value 10 ds ≤ most) same between.1;
    }

same_unsigned : (n : ℕ) → n < 2 ^ 64 → digits_value 10 (without_leading_plus (decimal n)) ≡ n
same_unsigned n small =
    let d = decimal_is_IsNumeral n small in
    ap (digits_value 10) (unsigned (decimal n) d.0).plus ∙ d.1

number_accepted : (least most n : ℕ) → least ≤ n → n ≤ most → most < 2 ^ 63 → accepts false (vp.Signed (pos least) (pos most)) (decimal n) ≡ true
number_accepted least most n low high small =
    let d = decimal_is_IsNumeral n (omega (arith, high, small)) in
    let u = unsigned (decimal n) d.0 in
    let sign : without_leading_sign (decimal n) ≡ decimal n = ap (λ (b : Bool). cond b (drop 1 (decimal n)) (without_leading_plus (decimal n))) u.minus ∙ u.plus in
    let is : signed_digits_value 10 (decimal n) ≡ pos n =
    ap₂ (λ (b : Bool) (t : Text). cond b (neg_ℤ (pos (digits_value 10 t))) (pos (digits_value 10 t))) u.minus sign ∙ ap pos d.1 in
    let in_word : n < 2 ^ 63 = omega (arith, high, small) in
    Accepts-accepts false (vp.Signed (pos least) (pos most)) (decimal n) (
      subst (IsNumeral 10) (sym sign) d.0,
      subst (FitsSigned w64) (sym is) (record { sfits = in_word }),
      subst (λ (z : ℤ). pos least ≤ℤ z) (sym is) (omega (arith, ints, low)),
      subst (λ (z : ℤ). z ≤ℤ pos most) (sym is) (omega (arith, ints, high)),
    )

unsigned_accepted : (n : ℕ) → n < 2 ^ 64 → accepts false (vp.Unsigned 0 18446744073709551615) (decimal n) ≡ true
unsigned_accepted n small =
    let d = decimal_is_IsNumeral n small in
    let is = same_unsigned n small in
    Accepts-accepts false (vp.Unsigned 0 18446744073709551615) (decimal n)
    (subst (IsNumeral 10) (sym (unsigned (decimal n) d.0).plus) d.0, subst (λ (m : ℕ). m < 2 ^ 64) (sym is) small, omega arith, omega (arith, is, small))

-- ---- what is taken

-- clap can read what is taken: numbers fit an i64, and names are no flags
abbrev pub IsReadable : Taking → Type 0
IsReadable (numbers least most) = nat_lt most (2 ^ 63) ≡ true
IsReadable any_number = ⊤
IsReadable (names all) = Each IsValueWord all

pub other_bytes : (a b : Text) → a ≢ b → bytes_eq a b ≡ false
other_bytes a b n = let same = bytes_eq-Decides a b in grind arith

among_word : (text : Text) (all : List Text) → is_among text all ≡ true → Each IsValueWord all → IsValueWord text
among_word text [] here every = absurd cc
among_word text (each ∷ all) here every = go (bytes_eq each text) refl here (λ h. among_word text all h every.1)
  where
    go : (b : Bool) → bytes_eq each text ≡ b → (b || is_among text all) ≡ true → (is_among text all ≡ true → IsValueWord text) → IsValueWord text
    go true same h rest = subst IsValueWord ((bytes_eq-Decides each text).0 same) every.0
    go false same h rest = rest h

-- a number that is taken is below 2 ^ 64
below_word : (least most n : ℕ) → nat_lt most (2 ^ 63) ≡ true → (nat_le least n && nat_le n most) ≡ true → (n < 2 ^ 64) × ((least ≤ n) × ((n ≤ most) × (most < 2 ^ 63)))
below_word least most n small h =
    let parts = both _ _ h in
    let low = leb-true least n parts.0 in
    let high = leb-true n most parts.1 in
    let most_small = ltb-true most (2 ^ 63) small in
    (omega (arith, high, most_small), (low, (high, most_small)))

-- what is read of the text of a value
abbrev IsToldBy : Reading → Value → Type 0
IsToldBy how (number n) = digits_value 10 (without_leading_plus (read_as how (decimal n))) ≡ n
IsToldBy how (name text) = ⊤

-- a value that is taken is a word of its own, passes the parser, and is read
pub record IsRead (taking : Taking) (v : Value) : Type 0 where
  pub word : IsValueWord (word_of v)
  pub passes : accepts false (parser_taking taking) (word_of v) ≡ true
  pub told : IsToldBy (reading_of (parser_taking taking)) v

pub value_read : (taking : Taking) (v : Value) → IsReadable taking → fits taking v ≡ true → IsRead taking v
value_read (numbers least most) (number n) reads h =
    let w = below_word least most n reads h in
    let u = unsigned (decimal n) (decimal_is_IsNumeral n w.0).0 in
    record { word = u.word; passes = number_accepted least most n w.1.0 w.1.1.0 w.1.1.1; told = ap (λ (t : Text). digits_value 10 (without_leading_plus t)) u.kept ∙ same_unsigned n w.0 }
value_read any_number (number n) reads h =
    let w = ltb-true n (2 ^ 64) h in
    record { word = (unsigned (decimal n) (decimal_is_IsNumeral n w).0).word; passes = unsigned_accepted n w; told = same_unsigned n w }
value_read (names all) (name text) reads h = record { word = among_word text all h reads; passes = refl; told = tt }
value_read taking v reads h = absurd cc

-- the row of an argument with a value, and what the matches with it have
abbrev pub value_row : Argument → ValueSource → Value → Row
value_row a source v = record { id = a.id; values = word_of v ∷ []; count = None; source = Some source; reading = reading_of (parser_taking a.takes) }

pub has_row_of : (rows : List Row) (id : Text) (a : Argument) (source : ValueSource) (v : Value) → IsRead a.takes v → row_at id rows ≡ Some (value_row a source v) → Has rows id (Some v)
has_row_of rows id a source (number n) read at =
    ap (λ (o : Option Row). option_map (λ text. digits_value 10 (without_leading_plus text)) (option_and_then row_text o)) at ∙ ap Some read.told
has_row_of rows id a source (name text) read at = ap (option_and_then (λ (r : Row). slice_get r.values 0)) at
