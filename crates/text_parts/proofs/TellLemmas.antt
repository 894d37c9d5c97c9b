-- Whether bytes are the text of a value: one or the other can be told, and of which value. Fields and lines that several texts have.
use Rattle.std.proofs.Common.{◌≡◌, ℕ, ◌<◌, ◌≤◌, ◌^◌, ℤ, pos, negsuc, Bool, IsTrue, List, ◌++◌, length, take, drop, decimal, inl, inr, refl, sym, ap, ap₂, subst, ◌∙◌, arith}
use Rattle.std.specs.Prelude.{codes}
use Rattle.std.specs.Fmt.{signed_decimal}
use Rattle.std.specs.Str.Parse.{digits_value}
use Rattle.std.proofs.lemmas.Bool.{cases_Bool, cases_lt, false≢true}
use Rattle.std.proofs.lemmas.Fmt.{decimal_is_IsNumeral_wide, signed_decimal_injective}
use Rattle.std.proofs.lemmas.Int.{ints}
use Rattle.std.proofs.lemmas.List.{append_cancel_left, take_at, take-append-drop}
use Rattle.raster_model.specs.Limits.{is_raster_size, is_tiled_size, IsSlope, IsSteepness}
use Rattle.raster_model.specs.declared.weights.RuleKind.{RuleKind}
use Rattle.raster_model.specs.declared.weights.RuleKind.TheVariants.{Least, Mean, Product}
use Rattle.text_lines.specs.Numbers.{BeginsField, FitsLong, number_text}
use Rattle.text_lines.specs.Parsing.{AreWords, IsAnyRule, IsWide, IsWord, behind, field_then, pair_text}
use Rattle.text_lines.specs.Text.{field_text}
use Rattle.text_lines.proofs.FieldLemmas.{decimal_token, is_printed, last_begins, word_wide}
use Rattle.text_lines.proofs.FormLemmas.{Without}
use Rattle.text_lines.proofs.NumberLemmas.{magnitude, parts_unique, signed_without}
use Rattle.text_lines.proofs.TellLemmas.{Told, bytes_told, number_told, token_in_front}
use Rattle.text_parts.specs.Parts.{IsRamp, IsRasterSize, IsWholeSize}
use Rattle.text_parts.specs.Steps.{TextOf, both, in_turn}
use Rattle.text_parts.specs.Text.{known_line, ramp_line, rule_line, size_line, steep_line}
use Rattle.text_parts.proofs.LineLemmas.{size_words, slope_long, whole_words}
use Rattle.text_parts.proofs.ReadsLemmas.{One}
use Rattle.text_parts.proofs.UniqueLemmas.{words_unique}

-- of all bytes it can be told whether they are the text of a value that may stand
abbrev pub Tells : {A : Type 0} → (A → Type 0) → (A → List ℕ) → Type 0
Tells {A} P f = (bytes : List ℕ) → Told (TextOf P f bytes)

pub same_told : (F G : Type 0) → (F → G) → (G → F) → Told F → Told G
same_told F G to back (inl f) = inl (to f)
same_told F G to back (inr none) = inr (λ g. none (back g))

pub both_told : (F G : Type 0) → Told F → Told G → Told (F × G)
both_told F G (inl f) (inl g) = inl (f, g)
both_told F G (inl f) (inr none) = inr (λ p. none p.1)
both_told F G (inr none) g = inr (λ p. none p.0)

-- ---- numbers

below_told : (k n : ℕ) → Told (n < k)
below_told k n = elim (cases_lt n k) [ inl lt ↦ inl lt | inr le ↦ inr (λ lt. omega (arith, lt, le)) ]

pub word_told : (n : ℕ) → Told (IsWord n)
word_told n = below_told (2 ^ 32) n

pub wide_told : (n : ℕ) → Told (IsWide n)
wide_told n = below_told (2 ^ 128) n

pub range_told : (least most n : ℕ) → Told ((least ≤ n) × (n ≤ most))
range_told least most n = elim (cases_lt n least) [
  | inl lt ↦ inr (λ r. let low = r.0 in omega (arith, lt, low))
  | inr low ↦ elim (cases_lt most n) [ inl lt ↦ inr (λ r. let high = r.1 in omega (arith, lt, high)) | inr high ↦ inl (low, high) ]
]

-- the value of the digits is the only number of which they may be the text
pub decimal_told : (P : ℕ → Type 0) → ((n : ℕ) → P n → IsWide n) → ((n : ℕ) → Told (P n)) → Tells P decimal
decimal_told P wide test digits =
    let n = digits_value 10 digits in
    same_told (P n × (digits ≡ decimal n)) (TextOf P decimal digits) (λ p. (n, (p.0, p.1))) (λ a. (subst P (sym (is a.0 a.1.0 a.1.1)) a.1.0, a.1.1 ∙ ap decimal (sym (is a.0 a.1.0 a.1.1)))) (both_told (P n) (digits ≡ decimal n) (test n) (bytes_told digits (decimal n)))
  where
    is : (n : ℕ) → P n → digits ≡ decimal n → digits_value 10 digits ≡ n
    is n p e = ap (digits_value 10) e ∙ (decimal_is_IsNumeral_wide n (is_printed n (wide n p))).1

-- values of which some may stand
pub narrow_told : {A : Type 0} (P Q : A → Type 0) (f : A → List ℕ) → One P f → ((a : A) → Q a → P a) → ((a : A) → P a → Told (Q a)) → Tells P f → Tells Q f
narrow_told {A} P Q f one weaker test tell bytes = within (tell bytes)
  where
    within : Told (TextOf P f bytes) → Told (TextOf Q f bytes)
    within (inr none) = inr (λ b. none (b.0, (weaker b.0 b.1.0, b.1.1)))
    within (inl a) = same_told (Q a.0) (TextOf Q f bytes) (λ q. (a.0, (q, a.1.1))) (λ b. subst Q (one b.0 a.0 (weaker b.0 b.1.0) a.1.0 (sym b.1.1 ∙ a.1.1)) b.1.0) (test a.0 a.1.0)

pub signed_told : (P : ℤ → Type 0) → ((n : ℤ) → P n → FitsLong n) → ((n : ℤ) → Told (P n)) → Tells P signed_decimal
signed_told P long test = narrow_told FitsLong P signed_decimal (λ m n a b e. signed_decimal_injective m n (magnitude m a) (magnitude n b) e) long (λ n _. test n) number_told

-- ---- pieces of lines

-- a word in front
pub behind_told : {A : Type 0} (P : A → Type 0) (f : A → List ℕ) (word : List ℕ) → Tells P f → Tells P (behind word f)
behind_told {A} P f word tell bytes = elim (bytes_told (take (length word) bytes) word) [
  | inr other ↦ inr (λ a. other (ap (take (length word)) a.1.1 ∙ take_at word (f a.0) (length word) refl))
  | inl e ↦ rest (drop (length word) bytes) (sym (take-append-drop (length word) bytes) ∙ ap (λ (l : List ℕ). l ++ drop (length word) bytes) e)
]
  where
    rest : (r : List ℕ) → bytes ≡ word ++ r → Told (TextOf P (behind word f) bytes)
    rest r e = same_told (TextOf P f r) (TextOf P (behind word f) bytes) (λ a. (a.0, (a.1.0, e ∙ ap (λ (l : List ℕ). word ++ l) a.1.1))) (λ a. (a.0, (a.1.0, append_cancel_left word r (f a.0) (sym e ∙ a.1.1)))) (tell r)

-- a token without a space, and what follows it
module _ {A B : Type 0} (P : A → Type 0) (f : A → List ℕ) (plain : (a : A) → P a → Without 32 (f a)) (Q : B → Type 0) (g : B → List ℕ) (begins : (b : B) → Q b → BeginsField (g b)) where
  pub token_told : Tells P f → Tells Q g → Tells (both P Q) (in_turn f g)
  token_told tell other bytes = let t = token_in_front bytes in parts t.0 t.1 t.2.0 t.2.1.0 t.2.1.1
    where
      parts : (token rest : List ℕ) → Without 32 token → BeginsField rest → bytes ≡ token ++ rest → Told (TextOf (both P Q) (in_turn f g) bytes)
      parts token rest w b e =
          same_told (TextOf P f token × TextOf Q g rest) (TextOf (both P Q) (in_turn f g) bytes) (λ p. ((p.0.0, p.1.0), ((p.0.1.0, p.1.1.0), e ∙ ap₂ (λ (l m : List ℕ). l ++ m) p.0.1.1 p.1.1.1)))
          (λ a. let same = parts_unique token (f a.0.0) rest (g a.0.1) w (plain a.0.0 a.1.0.0) b (begins a.0.1 a.1.0.1) (sym e ∙ a.1.1) in ((a.0.0, (a.1.0.0, same.0)), (a.0.1, (a.1.0.1, same.1))))
          (both_told (TextOf P f token) (TextOf Q g rest) (tell token) (other rest))

-- a number after a space, and what follows it; the last one; two
module _ (P : ℕ → Type 0) (wide : (n : ℕ) → P n → IsWide n) (test : (n : ℕ) → Told (P n)) where
  pub field_told : {B : Type 0} (Q : B → Type 0) (g : B → List ℕ) → ((b : B) → Q b → BeginsField (g b)) → Tells Q g → Tells (both P Q) (field_then g)
  unfolding field_text
  field_told {B} Q g begins tell = behind_told (both P Q) (in_turn decimal g) (codes " ") (token_told P decimal (λ n p. decimal_token n (wide n p)) Q g begins (decimal_told P wide test) tell)

  pub last_told : Tells P field_text
  unfolding field_text
  last_told = behind_told P decimal (codes " ") (decimal_told P wide test)

  pub pair_told : Tells (both P P) pair_text
  pair_told = field_told P field_text (λ n _. last_begins n) last_told

-- ---- lines

pub words_told : (word : List ℕ) → Tells AreWords (behind word pair_text)
words_told word = behind_told AreWords pair_text word (pair_told IsWord word_wide word_told)

test_told : (b : Bool) → Told (IsTrue b)
test_told b = elim (cases_Bool b) [ inl holds ↦ inl holds | inr fails ↦ inr (λ holds. false≢true (sym fails ∙ holds)) ]

pub size_told : Tells IsRasterSize size_line
size_told = narrow_told AreWords IsRasterSize size_line (words_unique (codes "size")) size_words (λ s _. test_told (is_tiled_size s.0 s.1)) (words_told (codes "size"))

pub whole_size_told : Tells IsWholeSize size_line
whole_size_told = narrow_told AreWords IsWholeSize size_line (words_unique (codes "size")) whole_words (λ s _. test_told (is_raster_size s.0 s.1)) (words_told (codes "size"))

pub rule_told : Tells IsAnyRule rule_line
rule_told line = elim (bytes_told line (rule_line Least)) [
  | inl e ↦ inl (Least, (tt, e))
  | inr least ↦ elim (bytes_told line (rule_line Mean)) [
    | inl e ↦ inl (Mean, (tt, e))
    | inr mean ↦ elim (bytes_told line (rule_line Product)) [ inl e ↦ inl (Product, (tt, e)) | inr product ↦ inr (λ a. none least mean product a.0 a.1.1) ]
  ]
]
  where
    none : (line ≡ rule_line Least → ⊥) → (line ≡ rule_line Mean → ⊥) → (line ≡ rule_line Product → ⊥) → (rule : RuleKind) → line ≡ rule_line rule → ⊥
    none least mean product Least e = least e
    none least mean product Mean e = mean e
    none least mean product Product e = product e

slope_test : (n : ℤ) → Told (IsSlope n)
slope_test (pos n) = elim (cases_lt n 32768) [ inl lt ↦ inl (omega (arith, ints), omega (arith, ints, lt)) | inr ge ↦ inr (λ s. let high = s.1 in omega (arith, ints, ge, high)) ]
slope_test (negsuc n) = elim (cases_lt n 32768) [ inl lt ↦ inl (omega (arith, ints, lt), omega (arith, ints)) | inr ge ↦ inr (λ s. let low = s.0 in omega (arith, ints, ge, low)) ]

slopes_told : Tells IsSlope signed_decimal
slopes_told = signed_told IsSlope slope_long slope_test

pub ramp_told : Tells IsRamp ramp_line
unfolding number_text
ramp_told =
    let second = behind_told IsSlope signed_decimal (codes " ") slopes_told in
    let both_of = token_told IsSlope signed_decimal (λ n s. signed_without 32 (omega arith) n (slope_long n s)) IsSlope number_text (λ n _. inr (signed_decimal n, refl)) slopes_told second in
    behind_told IsRamp (in_turn number_text number_text) (codes "ramp") (behind_told IsRamp (in_turn signed_decimal number_text) (codes " ") both_of)

pub steep_told : Tells IsSteepness steep_line
steep_told = behind_told IsSteepness field_text (codes "steep") (last_told IsSteepness (λ n s. let high = s.1 in omega (arith, high)) (range_told 1 16))

pub known_told : {A : Type 0} (text : List ℕ) → A → Tells IsAnyRule (known_line {A = A} text)
known_told {A} text a line = same_told (line ≡ text) (TextOf IsAnyRule (known_line {A = A} text) line) (λ e. (a, (tt, e))) (λ b. b.1.1) (bytes_told line text)
