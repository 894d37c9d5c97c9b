-- Fields of a line: numbers after a space, told apart by their text.
use Rattle.std.proofs.Common.{◌≡◌, ℕ, ◌<◌, ◌^◌, List, [], ◌∷◌, ◌++◌, drop, decimal, inr, refl, sym, ap, ◌∙◌, arith}
use Rattle.std.specs.Prelude.{◌≢◌}
use Rattle.std.specs.Int.{IsInRange}
use Rattle.std.specs.List.{AllByRecursion}
use Rattle.std.specs.Str.Parse.{AllDigits, digits_value}
use Rattle.std.proofs.lemmas.Fmt.{decimal_is_IsNumeral_wide}
use Rattle.std.proofs.lemmas.Str.Parse.{digit_from_value}
use Rattle.raster_model.specs.declared.script.Rect.{Rect}
use Rattle.text_lines.specs.Numbers.{BeginsField}
use Rattle.text_lines.specs.Parsing.{IsRectOfWords, IsWide, IsWord}
use Rattle.text_lines.specs.Text.{field_text, rect_text}
use Rattle.text_lines.proofs.NumberLemmas.{parts_unique, wide_without}

abbrev pub IsNoSpace : ℕ → Type 0
IsNoSpace byte = byte ≢ 32

abbrev pub IsDigit : ℕ → Type 0
IsDigit byte = IsInRange 48 57 byte

pub all_weaker : (P Q : ℕ → Type 0) → ((byte : ℕ) → P byte → Q byte) → (bytes : List ℕ) → AllByRecursion P bytes → AllByRecursion Q bytes
all_weaker P Q f [] a = tt
all_weaker P Q f (b ∷ bytes) a = (f b a.0, all_weaker P Q f bytes a.1)

pub all_both : (P : ℕ → Type 0) (xs ys : List ℕ) → AllByRecursion P xs → AllByRecursion P ys → AllByRecursion P (xs ++ ys)
all_both P [] ys a b = b
all_both P (x ∷ xs) ys a b = (a.0, all_both P xs ys a.1 b)

pub is_printed : (n : ℕ) → IsWide n → n < 10 ^ 64
is_printed n lt = omega arith

digits_stand : (ds : List ℕ) → AllDigits 10 ds → AllByRecursion IsDigit ds
digits_stand [] a = tt
digits_stand (d ∷ ds) a = (digit_from_value d a.0, digits_stand ds a.1)

pub decimal_digits : (n : ℕ) → IsWide n → AllByRecursion IsDigit (decimal n)
decimal_digits n lt = digits_stand (decimal n) (decimal_is_IsNumeral_wide n (is_printed n lt)).0.1

pub decimal_token : (n : ℕ) → IsWide n → AllByRecursion IsNoSpace (decimal n)
decimal_token = wide_without 32 (omega arith)

pub decimal_unique : (m n : ℕ) → IsWide m → IsWide n → decimal m ≡ decimal n → m ≡ n
decimal_unique m n a b e = sym (decimal_is_IsNumeral_wide m (is_printed m a)).1 ∙ ap (digits_value 10) e ∙ (decimal_is_IsNumeral_wide n (is_printed n b)).1

-- ---- fields

pub field_begins : (n : ℕ) (rest : List ℕ) → BeginsField (field_text n ++ rest)
unfolding field_text
field_begins n rest = inr (decimal n ++ rest, refl)

pub last_begins : (n : ℕ) → BeginsField (field_text n)
unfolding field_text
last_begins n = inr (decimal n, refl)

pub field_unique : (m n : ℕ) (r s : List ℕ) → IsWide m → IsWide n → BeginsField r → BeginsField s → field_text m ++ r ≡ field_text n ++ s → (m ≡ n) × (r ≡ s)
unfolding field_text
field_unique m n r s a b f g e =
    let tail : decimal m ++ r ≡ decimal n ++ s = ap (λ (t : List ℕ). drop 1 t) e in
    let p = parts_unique (decimal m) (decimal n) r s (decimal_token m a) (decimal_token n b) f g tail in
    (decimal_unique m n a b p.0, p.1)

pub last_unique : (m n : ℕ) → IsWide m → IsWide n → field_text m ≡ field_text n → m ≡ n
unfolding field_text
last_unique m n a b e = decimal_unique m n a b (ap (λ (t : List ℕ). drop 1 t) e)

pub word_wide : (n : ℕ) → IsWord n → IsWide n
word_wide n lt = omega arith

pub pair_unique : (m n k l : ℕ) → IsWide m → IsWide n → IsWide k → IsWide l → field_text m ++ field_text n ≡ field_text k ++ field_text l → (m ≡ k) × (n ≡ l)
pair_unique m n k l a b c d e =
    let p = field_unique m k (field_text n) (field_text l) a c (last_begins n) (last_begins l) e in
    (p.0, last_unique n l b d p.1)

abbrev pub rect_by : ℕ → ℕ → ℕ → ℕ → Rect
rect_by x0 y0 x1 y1 = record { x0 = x0; y0 = y0; x1 = x1; y1 = y1 }

corners_same : (x0 y0 x1 y1 u0 v0 u1 v1 : ℕ) → x0 ≡ u0 → y0 ≡ v0 → (x1 ≡ u1) × (y1 ≡ v1) → rect_by x0 y0 x1 y1 ≡ rect_by u0 v0 u1 v1
corners_same x0 y0 x1 y1 u0 v0 u1 v1 a b c = rw (a, b, c.0, c.1) refl

pub rect_unique : (q r : Rect) → IsRectOfWords q → IsRectOfWords r → rect_text q ≡ rect_text r → q ≡ r
unfolding rect_text
rect_unique q r a b e =
    let first = field_unique q.x0 r.x0 (field_text q.y0 ++ (field_text q.x1 ++ field_text q.y1)) (field_text r.y0 ++ (field_text r.x1 ++ field_text r.y1)) (word_wide q.x0 a.x0) (word_wide r.x0 b.x0) (field_begins q.y0 (field_text q.x1 ++ field_text q.y1)) (field_begins r.y0 (field_text r.x1 ++ field_text r.y1)) e in
    let second = field_unique q.y0 r.y0 (field_text q.x1 ++ field_text q.y1) (field_text r.x1 ++ field_text r.y1) (word_wide q.y0 a.y0) (word_wide r.y0 b.y0) (field_begins q.x1 (field_text q.y1)) (field_begins r.x1 (field_text r.y1)) first.1 in
    corners_same q.x0 q.y0 q.x1 q.y1 r.x0 r.y0 r.x1 r.y1 first.0 second.0 (pair_unique q.x1 q.y1 r.x1 r.y1 (word_wide q.x1 a.x1) (word_wide q.y1 a.y1) (word_wide r.x1 b.x1) (word_wide r.y1 b.y1) second.1)
