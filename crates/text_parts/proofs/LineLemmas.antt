-- Lines have no line feed in them, and the short ones are short.
use Rattle.std.proofs.Common.{◌≡◌, ℕ, ◌+◌, ◌≤◌, Bool, true, not, eqb, IsTrue, List, [], ◌∷◌, ◌++◌, length, decimal, refl, arith, of_z, to_z}
use Rattle.std.specs.Prelude.{ℤ, pos, negsuc, FitsSigned, codes}
use Rattle.std.specs.List.{list_all}
use Rattle.std.proofs.lemmas.Bool.{and_parts, eqb-false, not-true}
use Rattle.std.proofs.lemmas.Bool.Decides.{nat_tests}
use Rattle.std.proofs.lemmas.Fmt.{length-decimal-le_wide, length_signed_le}
use Rattle.std.proofs.lemmas.Int.{fits_signed_from_abs, ints, to_z-of_z}
use Rattle.std.proofs.lemmas.List.{length-append}
use Rattle.insar_ports.specs.Lines.{IsInLine}
use mir.Syntax.{w16, w32, w64}
use Rattle.raster_model.specs.Limits.{is_raster_size, is_tiled_size, IsSlope, IsSteepness}
use Rattle.raster_model.specs.declared.weights.RuleKind.{RuleKind}
use Rattle.raster_model.specs.declared.weights.RuleKind.TheVariants.{Least}
use Rattle.grid_writer.proofs.SizeLemmas.{tiled_is_raster}
use Rattle.text_lines.specs.Numbers.{FitsLong, number_text}
use Rattle.text_lines.specs.Parsing.{AreWords, IsWide, IsWord}
use Rattle.text_lines.specs.Text.{field_text}
use Rattle.text_lines.proofs.FieldLemmas.{IsDigit, all_both, all_weaker, decimal_digits, is_printed, word_wide}
use Rattle.text_lines.proofs.FormLemmas.{InLine}
use Rattle.text_lines.proofs.NumberLemmas.{magnitude, number_in_line}
use Rattle.text_parts.specs.Parts.{IsRamp, IsRasterSize, IsWholeSize}
use Rattle.text_parts.specs.Text.{ramp_line, rule_line, size_line, steep_line}

-- bytes without a line feed, at most so many
pub record Fits (most : ℕ) (text : List ℕ) : Type 0 where
  pub inside : InLine text
  pub short : length text ≤ most

pub fits_both : {m n : ℕ} {x y : List ℕ} → Fits m x → Fits n y → Fits (m + n) (x ++ y)
fits_both {m} {n} {x} {y} a b = record { inside = all_both IsInLine x y a.inside b.inside; short = omega (arith, length-append x y, a.short, b.short) }

pub fits_more : {m n : ℕ} {x : List ℕ} → Fits m x → m ≤ n → Fits n x
fits_more a le = record { inside = a.inside; short = omega (arith, a.short, le) }

abbrev pub is_in_line : ℕ → Bool
is_in_line byte = not (eqb byte 10)

pub word_in_line : (bytes : List ℕ) → list_all is_in_line bytes ≡ true → InLine bytes
word_in_line [] a = tt
word_in_line (b ∷ bytes) a =
    let p = and_parts (is_in_line b) (list_all is_in_line bytes) a in
    (eqb-false b 10 (not-true (eqb b 10) p.0), word_in_line bytes p.1)

pub word_fits : (word : List ℕ) → list_all is_in_line word ≡ true → Fits (length word) word
word_fits word a = record { inside = word_in_line word a; short = omega arith }

pub digit_in_line : (byte : ℕ) → IsDigit byte → IsInLine byte
digit_in_line byte d e = omega (arith, d.0, e)

pub field_in_line : (n : ℕ) → IsWide n → InLine (field_text n)
unfolding field_text
field_in_line n lt = ((λ e. omega (arith, e)), all_weaker IsDigit IsInLine digit_in_line (decimal n) (decimal_digits n lt))

pub wide_fits : (n : ℕ) → IsWide n → Fits 40 (field_text n)
unfolding field_text
wide_fits n lt = record { inside = field_in_line n lt; short = omega (arith, length-decimal-le_wide 39 n (omega arith) (omega (arith, lt)) (is_printed n lt)) }

pub field_fits : (n : ℕ) → IsWord n → Fits 11 (field_text n)
unfolding field_text
field_fits n lt = record { inside = field_in_line n (word_wide n lt); short = omega (arith, length-decimal-le_wide 10 n (omega arith) (omega (arith, lt)) (is_printed n (word_wide n lt))) }

pub pair_fits : (m n : ℕ) → IsWord m → IsWord n → Fits 22 (field_text m ++ field_text n)
pair_fits m n a b = fits_both (field_fits m a) (field_fits n b)

-- a slope fits 64 bits with its sign, and 16, and so 32
pub slope_long : (n : ℤ) → IsSlope n → FitsLong n
slope_long n s = fits_signed_from_abs w64 n (omega (arith, ints, s.0, s.1))

pub slope_short : (n : ℤ) → IsSlope n → FitsSigned w16 n
slope_short (pos n) s = record { sfits = omega (arith, ints, s.1) }
slope_short (negsuc n) s = record { sfits = omega (arith, ints, s.0) }

pub slope_is : (n : ℤ) → IsSlope n → to_z w32 (of_z w32 n) ≡ n
slope_is n s = to_z-of_z w32 n (fits_signed_from_abs w32 n (omega (arith, ints, s.0, s.1)))

pub rule_fits : (r : RuleKind) → Fits 128 (rule_line r)
rule_fits Least = record { inside = word_in_line (rule_line Least) refl; short = omega arith }
rule_fits r = record { inside = word_in_line (rule_line r) refl; short = omega arith }

-- a size within the limits is of small numbers
pub size_parts : (w h : ℕ) → IsTrue (is_tiled_size w h) → (w ≤ 4096) × (h ≤ 4096)
size_parts w h z = (grind (arith, nat_tests), grind (arith, nat_tests))

pub whole_parts : (w h : ℕ) → IsTrue (is_raster_size w h) → (w ≤ 65535) × (h ≤ 65535)
whole_parts w h z = (grind (arith, nat_tests), grind (arith, nat_tests))

pub whole_words : (s : ℕ × ℕ) → IsWholeSize s → AreWords s
whole_words s z = let p = whole_parts s.0 s.1 z in let a = p.0 in let b = p.1 in (omega (arith, a), omega (arith, b))

pub tiled_whole : (s : ℕ × ℕ) → IsRasterSize s → IsWholeSize s
tiled_whole s z = tiled_is_raster s.0 s.1 z

pub size_words : (s : ℕ × ℕ) → IsRasterSize s → AreWords s
size_words s z = whole_words s (tiled_whole s z)

pub whole_size_fits : (s : ℕ × ℕ) → IsWholeSize s → Fits 128 (size_line s)
whole_size_fits s z = let w = whole_words s z in fits_more (fits_both (word_fits (codes "size") refl) (pair_fits s.0 s.1 w.0 w.1)) (omega arith)

pub size_fits : (s : ℕ × ℕ) → IsRasterSize s → Fits 128 (size_line s)
size_fits s z = whole_size_fits s (tiled_whole s z)

pub slope_fits : (n : ℤ) → IsSlope n → Fits 21 (number_text n)
unfolding number_text
slope_fits n s =
    let small = magnitude n (slope_long n s) in
    record { inside = ((λ e. omega (arith, e)), number_in_line n (slope_long n s)); short = omega (arith, length_signed_le 19 n (omega (arith, small)) small) }

pub ramp_fits : (ramp : ℤ × ℤ) → IsRamp ramp → Fits 128 (ramp_line ramp)
ramp_fits ramp r = fits_more (fits_both (word_fits (codes "ramp") refl) (fits_both (slope_fits ramp.0 r.0) (slope_fits ramp.1 r.1))) (omega arith)

pub steep_fits : (steep : ℕ) → IsSteepness steep → Fits 128 (steep_line steep)
steep_fits steep s = fits_more (fits_both (word_fits (codes "steep") refl) (field_fits steep (omega (arith, s.1)))) (omega arith)
