-- No two lines of a kind that tell different things have one text.
use Rattle.std.proofs.Common.{◌≡◌, ℕ, ℤ, List, ◌∷◌, ◌++◌, get_or, drop, inr, refl, ap, ap₂, arith, ◌∙◌}
use Rattle.std.specs.Prelude.{codes, ℕ}
use Rattle.std.proofs.lemmas.List.{append_cancel_left}
use Rattle.std.specs.Fmt.{signed_decimal}
use Rattle.std.proofs.lemmas.Fmt.{signed_decimal_injective}
use Rattle.text_lines.specs.Numbers.{BeginsField, number_text}
use Rattle.raster_model.specs.Limits.{IsSlope, IsSteepness}
use Rattle.raster_model.specs.declared.weights.RuleKind.{RuleKind}
use Rattle.raster_model.specs.declared.weights.RuleKind.TheVariants.{Least, Mean, Product}
use Rattle.text_parts.specs.Parts.{IsRamp, IsRasterSize, IsWholeSize}
use Rattle.text_parts.specs.Text.{ramp_line, rule_line, size_line, steep_line}
use Rattle.text_lines.specs.Parsing.{AreWords}
use Rattle.text_lines.specs.Text.{field_text}
use Rattle.text_lines.proofs.FieldLemmas.{last_unique, pair_unique, word_wide}
use Rattle.text_lines.proofs.FormLemmas.{Without}
use Rattle.text_lines.proofs.NumberLemmas.{magnitude, parts_unique, signed_without}
use Rattle.text_parts.proofs.LineLemmas.{slope_long, tiled_whole, whole_words}
use Rattle.text_parts.specs.Terms.{TermsOf}

-- two numbers of 32 bits behind a word
pub words_unique : (word : List ℕ) (p q : ℕ × ℕ) → AreWords p → AreWords q → word ++ (field_text p.0 ++ field_text p.1) ≡ word ++ (field_text q.0 ++ field_text q.1) → p ≡ q
words_unique word p q a b e = let s = pair_unique p.0 p.1 q.0 q.1 (word_wide p.0 a.0) (word_wide p.1 a.1) (word_wide q.0 b.0) (word_wide q.1 b.1) (append_cancel_left word _ _ e) in ap₂ (λ (m n : ℕ). (m, n)) s.0 s.1

pub whole_size_unique : (s t : ℕ × ℕ) → IsWholeSize s → IsWholeSize t → size_line s ≡ size_line t → s ≡ t
whole_size_unique s t a b e = words_unique (codes "size") s t (whole_words s a) (whole_words t b) e

pub size_unique : (s t : ℕ × ℕ) → IsRasterSize s → IsRasterSize t → size_line s ≡ size_line t → s ≡ t
size_unique s t a b e = whole_size_unique s t (tiled_whole s a) (tiled_whole t b) e

pub steep_unique : (m n : ℕ) → IsSteepness m → IsSteepness n → steep_line m ≡ steep_line n → m ≡ n
steep_unique m n a b e = last_unique m n (omega (arith, a.1)) (omega (arith, b.1)) (append_cancel_left (codes "steep") (field_text m) (field_text n) e)

-- the slopes behind the word of a ramp: the first up to a space, and the rest
pub ramp_parts : (token after : List ℕ) (ramp : ℤ × ℤ) → IsRamp ramp → Without 32 token → BeginsField after → 32 ∷ (token ++ after) ≡ number_text ramp.0 ++ number_text ramp.1 → (token ≡ signed_decimal ramp.0) × (after ≡ number_text ramp.1)
unfolding number_text
ramp_parts token after ramp r t b e = parts_unique token (signed_decimal ramp.0) after (number_text ramp.1) t (signed_without 32 (omega arith) ramp.0 (slope_long ramp.0 r.0)) b (inr (signed_decimal ramp.1, refl)) (ap (λ (l : List ℕ). drop 1 l) e)

pub slope_unique : (m n : ℤ) → IsSlope m → IsSlope n → signed_decimal m ≡ signed_decimal n → m ≡ n
slope_unique m n a b e = signed_decimal_injective m n (magnitude m (slope_long m a)) (magnitude n (slope_long n b)) e

pub ramp_unique : (p q : ℤ × ℤ) → IsRamp p → IsRamp q → ramp_line p ≡ ramp_line q → p ≡ q
unfolding number_text
ramp_unique p q a b e =
    let s = ramp_parts (signed_decimal p.0) (number_text p.1) q b (signed_without 32 (omega arith) p.0 (slope_long p.0 a.0)) (inr (signed_decimal p.1, refl)) (append_cancel_left (codes "ramp") _ _ e) in
    ap₂ (λ (m n : ℤ). (m, n)) (slope_unique p.0 q.0 a.0 b.0 s.0) (slope_unique p.1 q.1 a.1 b.1 (ap (λ (l : List ℕ). drop 1 l) s.1))

abbrev pub sixth : List ℕ → ℕ
sixth text = get_or text 5 0

pub rule_unique : (p q : RuleKind) → rule_line p ≡ rule_line q → p ≡ q
rule_unique Least Least e = refl
rule_unique Mean Mean e = refl
rule_unique Product Product e = refl
rule_unique p q e = absurd (let f : sixth (rule_line p) ≡ sixth (rule_line q) = ap sixth e in omega (arith, f))

pub same_terms : (t u : TermsOf) → t.ramp_x ≡ u.ramp_x → t.ramp_y ≡ u.ramp_y → t.steep ≡ u.steep → t ≡ u
same_terms t u e f g =
    ap (λ (x : ℤ). let r : TermsOf = record { ramp_x = x; ramp_y = t.ramp_y; steep = t.steep } in r) e
    ∙ ap (λ (y : ℤ). let r : TermsOf = record { ramp_x = u.ramp_x; ramp_y = y; steep = t.steep } in r) f
    ∙ ap (λ (n : ℕ). let r : TermsOf = record { ramp_x = u.ramp_x; ramp_y = u.ramp_y; steep = n } in r) g
