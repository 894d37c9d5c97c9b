-- What readers of a line say of its parts they say of the line.
use Rattle.std.proofs.Common.{◌≡◌, ℕ, false, List, ◌++◌, Option, Some, None, sym, ap, ◌∙◌, ℤ, Bool, true, [], subst, arith}
use Rattle.std.specs.Prelude.{◌≤◌, IfNone, IfSome, codes, decimal, MatchBool, is_some, not}
use Rattle.std.proofs.lemmas.Bool.{false≢true}
use Rattle.raster_model.specs.Limits.{is_raster_size, is_tiled_size}
use Rattle.text_lines.specs.Numbers.{AreLongs, numbers_text}
use Rattle.text_lines.specs.Parsing.{AreWords, IsParsedAs}
use Rattle.text_parts.specs.Parts.{IsRasterSize, IsWholeSize}
use Rattle.text_parts.specs.Text.{size_line}
use Rattle.text_parts.proofs.UniqueLemmas.{whole_size_unique, words_unique}
use Rattle.text_parts.proofs.LineLemmas.{tiled_whole, whole_words}

-- a number of a range behind a label
pub labelled : (MayStand : ℕ → Type 0) (text : ℕ → List ℕ) (label line : List ℕ) (least most : ℕ) → ((n : ℕ) → MayStand n → (least ≤ n) × (n ≤ most)) → ((n : ℕ) → least ≤ n → n ≤ most → MayStand n) → ((n : ℕ) → text n ≡ label ++ decimal n)
    → (o : Option ℕ) → IfSome o (λ n. (least ≤ n) × (n ≤ most)) → IfSome o (λ n. line ≡ label ++ decimal n) → IfNone o ((n : ℕ) → least ≤ n → n ≤ most → line ≡ label ++ decimal n → ⊥) → IsParsedAs MayStand text line o
labelled MayStand text label line least most small may spelled (Some n) w f none = (may n w.0 w.1, f ∙ sym (spelled n))
labelled MayStand text label line least most small may spelled None w f none = λ n m e. none n (small n m).0 (small n m).1 (e ∙ spelled n)

pub no_whole : (line : List ℕ) (s t : ℕ × ℕ) → AreWords s × (line ≡ size_line s) → is_raster_size s.0 s.1 ≡ false → IsWholeSize t → line ≡ size_line t → ⊥
no_whole line s t f other z e = let p = words_unique (codes "size") s t f.0 (whole_words t z) (sym f.1 ∙ e) in false≢true (sym other ∙ ap (λ (q : ℕ × ℕ). is_raster_size q.0 q.1) p ∙ z)

pub other_size : (line : List ℕ) (s t : ℕ × ℕ) → IsWholeSize s × (line ≡ size_line s) → is_tiled_size s.0 s.1 ≡ false → IsRasterSize t → line ≡ size_line t → ⊥
other_size line s t f other z e = let p = whole_size_unique s t f.0 (tiled_whole t z) (sym f.1 ∙ e) in false≢true (sym other ∙ ap (λ (q : ℕ × ℕ). is_tiled_size q.0 q.1) p ∙ z)

pub numbers_found : (b : Bool) (old new : List ℤ) (bytes : List ℕ) → b ≡ true → old ≡ [] → MatchBool b ((more : List ℤ) × ((new ≡ old ++ more) × ((bytes ≡ numbers_text more) × AreLongs more))) ((more : List ℤ) → AreLongs more → bytes ≡ numbers_text more → ⊥) → AreLongs new × (bytes ≡ numbers_text new)
numbers_found true old new bytes e f h = let same = h.1.0 ∙ ap (λ (l : List ℤ). l ++ h.0) f in (subst AreLongs (sym same) h.1.1.1, h.1.1.0 ∙ ap numbers_text (sym same))
numbers_found false old new bytes e f h = absurd (let q : false ≡ true = e in cc)

pub not_none : {A : Type 0} (o : Option A) (b : Bool) → is_some o ≡ not b → b ≡ false → o ≡ None → ⊥
not_none o b e f g = grind arith
