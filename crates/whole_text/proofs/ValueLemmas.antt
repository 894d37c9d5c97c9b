-- The values of a surface, and the lines of its rows.
use Rattle.std.proofs.Common.{◌≡◌, ◌∙◌, ℕ, suc, ◌+◌, ◌<◌, ◌≤◌, ℤ, List, [], ◌∷◌, ◌++◌, length, sym, ap, append_assoc, arith, inl, inr}
use Rattle.std.specs.Prelude.{◌^◌, Bool, pos, ◌+ℤ◌, ◌*ℤ◌, unsigned_abs}
use Rattle.std.specs.Fmt.{signed_decimal}
use Rattle.std.proofs.lemmas.Bool.{cases_Bool}
use Rattle.std.proofs.lemmas.Int.{fits_signed_from_abs, ints}
use mir.Syntax.{w64}
use Rattle.raster_model.specs.Raster.{Raster}
use Rattle.raster_model.specs.Sums.{Field}
use Rattle.grid_writer.specs.Fits.{HasPhases}
use Rattle.grid_writer.specs.Grids.{AreLong}
use Rattle.grid_writer.specs.Values.{no_data}
use Rattle.whole_text.specs.Told.{AreFewCycles, value_above}
use Rattle.std.proofs.lemmas.List.{append-nil}
use Rattle.std.proofs.lemmas.Grind.{flat_map-append}
use Rattle.text_lines.specs.Adding.{Adds, View}
use Rattle.text_lines.proofs.AddLemmas.{adds_then}
use Rattle.text_lines.proofs.ChainLemmas.{adds_is}
use Rattle.text_lines.specs.Numbers.{FitsLong, number_text, numbers_line, numbers_text}
use Rattle.grid_writer.specs.Grid.{values_below}
use Rattle.grid_writer.proofs.ValueLemmas.{length_values}

-- a number after a row that is not empty
line_push : (row : List ℤ) (n : ℤ) → 0 < length row → numbers_line (row ++ n ∷ []) ≡ numbers_line row ++ number_text n
line_push [] n some = absurd (omega (arith, some))
line_push (m ∷ row) n some =
    ap (λ (l : List ℕ). signed_decimal m ++ l) (flat_map-append number_text row (n ∷ []) ∙ ap (λ (l : List ℕ). numbers_text row ++ l) (append-nil (number_text n)))
    ∙ sym (append_assoc (signed_decimal m) (numbers_text row) (number_text n))

-- the first value of a row, and the next one
pub line_first : (f : ℕ → ℤ) → signed_decimal (f 0) ≡ numbers_line (values_below 1 f)
unfolding values_below
line_first f = sym (append-nil (signed_decimal (f 0)))

pub line_more : (f : ℕ → ℤ) (x : ℕ) → 1 ≤ x → numbers_line (values_below x f) ++ number_text (f x) ≡ numbers_line (values_below (x + 1) f)
unfolding values_below
line_more f x some =
    let e : x + 1 ≡ suc x = omega arith in
    rw e (sym (line_push (values_below x f) (f x) (omega (arith, some, length_values x f))))

pub adds_first : {v w : View} (f : ℕ → ℤ) (n : ℤ) → n ≡ f 0 → Adds v w (signed_decimal n) → Adds v w (numbers_line (values_below 1 f))
adds_first f n e p = adds_is p (sym (ap signed_decimal e ∙ line_first f))

pub adds_value : {v m w : View} (f : ℕ → ℤ) (x : ℕ) (n : ℤ) → 1 ≤ x → n ≡ f x → Adds v m (numbers_line (values_below x f)) → Adds m w (number_text n) → Adds v w (numbers_line (values_below (x + 1) f))
adds_value f x n some e p q = adds_is (adds_then p q) (sym (ap (λ (z : ℤ). numbers_line (values_below x f) ++ number_text z) e ∙ line_more f x some))

-- so few cycles above phases give numbers of 64 bits
long_above : (p : ℕ) (c : ℤ) → p < 65536 → unsigned_abs c < 2 ^ 47 → FitsLong (pos p +ℤ pos 65536 *ℤ c)
long_above p c small few = fits_signed_from_abs w64 (pos p +ℤ pos 65536 *ℤ c) (omega (arith, ints, small, few))

masked_long : FitsLong no_data
masked_long = record { sfits = omega arith }

pub above_long : (r : Raster) (mask : Field Bool) (cycles : Field ℤ) → HasPhases r → AreFewCycles r mask cycles → AreLong r.width r.height (value_above r mask cycles)
above_long r mask cycles phases few x y lx ly = elim (cases_Bool (mask x y)) [
  | inl o ↦ rw o (long_above (r.phase x y) (cycles x y) (phases x y) (few x y lx ly o))
  | inr m ↦ rw m masked_long
]
