-- Wrapped differences of pairs of phases, set row by row, are those of a window's edges.
use Rattle.std.proofs.Common.{◌≡◌, ℕ, subst, ◌+◌, ◌-◌, ◌*◌, ◌/◌, ◌%◌, ◌<◌, ◌≤◌, ◌∙◌, inl, inr, sym, ap, arith, List, length, set, take, drop, ◌++◌, to_z, of_z, w16, w32, SFits}
use Rattle.std.specs.Prelude.{ℤ, pos, ◌+ℤ◌, ◌-ℤ◌, slice_index, slice_index_or}
use Rattle.std.specs.List.{between}
use Rattle.std.proofs.lemmas.Bool.{cases_eq, cases_lt}
use Rattle.std.proofs.lemmas.Int.{ints}
use Rattle.std.proofs.lemmas.List.{get_or-set_same, get_or-set_other, length-set, take_at}
use Rattle.std.proofs.lemmas.List.Edits.{get_or-between, length-between}
use Rattle.raster_model.specs.declared.sheet.Sheet.{Sheet}
use Rattle.raster_model.specs.Limits.{IsSlope}
use Rattle.raster_model.specs.Phase.{wrapped_by}
use Rattle.raster_model.specs.Sheets.{sheet_raster}
use Rattle.raster_model.specs.Sums.{Field}
use Rattle.wrapped_gradient.specs.Rows.{AreDifferences, of_right_edges, of_down_edges}
use Rattle.wrapped_gradient.proofs.Places.{field_at}

-- one difference more
pub differences_next : (slope : ℤ) (from to : List ℕ) (s n : ℕ) (z : ℤ) (old new : List ℤ) → s + n < length new → z ≡ wrapped_by slope (slice_index from n) (slice_index to n) -ℤ slope → AreDifferences slope from to s n old new → AreDifferences slope from to s (n + 1) old (set new (s + n) z)
differences_next slope from to s n z old new l e h = record {
  count = length-set new (s + n) z ∙ h.count;
  before = λ k m. get_or-set_other new (s + n) k z (pos 0) (λ q. omega (arith, q, m)) ∙ h.before k m;
  values = λ k m. (
      elim (cases_eq k n) [
        | inl q ↦ rw q (get_or-set_same new (s + n) z (pos 0) l ∙ e)
        | inr q ↦ get_or-set_other new (s + n) (s + k) z (pos 0) (λ p. q (omega (arith, p))) ∙ h.values k (omega (arith, q, m))
      ]);
}

-- the list that a part of all of it was written back to
pub written_back : (n : ℕ) (new old : List ℤ) → n ≡ length new → take n (new ++ drop (length new) old) ≡ new
written_back n new old e = take_at new (drop (length new) old) n (sym e)

-- a list has the first n values in row order of a box that begins at (x0, y0) and has s columns
abbrev pub AreTold : Field ℤ → ℕ → ℕ → ℕ → ℕ → List ℤ → Type 0
AreTold f x0 y0 s n zs = (k : ℕ) → k < n → slice_index_or zs k (pos 0) ≡ f (x0 + k % s) (y0 + k / s)

pub told_none : (f : Field ℤ) (x0 y0 s d : ℕ) (zs : List ℤ) → d ≡ 0 → AreTold f x0 y0 s (d * s) zs
told_none f x0 y0 s d zs e k l =
    let m : k < 0 * s = rw e at l in
    absurd (omega (arith, m))

-- row a of the box was set behind the rows before it
row_told : (f : Field ℤ) (slope : ℤ) (from to : List ℕ) (x0 y0 s n a : ℕ) (old new : List ℤ) → n ≡ s → ((b : ℕ) → b < s → wrapped_by slope (slice_index from b) (slice_index to b) -ℤ slope ≡ f (x0 + b) (y0 + a)) → AreDifferences slope from to (a * s) n old new → AreTold f x0 y0 s (a * s) old → AreTold f x0 y0 s ((a + 1) * s) new
row_told f slope from to x0 y0 s n a old new whole e set_ h k l =
    elim (cases_lt k (a * s)) [
      | inl m ↦ set_.before k m ∙ h k m
      | inr m ↦
          let within : k - a * s < s = omega (arith, m, l) in
          let back : a * s + (k - a * s) ≡ k = omega (arith, m) in
          ap (λ (i : ℕ). slice_index_or new i (pos 0)) (sym back) ∙ set_.values (k - a * s) (omega (arith, within, whole)) ∙ e (k - a * s) within ∙ sym (field_at f s x0 y0 a (k - a * s) within)
          ∙ ap (λ (i : ℕ). f (x0 + i % s) (y0 + i / s)) back
    ]

-- a phase in a part of the samples
phase_in : (samples items : List ℕ) (i j n b : ℕ) → samples ≡ items → b < n → i + b ≡ j → slice_index (between i (i + n) samples) b ≡ slice_index items j
phase_in samples items i j n b e l place = get_or-between samples i (i + n) b 0 (omega (arith, l)) ∙ ap (λ (xs : List ℕ). slice_index xs (i + b)) e ∙ ap (λ (k : ℕ). slice_index items k) place

same_difference : {t u : ℤ} {p q a b : ℕ} → t ≡ u → p ≡ a → q ≡ b → wrapped_by t p q -ℤ t ≡ wrapped_by u a b -ℤ u
same_difference d e f = cc

-- a slope at 32 bits
pub slope_plain : (slope : ℤ) → IsSlope slope → to_z w32 (of_z w32 slope) ≡ slope
slope_plain slope h = omega (arith, ints, h.0, h.1)

-- and with a number of 16 bits
pub held_plain : (slope d z : ℤ) → IsSlope slope → SFits w16 d → z ≡ d → to_z w32 (of_z w32 (to_z w32 (of_z w32 slope) +ℤ z)) ≡ slope +ℤ d
held_plain slope d z h f e = omega (arith, ints, h.0, h.1, f, e)

place_below : (w x y b : ℕ) → y * w + x + w + b ≡ (y + 1) * w + (x + b)
place_below w x y b = grind arith

part_count : (samples : List ℕ) (i n : ℕ) → i + n ≤ length samples → length (between i (i + n) samples) ≡ n
part_count samples i n l =
    let minus : i + n - i ≡ n = omega arith in
    length-between samples i (i + n) l ∙ minus

module _ (s : Sheet) (samples : List ℕ) (e : samples ≡ s.phase.now.samples.items) where
  right_pair : (slope : ℤ) → slope ≡ s.terms.ramp_x → (x0 y n b : ℕ) → b < n → wrapped_by slope (slice_index (between (y * s.phase.now.width + x0) (y * s.phase.now.width + x0 + n) samples) b) (slice_index (between (y * s.phase.now.width + x0 + 1) (y * s.phase.now.width + x0 + 1 + n) samples) b) -ℤ slope ≡ of_right_edges (sheet_raster s) (x0 + b) y
  right_pair slope same x0 y n b l =
      let first : y * s.phase.now.width + x0 + b ≡ y * s.phase.now.width + (x0 + b) = omega arith in
      let other : y * s.phase.now.width + x0 + 1 + b ≡ y * s.phase.now.width + (x0 + b + 1) = omega arith in
      same_difference same (phase_in samples s.phase.now.samples.items (y * s.phase.now.width + x0) (y * s.phase.now.width + (x0 + b)) n b e l first) (phase_in samples s.phase.now.samples.items (y * s.phase.now.width + x0 + 1) (y * s.phase.now.width + (x0 + b + 1)) n b e l other)

  down_pair : (slope : ℤ) → slope ≡ s.terms.ramp_y → (x0 y n b : ℕ) → b < n → wrapped_by slope (slice_index (between (y * s.phase.now.width + x0) (y * s.phase.now.width + x0 + n) samples) b) (slice_index (between (y * s.phase.now.width + x0 + s.phase.now.width) (y * s.phase.now.width + x0 + s.phase.now.width + n) samples) b) -ℤ slope ≡ of_down_edges (sheet_raster s) (x0 + b) y
  down_pair slope same x0 y n b l =
      let first : y * s.phase.now.width + x0 + b ≡ y * s.phase.now.width + (x0 + b) = omega arith in
      same_difference same (phase_in samples s.phase.now.samples.items (y * s.phase.now.width + x0) (y * s.phase.now.width + (x0 + b)) n b e l first) (phase_in samples s.phase.now.samples.items (y * s.phase.now.width + x0 + s.phase.now.width) ((y + 1) * s.phase.now.width + (x0 + b)) n b e l (place_below s.phase.now.width x0 y b))

  pub right_row : (slope : ℤ) → slope ≡ s.terms.ramp_x → (x0 y0 n y : ℕ) (old new : List ℤ) → y0 ≤ y → y * s.phase.now.width + x0 + n ≤ length samples → AreDifferences slope (between (y * s.phase.now.width + x0) (y * s.phase.now.width + x0 + n) samples) (between (y * s.phase.now.width + x0 + 1) (y * s.phase.now.width + x0 + 1 + n) samples) ((y - y0) * n) (length (between (y * s.phase.now.width + x0) (y * s.phase.now.width + x0 + n) samples)) old new → AreTold (of_right_edges (sheet_raster s)) x0 y0 n ((y - y0) * n) old → AreTold (of_right_edges (sheet_raster s)) x0 y0 n ((y + 1 - y0) * n) new
  right_row slope same x0 y0 n y old new l within set_ h =
      let back : y ≡ y0 + (y - y0) = omega (arith, l) in
      let next : y - y0 + 1 ≡ y + 1 - y0 = omega (arith, l) in
      subst (λ (a : ℕ). AreTold (of_right_edges (sheet_raster s)) x0 y0 n (a * n) new) next
      (row_told (of_right_edges (sheet_raster s)) slope _ _ x0 y0 n _ (y - y0) old new (part_count samples (y * s.phase.now.width + x0) n within) (λ b m. right_pair slope same x0 y n b m ∙ ap (λ (k : ℕ). of_right_edges (sheet_raster s) (x0 + b) k) back) set_ h)

  pub down_row : (slope : ℤ) → slope ≡ s.terms.ramp_y → (x0 y0 n y : ℕ) (old new : List ℤ) → y0 ≤ y → y * s.phase.now.width + x0 + n ≤ length samples → AreDifferences slope (between (y * s.phase.now.width + x0) (y * s.phase.now.width + x0 + n) samples) (between (y * s.phase.now.width + x0 + s.phase.now.width) (y * s.phase.now.width + x0 + s.phase.now.width + n) samples) ((y - y0) * n) (length (between (y * s.phase.now.width + x0) (y * s.phase.now.width + x0 + n) samples)) old new → AreTold (of_down_edges (sheet_raster s)) x0 y0 n ((y - y0) * n) old → AreTold (of_down_edges (sheet_raster s)) x0 y0 n ((y + 1 - y0) * n) new
  down_row slope same x0 y0 n y old new l within set_ h =
      let back : y ≡ y0 + (y - y0) = omega (arith, l) in
      let next : y - y0 + 1 ≡ y + 1 - y0 = omega (arith, l) in
      subst (λ (a : ℕ). AreTold (of_down_edges (sheet_raster s)) x0 y0 n (a * n) new) next
      (row_told (of_down_edges (sheet_raster s)) slope _ _ x0 y0 n _ (y - y0) old new (part_count samples (y * s.phase.now.width + x0) n within) (λ b m. down_pair slope same x0 y n b m ∙ ap (λ (k : ℕ). of_down_edges (sheet_raster s) (x0 + b) k) back) set_ h)

-- rows of a raster's samples
pub part_inside : (w h x y n : ℕ) → y < h → x + n ≤ w → y * w + x + n ≤ w * h
part_inside w h x y n l m = grind arith
