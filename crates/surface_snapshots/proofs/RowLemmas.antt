-- Rows of a surface's cycles and values: one more pixel, and which pixels the labels tell to be open.
use Rattle.std.proofs.Common.{◌≡◌, ◌∙◌, ℕ, ◌+◌, ◌<◌, ◌≤◌, ◌^◌, sym, arith, inl, inr, length, refl, Bool, true, false, List, ap, of_z, set, to_z, w64}
use Rattle.std.specs.Prelude.{◌≢◌, ℤ, FitsSigned, pos, ◌+ℤ◌, ◌*ℤ◌, IsTrue, unsigned_abs, slice_index_or}
use Rattle.std.proofs.lemmas.Bool.{cases_lt}
use Rattle.std.proofs.lemmas.Int.{ints, to_z-of_z}
use Rattle.std.proofs.lemmas.List.{get_or-set_other, get_or-set_same}
use Rattle.raster_model.specs.MaskView.{MaskView}
use Rattle.raster_model.specs.Masks.{open_at}
use Rattle.raster_model.specs.Sums.{Field}
use Rattle.certificates.specs.TileSets.{solved_cycles}
use Rattle.seam_regions.specs.Offsets.{AreNear}
use Rattle.seam_regions.specs.Regions.{region_label, offset_at}
use Rattle.surface_snapshots.specs.declared.shifted.ShiftedTiles.{ShiftedTiles}
use Rattle.surface_snapshots.specs.Tiled.{regions_in}
use Rattle.surface_snapshots.specs.Parts.{AreGoodTiles, BeginsWithRow, Parts, cycles_in_parts, open_in, raster_in, value_or}
use Rattle.surface_snapshots.specs.Shifted.{cycles_or_none, cycles_under, level_at, level_in, mask_under, no_cycles, open_under}
use Rattle.surface_snapshots.proofs.CallerLemmas.{offset_small, solved_small}

-- a number is written behind the front of a row, and what stands behind stays
module _ (f : Field ℤ) (y x : ℕ) (row : List ℤ) (v : ℤ) where
  pub row_more : x < length row → BeginsWithRow f y x row → v ≡ f x y → BeginsWithRow f y (x + 1) (set row x v)
  row_more l front here c below =
      elim (cases_lt c x) [
        | inl before ↦ get_or-set_other row x c v (pos 0) (λ e. omega (arith, before, e)) ∙ front c before
        | inr after ↦ (let e : c ≡ x = omega (arith, below, after) in rw e (get_or-set_same row x v (pos 0) l ∙ here))
      ]

  pub rest_stays : (c : ℕ) → x + 1 ≤ c → slice_index_or (set row x v) c (pos 0) ≡ slice_index_or row c (pos 0)
  rest_stays c after = get_or-set_other row x c v (pos 0) (λ e. omega (arith, after, e))

open_cycles : (clear : Bool) (z : ℤ) → IsTrue clear → cycles_or_none clear z ≡ z
open_cycles clear z t = rw t refl

module _ (s : ShiftedTiles) (x y : ℕ) where
  pub level_there : IsTrue (open_under s x y) → level_at s x y ≡ cycles_under s x y
  unfolding level_at
  level_there t = open_cycles (open_under s x y) (cycles_under s x y) t

  -- a pixel is open exactly where its label is the number of an offset
  module _ (across : x < s.scene.now.phase.width) (along : y < s.scene.now.phase.height) where
    pub level_found : (z offset : ℤ) → region_label (regions_in s.regions.now) x y < length s.offsets.now → offset ≡ slice_index_or s.offsets.now (region_label (regions_in s.regions.now) x y) (pos 0) → z ≡ solved_cycles s.scene.now s.tiles.now.results x y → z +ℤ offset ≡ level_at s x y
    unfolding offset_at
    level_found z offset below found e =
        rw (e, found) (sym (level_there (s.together.told x y across along (omega (arith, below, s.count)))))

    pub level_none : length s.offsets.now ≤ region_label (regions_in s.regions.now) x y → no_cycles ≡ level_at s x y
    unfolding level_at
    level_none past = go (open_under s x y) refl
      where
        go : (clear : Bool) → open_under s x y ≡ clear → no_cycles ≡ cycles_or_none clear (cycles_under s x y)
        go false e = refl
        go true e = absurd (omega (arith, past, s.together.below x y across along e, s.count))

pub level_same : (s : ShiftedTiles) (p : Parts) (x y : ℕ) → s.scene.now ≡ p.session.scene → mask_under s ≡ p.mask → regions_in s.regions.now ≡ p.regions → s.tiles.now ≡ p.tiles → s.offsets.now ≡ p.seams.offsets → level_at s x y ≡ level_in p x y
unfolding level_at
level_same s p x y scene mask regions tiles offsets =
    let cycles : cycles_under s x y ≡ cycles_in_parts p x y = rw (scene, regions, tiles, offsets) refl in
    ap (λ (m : MaskView). cycles_or_none (open_at m x y) (cycles_under s x y)) mask ∙ ap (cycles_or_none (open_in p x y)) cycles

-- what is above the phase at a pixel of parts: cycles, which are few, where it is open, and none where it is masked
module _ (p : Parts) (tiles : AreGoodTiles p.session.scene (open_in p) p.tiles.results) (near : AreNear p.seams.offsets) (x y : ℕ) (across : x < p.session.scene.phase.width) (along : y < p.session.scene.phase.height) where
  few_cycles : IsTrue (open_in p x y) → unsigned_abs (cycles_in_parts p x y) ≤ 2 ^ 46 + 8388608
  few_cycles clear =
      omega (arith, ints, solved_small p.session.scene (open_in p) p.tiles.results tiles x y across along clear, offset_small p.regions p.seams.offsets near x y)

  not_none : (z : ℤ) → unsigned_abs z ≤ 2 ^ 46 + 8388608 → z ≡ no_cycles → ⊥
  not_none z small e = omega (arith, ints, small, e)

  -- a number that is not the one of masked pixels
  pub cycles_told : (z : ℤ) → z ≡ level_in p x y → z ≢ no_cycles → IsTrue (open_in p x y) × (z ≡ cycles_in_parts p x y) × (unsigned_abs z ≤ 2 ^ 46 + 8388608)
  cycles_told z is some = go (open_in p x y) refl is
    where
      go : (clear : Bool) → open_in p x y ≡ clear → z ≡ cycles_or_none clear (cycles_in_parts p x y) → IsTrue (open_in p x y) × (z ≡ cycles_in_parts p x y) × (unsigned_abs z ≤ 2 ^ 46 + 8388608)
      go true e f = (e, f, rw f (few_cycles e))
      go false e f = absurd (some f)

  pub value_told : (masked z : ℤ) → z ≡ level_in p x y → z ≢ no_cycles → pos ((raster_in p).phase x y) +ℤ pos 65536 *ℤ z ≡ value_or p masked x y
  value_told masked z is some = let t = cycles_told z is some in rw (t.0, t.1) refl

  pub masked_told : (masked z : ℤ) → z ≡ level_in p x y → z ≡ no_cycles → masked ≡ value_or p masked x y
  masked_told masked z is none = go (open_in p x y) refl is
    where
      go : (clear : Bool) → open_in p x y ≡ clear → z ≡ cycles_or_none clear (cycles_in_parts p x y) → masked ≡ value_or p masked x y
      go true e f = absurd (not_none z (rw f (few_cycles e)) none)
      go false e f = rw e refl

-- what stands for the cycles of a masked pixel is the number with these bits
pub none_by_bits : (z : ℤ) → FitsSigned w64 z → of_z w64 z ≡ 9223372036854775808 → z ≡ no_cycles
none_by_bits z fits e = sym (to_z-of_z w64 z fits) ∙ ap (to_z w64) e
