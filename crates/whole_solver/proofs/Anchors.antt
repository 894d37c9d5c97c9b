-- Cycles that are lowered alike, so that the first open pixel has none.
use Rattle.std.proofs.Common.{◌≡◌, ℕ, ◌+◌, ◌*◌, ◌<◌, ◌≤◌, ◌⊎◌, ℤ, List, length, refl, arith, inl, inr, Bool}
use Rattle.std.specs.Prelude.{pos, ◌-ℤ◌, slice_index_or, unsigned_abs}
use Rattle.std.proofs.lemmas.Int.{ints}
use Rattle.std.proofs.lemmas.List.{get_or_past, get_or_read_under}
use Rattle.std.proofs.lemmas.Nat.{mul-add-lt}
use Rattle.raster_model.specs.declared.limits.TheConstants.{MAX_WHOLE_CYCLES}
use Rattle.raster_model.specs.Raster.{Raster, lifted}
use Rattle.raster_model.specs.Seams.{IsAnchored, IsFirstOpen}
use Rattle.raster_model.specs.Sums.{Field}
use Rattle.certificates.proofs.SeamVerdictLemmas.{anchored}
use Rattle.whole_solver.specs.declared.limits.TheConstants.{MAX_UNMOVED_CYCLES}
use Rattle.whole_solver.specs.Cycles.{AreSmallCycles, whole_cycles}

below : (p n m : ℕ) → p < m → n ≡ m → p < n
below p n m l e = omega (arith, l, e)

under_or_past : (k n : ℕ) → (k < n) ⊎ (n ≤ k)
under_or_past k n = grind arith

difference_small : (a b : ℤ) → unsigned_abs a ≤ MAX_UNMOVED_CYCLES → unsigned_abs b ≤ MAX_UNMOVED_CYCLES → unsigned_abs (a -ℤ b) ≤ MAX_WHOLE_CYCLES
difference_small a b l m = omega (arith, ints, l, m)

nothing : (a : ℤ) → a -ℤ a ≡ pos 0
nothing a = omega (arith, ints)

unmoved : (a : ℤ) → a ≡ a -ℤ pos 0
unmoved a = omega (arith, ints)

module _ (w h : ℕ) (cycles : List ℤ) (count : length cycles ≡ w * h) where
  -- a pixel's place is one of the list
  pub has_place : (x y : ℕ) → x < w → y < h → y * w + x < length cycles
  has_place x y l m = below (y * w + x) (length cycles) (w * h) (mul-add-lt y w x h m l) count

  -- what is read there
  pub read_there : (x y : ℕ) (z : ℤ) → x < w → y < h → z ≡ slice_index_or cycles (y * w + x) z → z ≡ whole_cycles w cycles x y
  read_there x y z l m e = get_or_read_under cycles (y * w + x) (length cycles) z (pos 0) e (has_place x y l m) refl

  module _ (made : List ℤ) (by : ℤ) (same : length made ≡ length cycles) (lower : (k : ℕ) → k < length cycles → slice_index_or made k (pos 0) ≡ slice_index_or cycles k (pos 0) -ℤ by) where
    pub lower_there : (x y : ℕ) → x < w → y < h → whole_cycles w made x y ≡ whole_cycles w cycles x y -ℤ by
    lower_there x y l m = lower (y * w + x) (has_place x y l m)

    pub stays_small : unsigned_abs by ≤ MAX_UNMOVED_CYCLES → ((k : ℕ) → unsigned_abs (slice_index_or cycles k (pos 0)) ≤ MAX_UNMOVED_CYCLES) → AreSmallCycles made
    stays_small b within k =
        elim (under_or_past k (length cycles)) [
          | inl l ↦ rw (lower k l) (difference_small (slice_index_or cycles k (pos 0)) by (within k) b)
          | inr l ↦ rw (get_or_past made k (pos 0) (rw same l)) (omega arith)
        ]

    pub meets_anchor : (r : Raster) (mask : Field Bool) (x y : ℕ) → IsFirstOpen r mask x y → x < w → y < h → by ≡ whole_cycles w cycles x y → IsAnchored r mask (lifted r (whole_cycles w made))
    meets_anchor r mask x y first l m e =
        anchored r mask (whole_cycles w made) x y (whole_cycles w made x y) first refl (rw (lower_there x y l m, e) (nothing (whole_cycles w cycles x y)))

pub stays_put : (r : Raster) (w : ℕ) (cycles : List ℤ) (x y : ℕ) → whole_cycles w cycles x y ≡ whole_cycles w cycles x y -ℤ pos 0
stays_put r w cycles x y = unmoved (whole_cycles w cycles x y)
