-- Words of the steps that make a test session: no clause of another crate cites them.
use Rattle.std.specs.Prelude.{◌≡◌, ℕ, ◌+◌, ◌/◌, ◌%◌, ◌<◌, List, [], length, slice_index, vec_capacity}
use Rattle.raster_model.specs.declared.plane.Plane.{Plane}
use Rattle.raster_model.specs.Planes.{plane_sample}
use Rattle.trial_maker.specs.declared.samples.Samples.{Samples}
use Rattle.trial_maker.specs.Trials.{state, phase_of, weight_of, is_open, state_at}
use Rattle.sums_and_lists.specs.Sums.{one_if}

-- the lists are empty and have room for so many pixels
pub record HaveRoom (pixels : ℕ) (samples : Samples) : Type 0 where
  pub phase : (samples.phase.items ≡ []) × (vec_capacity samples.phase ≡ pixels)
  pub weights : (samples.weights.items ≡ []) × (vec_capacity samples.weights ≡ pixels)
  pub mask : (samples.mask.items ≡ []) × (vec_capacity samples.mask ≡ pixels)

-- the list has the first n numbers of f
pub record AreListed (f : ℕ → ℕ) (n : ℕ) (xs : List ℕ) : Type 0 where
  pub counted : length xs ≡ n
  pub each : (k : ℕ) → k < n → slice_index xs k ≡ f k

-- what a seed gives to the pixel of number k, in row order of a raster that is w pixels wide
abbrev pub phase_number : ℕ → ℕ → ℕ → ℕ
phase_number seed w k = phase_of (state seed (k + 1)) (k % w) (k / w)

abbrev pub weight_number : ℕ → ℕ → ℕ
weight_number seed k = weight_of (state seed (k + 1))

abbrev pub mask_number : ℕ → ℕ → ℕ
mask_number seed k = one_if (is_open (state seed (k + 1)))

-- the lists are those of the first n pixels
pub record AreDrawn (seed w n : ℕ) (phase weights mask : List ℕ) : Type 0 where
  pub phases : AreListed (phase_number seed w) n phase
  pub weighed : AreListed (weight_number seed) n weights
  pub masked : AreListed (mask_number seed) n mask

-- the planes are those of w by h pixels
pub record AreDrawnPlanes (seed width h : ℕ) (phase weights mask : Plane) : Type 0 where
  pub phase_size : (phase.width ≡ width) × (phase.height ≡ h) × (phase.maxval ≡ 65535)
  pub weight_size : (weights.width ≡ width) × (weights.height ≡ h) × (weights.maxval ≡ 256)
  pub mask_size : (mask.width ≡ width) × (mask.height ≡ h)
  pub phases : (x y : ℕ) → x < width → y < h → plane_sample phase x y ≡ phase_of (state_at seed width x y) x y
  pub weighed : (x y : ℕ) → x < width → y < h → plane_sample weights x y ≡ weight_of (state_at seed width x y)
  pub masked : (x y : ℕ) → x < width → y < h → plane_sample mask x y ≡ one_if (is_open (state_at seed width x y))
