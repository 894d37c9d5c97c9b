-- Loop closure: phase 12 plus phase 23 minus phase 13 of three acquisitions, in units of 1/65536 cycle. Where all three are
-- unwrapped without a fault it is less than half a cycle away from 0, or whole cycles are left over.
use Rattle.std.specs.Prelude.{◌≡◌, ℕ, ◌<◌, ℤ, pos, neg_ℤ, ◌+ℤ◌, ◌-ℤ◌, ◌*ℤ◌, ◌≤ℤ◌, Bool, ◌&&◌, not, IsTrue, List, false, map, if◌then◌else◌}
use Rattle.std.specs.Ordering.{int_eq}
use Rattle.auto_masks.specs.Patches.{ArePatchesOf, key_at}
use Rattle.auto_masks.specs.PatchesView.{PatchesView}
use Rattle.grid_writer.specs.declared.values.Grid.{Grid}
use Rattle.grid_writer.specs.Grids.{GridOf}
use Rattle.grid_writer.specs.Values.{CanStand, is_value, no_data}
use Rattle.raster_model.specs.Seams.{IsEarlier}

-- three values are there; the first plus the second minus the third; and their closure, NODATA where one of them is missing
abbrev pub are_there : ℤ → ℤ → ℤ → Bool
are_there a b c = is_value a && is_value b && is_value c

abbrev pub loop_sum : ℤ → ℤ → ℤ → ℤ
loop_sum a b c = a +ℤ b -ℤ c

abbrev pub closure_of : ℤ → ℤ → ℤ → ℤ
closure_of a b c = if are_there a b c then loop_sum a b c else no_data

-- three values whose closure cannot stand in a grid
abbrev pub IsWideLoop : ℤ → ℤ → ℤ → Type 0
IsWideLoop a b c = IsTrue (are_there a b c) × (CanStand (loop_sum a b c) → ⊥)

-- at most half a cycle away from 0
abbrev pub IsHalfCycle : ℤ → Type 0
IsHalfCycle n = (neg_ℤ (pos 32768) ≤ℤ n) × (n ≤ℤ pos 32767)

-- n cycles are in a closure: without them it is at most half a cycle away from 0; where there is no closure n is NODATA too
abbrev pub AreCyclesIn : ℤ → ℤ → Type 0
AreCyclesIn closure n = (IsTrue (is_value closure) → IsHalfCycle (closure -ℤ pos 65536 *ℤ n)) × (is_value closure ≡ false → n ≡ no_data)

-- a key for each number of cycles, by which patches are told: 0 for NODATA
abbrev pub key_of : ℤ → ℤ
key_of n = if is_value n then n else pos 0

-- a pixel is misclosed if its number of cycles is there and is not 0
abbrev pub is_misclosed : ℤ → Bool
is_misclosed n = not (int_eq (key_of n) (pos 0))

-- ---- grids

-- one value too wide at a pixel, and the first such pixel in row order
abbrev pub IsWideAt : GridOf → GridOf → GridOf → ℕ → ℕ → Type 0
IsWideAt a b c x y = (x < a.width) × (y < a.height) × IsWideLoop (a.values x y) (b.values x y) (c.values x y)

abbrev pub IsFirstWideLoop : GridOf → GridOf → GridOf → ℕ → ℕ → Type 0
IsFirstWideLoop a b c x y = IsWideAt a b c x y × ((u v : ℕ) → IsEarlier u v x y → IsWideAt a b c u v → ⊥)

-- the closures of three grids of one size, none of which is too wide
pub record AreClosures (a b c closures : GridOf) : Type 0 where
  pub width : closures.width ≡ a.width
  pub height : closures.height ≡ a.height
  pub values : (x y : ℕ) → x < a.width → y < a.height → closures.values x y ≡ closure_of (a.values x y) (b.values x y) (c.values x y)
  pub narrow : (x y : ℕ) → IsWideAt a b c x y → ⊥

-- the cycles in the closures of a grid
pub record AreCycles (closures cycles : GridOf) : Type 0 where
  pub width : cycles.width ≡ closures.width
  pub height : cycles.height ≡ closures.height
  pub values : (x y : ℕ) → x < closures.width → y < closures.height → AreCyclesIn (closures.values x y) (cycles.values x y)

-- the patches of one number of cycles other than 0
abbrev pub keys_of : List ℤ → List ℤ
keys_of cycles = map key_of cycles

abbrev pub AreMisclosed : Grid → PatchesView → Type 0
AreMisclosed cycles patches = ArePatchesOf cycles.width cycles.height (key_at cycles.width (keys_of cycles.values.items)) patches
