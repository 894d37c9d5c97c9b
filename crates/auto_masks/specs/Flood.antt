-- The flood and its numbers, of a list of keys. No public clause cites this file.
use Rattle.std.specs.Prelude.{ℕ, ℤ, List}
use Rattle.joined_cells.specs.Flood.{IsFlood, IsNumbered}
use Rattle.joined_cells.specs.Joining.{Joining, tiles_joined}
use Rattle.raster_model.specs.Sums.{Field}
use Rattle.auto_masks.specs.declared.extent.Extent.{Extent}
use Rattle.auto_masks.specs.Patches.{key_at, is_keyed, keyed}

-- edges between pixels of one key other than 0 join
abbrev pub keys_joined : ℕ → ℕ → Field ℤ → Joining
keys_joined width height keys = tiles_joined (keyed width height keys) (is_keyed keys)

abbrev pub HasJoined : Extent → List ℤ → ℕ → List ℕ → Type 0
HasJoined extent keys k parents = IsFlood (keys_joined extent.width extent.height (key_at extent.width keys)) k parents

abbrev pub HasNumbered : Extent → List ℤ → ℕ → ℕ → List ℕ → Type 0
HasNumbered extent keys k count labels = IsNumbered (keys_joined extent.width extent.height (key_at extent.width keys)) k count labels
