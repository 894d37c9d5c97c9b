-- Which numbers are values of a grid.
use Rattle.std.specs.Prelude.{◌≢◌, ℤ, pos, neg_ℤ, Bool, not}
use Rattle.std.specs.Ordering.{int_eq}
use Rattle.text_lines.specs.Numbers.{FitsLong}

-- the NODATA value of each grid, the least number of 64 bits: it stands at a pixel that has no value
abbrev pub no_data : ℤ
no_data = neg_ℤ (pos 9223372036854775808)

-- a number in a grid is a value
abbrev pub is_value : ℤ → Bool
is_value z = not (int_eq z no_data)

-- a number can stand in a grid as a value: it fits 64 bits and is not the NODATA value
abbrev pub CanStand : ℤ → Type 0
CanStand z = FitsLong z × (z ≢ no_data)
