-- The limits of rasters, tiles and sessions.
use Rattle.raster_model.specs.declared.limits.TheConstants.{MAX_CHANGED_TILES, MAX_COMMANDS, MAX_PIXELS, MAX_REPORT_BYTES, MAX_SESSION_BYTES, MAX_SETTLED_PIXELS, MAX_SIDE, MAX_STEEPNESS, MAX_TILED_PIXELS, MAX_TILED_SIDE, MAX_TILE_SIDE, MIN_TILE_SIDE}
use Rattle.std.specs.Prelude.{ℕ, ◌*◌, ◌≤◌, ℤ, pos, neg_ℤ, ◌≤ℤ◌, Bool, ◌&&◌, nat_le}

-- the most pixels along a side of a raster, and in all
abbrev pub max_side : ℕ
max_side = MAX_SIDE

abbrev pub max_pixels : ℕ
max_pixels = MAX_PIXELS

-- the same of a raster that has tiles
abbrev pub max_tiled_side : ℕ
max_tiled_side = MAX_TILED_SIDE

abbrev pub max_tiled_pixels : ℕ
max_tiled_pixels = MAX_TILED_PIXELS

-- the most commands of one analyst
abbrev pub max_commands : ℕ
max_commands = MAX_COMMANDS

-- the most that a session's settle commands times its pixels may be, and its change commands times its tiles
abbrev pub max_settled_pixels : ℕ
max_settled_pixels = MAX_SETTLED_PIXELS

abbrev pub max_changed_tiles : ℕ
max_changed_tiles = MAX_CHANGED_TILES

-- the most bytes of a session's text, and of a report's
abbrev pub max_session_bytes : ℕ
max_session_bytes = MAX_SESSION_BYTES

abbrev pub max_report_bytes : ℕ
max_report_bytes = MAX_REPORT_BYTES

-- a raster may have w by h pixels
abbrev pub is_raster_size : ℕ → ℕ → Bool
is_raster_size width height = nat_le 1 width && nat_le width max_side && nat_le 1 height && nat_le height max_side && nat_le (width * height) max_pixels

-- a raster of w by h pixels may have tiles
abbrev pub is_tiled_size : ℕ → ℕ → Bool
is_tiled_size width height = nat_le 1 width && nat_le width max_tiled_side && nat_le 1 height && nat_le height max_tiled_side && nat_le (width * height) max_tiled_pixels

-- tiles may have this side
abbrev pub IsTileSide : ℕ → Type 0
IsTileSide side = (MIN_TILE_SIDE ≤ side) × (side ≤ MAX_TILE_SIDE)

-- a ramp may rise by so much from a pixel to its neighbour, in units of 1/65536 cycle
abbrev pub IsSlope : ℤ → Type 0
IsSlope slope = (neg_ℤ (pos 32768) ≤ℤ slope) × (slope ≤ℤ pos 32767)

-- costs may have this steepness
abbrev pub IsSteepness : ℕ → Type 0
IsSteepness steep = (1 ≤ steep) × (steep ≤ MAX_STEEPNESS)
