-- How the raster of a session is laid, and what that decides.
use Rattle.std.specs.Prelude.{ℕ}
use Rattle.pgm_planes.specs.declared.extent.Extent.{Extent}
use Rattle.pgm_planes.specs.declared.extent.Extent.TheVariants.{Tiled, Whole}
use Rattle.raster_model.specs.Limits.{max_session_bytes}
use Rattle.session_script.specs.declared.whole.TheConstants.{MAX_WHOLE_SESSION_BYTES}

-- in tiles of a side, or as a whole, without tiles
pub data Layout : Type 0 where
  in_tiles : ℕ → Layout
  as_whole : Layout

-- how large the raster may be
abbrev pub extent_of : Layout → Extent
extent_of (in_tiles side) = Tiled
extent_of as_whole = Whole

-- the most bytes of a session that is read as a whole
abbrev pub max_whole_session_bytes : ℕ
max_whole_session_bytes = MAX_WHOLE_SESSION_BYTES

-- the most bytes of a session's text
abbrev pub most_bytes : Layout → ℕ
most_bytes (in_tiles side) = max_session_bytes
most_bytes as_whole = max_whole_session_bytes
