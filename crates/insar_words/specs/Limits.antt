-- Limits of what words may ask.
use Rattle.std.specs.Prelude.{◌≤◌, ℕ}
use Rattle.raster_model.specs.Limits.{max_tiled_pixels, max_tiled_side}
use Rattle.raster_model.specs.declared.limits.TheConstants.{MAX_WORKERS}

-- how many workers there may be
abbrev pub IsWorkers : ℕ → Type 0
IsWorkers workers = (1 ≤ workers) × (workers ≤ MAX_WORKERS)

-- how many readers there may be, and how often each may look
abbrev pub IsReaders : ℕ → Type 0
IsReaders readers = (1 ≤ readers) × (readers ≤ 8)

abbrev pub IsReads : ℕ → Type 0
IsReads reads = (1 ≤ reads) × (reads ≤ 4096)

-- sides that the raster of a test session may have
abbrev pub IsTrialSide : ℕ → Type 0
IsTrialSide pixels = (1 ≤ pixels) × (pixels ≤ max_tiled_side)

-- how far a near pixel may be away, how many pixels may be asked for near another, and in a patch
abbrev pub IsScreenRadius : ℕ → Type 0
IsScreenRadius radius = radius ≤ 64

abbrev pub IsNearCount : ℕ → Type 0
IsNearCount count = count ≤ 16641

abbrev pub IsPatchSize : ℕ → Type 0
IsPatchSize pixels = pixels ≤ max_tiled_pixels

-- wavelengths in nanometres, columns and rows of a reference pixel, and sides of blocks in pixels
abbrev pub IsWavelengthAsked : ℕ → Type 0
IsWavelengthAsked wavelength = (1 ≤ wavelength) × (wavelength ≤ 1000000000)

abbrev pub IsReferencePlace : ℕ → Type 0
IsReferencePlace place = place ≤ 4095

abbrev pub IsBlockAsked : ℕ → Type 0
IsBlockAsked block = (1 ≤ block) × (block ≤ 64)

-- how many pixels may be asked for in a part
abbrev pub IsLeastPart : ℕ → Type 0
IsLeastPart pixels = (1 ≤ pixels) × (pixels ≤ max_tiled_pixels)
