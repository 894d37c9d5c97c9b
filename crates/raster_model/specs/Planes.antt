-- Which fields make a plane, and the reason where they do not.
use Rattle.std.specs.Prelude.{ℕ, ◌+◌, ◌*◌, List, length, slice_index, Option, Some, option_map, position, ◌==◌, not, nat_lt, if◌then◌else◌}
use Rattle.raster_model.specs.declared.plane.PlaneShape.{PlaneShape}
use Rattle.raster_model.specs.declared.plane.PlaneShape.TheVariants.{Size, Maxval, Count, Above}
use Rattle.raster_model.specs.declared.plane.Plane.{Plane}
use Rattle.raster_model.specs.Sums.{Field}
use Rattle.raster_model.specs.Limits.{is_raster_size}

-- the first reason, in the order of the variants, why these are not the fields of a plane; none where they are:
-- a size beyond the limits, a maxval of 0, a number of samples that is not the number of pixels, the first sample above maxval
abbrev pub plane_refusal : ℕ → ℕ → ℕ → List ℕ → Option PlaneShape
plane_refusal width height maxval samples = if not (is_raster_size width height) then Some Size else (if maxval == 0 then Some Maxval else (if not (length samples == width * height) then Some (Count (length samples)) else option_map Above (position (λ s. nat_lt maxval s) samples)))

-- the sample of a pixel
abbrev pub plane_sample : Plane → Field ℕ
plane_sample plane x y = slice_index plane.samples.items (y * plane.width + x)
