-- What is read of a surface that a report shows.
use Rattle.std.proofs.Common.{◌≡◌, ℕ, ◌<◌, arith, List, get_or, length}
use Rattle.std.specs.Global.{Vec}
use Rattle.std.proofs.lemmas.Grind.{common_steps}
use Rattle.std.specs.Prelude.{Bool, ℤ, IfNone, IfSome, Option, Some, None}
use Rattle.grid_writer.specs.Fits.{AllValuesFit, IsFirstUnfitValue, ValueFits}
use Rattle.raster_model.specs.Raster.{Raster}
use Rattle.raster_model.specs.Sums.{Field}
use Rattle.raster_model.specs.Whole.{whole_of}
use Rattle.report_text.specs.Contents.{lists_of}

-- the faces of a tile
pub faces_read : (lists : List (Vec ℤ)) (t : ℕ) (v : Vec ℤ) → t < length lists → v ≡ get_or lists t v → lists_of lists t ≡ v.items
faces_read lists t v l e = grind (arith, common_steps)

-- values fit a raster as one tile as they fit the raster
module _ (r : Raster) (mask : Field Bool) (values : Field ℤ) where
  fits_here : (x y : ℕ) → ValueFits (whole_of r) mask values x y → ValueFits r mask values x y
  fits_here x y f = record { masked = f.masked; unmasked = f.unmasked }

  fits_there : (x y : ℕ) → ValueFits r mask values x y → ValueFits (whole_of r) mask values x y
  fits_there x y f = record { masked = f.masked; unmasked = f.unmasked }

  pub all_fit : AllValuesFit (whole_of r) mask values → AllValuesFit r mask values
  all_fit all x y across along = fits_here x y (all x y across along)

  pub first_unfit : (x y : ℕ) → IsFirstUnfitValue (whole_of r) mask values x y → IsFirstUnfitValue r mask values x y
  first_unfit x y u = record { across = u.across; along = u.along; unfit = λ f. u.unfit (fits_there x y f); first = λ a b i j e. fits_here a b (u.first a b i j e) }

pub if_some_weaker : {T : Type 0} {P Q : T → Type 0} (o : Option T) → ((t : T) → P t → Q t) → IfSome o P → IfSome o Q
if_some_weaker (Some t) f p = f t p
if_some_weaker None f p = p

pub if_none_weaker : {T P Q : Type 0} (o : Option T) → (P → Q) → IfNone o P → IfNone o Q
if_none_weaker (Some t) f p = p
if_none_weaker None f p = f p
