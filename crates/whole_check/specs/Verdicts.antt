-- The verdict on the text of a surface over the whole raster, for a sheet and a mask: the first thing that is wrong with it, in a fixed order.
use Rattle.std.specs.Prelude.{◌≡◌, ◌≢◌, ◌⊎◌, ℕ, ◌<◌, ℤ, pos, Bool}
use Rattle.raster_model.specs.Cells.{face_at}
use Rattle.raster_model.specs.Certificates.{face_bound}
use Rattle.raster_model.specs.Raster.{Raster, lifted}
use Rattle.raster_model.specs.Seams.{IsAnchored, IsEarlier, IsFirstOpen}
use Rattle.raster_model.specs.Sums.{Field}
use Rattle.certificates.specs.Verdicts.{AllFacesFit, IsFirstUnfit}
use Rattle.grid_writer.specs.Fits.{AllValuesFit, ValueFits, cycles_shown}
use Rattle.raster_model.specs.Whole.{IsCertifiedWhole, whole_cost, whole_of}
use Rattle.whole_text.specs.Text.{WholeOf}
use Rattle.whole_text.specs.Told.{IsWholeTask, WholeTask}
use Rattle.whole_check.specs.declared.verdict.WholeVerdict.{WholeVerdict}
use Rattle.whole_check.specs.declared.verdict.WholeVerdict.TheVariants.{Accepted, Header, Value, Face, Cost, Told}

-- ---- the head: lines 2 to 5 give the size, the rule, the ramp and the steepness of what is unwrapped

abbrev pub HasSizeOf : WholeTask → WholeOf → Type 0
HasSizeOf task whole = (whole.width ≡ task.raster.width) × (whole.height ≡ task.raster.height)

abbrev pub HasRuleOf : WholeTask → WholeOf → Type 0
HasRuleOf task whole = whole.rule ≡ task.rule

abbrev pub HasRampOf : WholeTask → WholeOf → Type 0
HasRampOf task whole = (whole.terms.ramp_x ≡ task.terms.ramp_x) × (whole.terms.ramp_y ≡ task.terms.ramp_y)

abbrev pub HasSteepnessOf : WholeTask → WholeOf → Type 0
HasSteepnessOf task whole = whole.terms.steep ≡ task.terms.steep

pub record HasWholeHead (task : WholeTask) (whole : WholeOf) : Type 0 where
  pub size : HasSizeOf task whole
  pub rule : HasRuleOf task whole
  pub ramp : HasRampOf task whole
  pub steepness : HasSteepnessOf task whole

-- the first of them that does not has this number
abbrev pub WholeDiffersAt : WholeTask → WholeOf → ℕ → Type 0
WholeDiffersAt t v n =
    ((n ≡ 2) × (HasSizeOf t v → ⊥))
    ⊎ (((n ≡ 3) × (HasSizeOf t v × (HasRuleOf t v → ⊥)))
    ⊎ (((n ≡ 4) × (HasSizeOf t v × (HasRuleOf t v × (HasRampOf t v → ⊥))))
    ⊎ ((n ≡ 5) × (HasSizeOf t v × (HasRuleOf t v × (HasRampOf t v × (HasSteepnessOf t v → ⊥)))))))

-- ---- the values

-- a value fits its phase and its mask, and is the phase at the first open pixel; all do; the first pixel in row order whose value does not
pub record ValueStands (raster : Raster) (mask : Field Bool) (values : Field ℤ) (x y : ℕ) : Type 0 where
  pub fits : ValueFits raster mask values x y
  pub anchored : IsFirstOpen raster mask x y → values x y ≡ pos (raster.phase x y)

abbrev pub AllValuesStand : Raster → Field Bool → Field ℤ → Type 0
AllValuesStand raster mask values = (x y : ℕ) → x < raster.width → y < raster.height → ValueStands raster mask values x y

pub record IsFirstFalseValue (raster : Raster) (mask : Field Bool) (values : Field ℤ) (x y : ℕ) : Type 0 where
  pub across : x < raster.width
  pub along : y < raster.height
  pub wrong : ValueStands raster mask values x y → ⊥
  pub first : (a b : ℕ) → a < raster.width → b < raster.height → IsEarlier a b x y → ValueStands raster mask values a b

-- the surface that the values show
abbrev pub surface_told : WholeTask → WholeOf → Field ℤ
surface_told task whole = lifted task.raster (cycles_shown whole.values)

-- ---- the text

-- it is certified: the head is that of what is unwrapped, the values are a surface that is anchored and certified over the whole raster, and the cost is the surface's
pub record IsCertifiedText (task : WholeTask) (whole : WholeOf) : Type 0 where
  pub head : HasWholeHead task whole
  pub values : AllValuesFit task.raster task.mask whole.values
  pub anchored : IsAnchored task.raster task.mask (surface_told task whole)
  pub certified : IsCertifiedWhole task.raster task.mask (surface_told task whole) whole.faces
  pub cost : pos whole.cost ≡ whole_cost task.raster task.mask (surface_told task whole)

-- head and values are in order
abbrev pub PassesValues : WholeTask → WholeOf → Type 0
PassesValues task whole = HasWholeHead task whole × AllValuesStand task.raster task.mask whole.values

-- the faces as those of one tile
abbrev pub whole_face : WholeTask → WholeOf → Field ℤ
whole_face task whole = face_at (whole_of task.raster) 0 whole.faces

abbrev pub IsWholeVerdict : WholeTask → WholeOf → WholeVerdict → Type 0
IsWholeVerdict task whole Accepted = IsCertifiedText task whole
IsWholeVerdict task whole (Header n) = WholeDiffersAt task whole n
IsWholeVerdict task whole (Value x y) = HasWholeHead task whole × IsFirstFalseValue task.raster task.mask whole.values x y
IsWholeVerdict task whole (Face e) = PassesValues task whole × IsFirstUnfit (whole_of task.raster) task.mask 0 (whole_face task whole) e
IsWholeVerdict task whole (Cost cost bound) = PassesValues task whole × (AllFacesFit (whole_of task.raster) task.mask 0 (whole_face task whole) × ((pos cost ≡ whole_cost task.raster task.mask (surface_told task whole)) × ((bound ≡ face_bound (whole_of task.raster) task.mask 0 (whole_face task whole)) × (bound ≢ pos cost))))
IsWholeVerdict task whole (Told written counted) = PassesValues task whole × (IsCertifiedWhole task.raster task.mask (surface_told task whole) whole.faces × ((written ≡ whole.cost) × ((pos counted ≡ whole_cost task.raster task.mask (surface_told task whole)) × (written ≢ counted))))

-- no text has two verdicts
abbrev pub WholesHaveOneVerdict : Type 0
WholesHaveOneVerdict = (task : WholeTask) → IsWholeTask task → (whole : WholeOf) (a b : WholeVerdict) → IsWholeVerdict task whole a → IsWholeVerdict task whole b → a ≡ b
