-- A session in tiles is a session without tiles: limits only widen.
use Rattle.std.proofs.Common.{ℕ, List, inl, inr, arith}
use Rattle.pgm_planes.specs.declared.extent.Extent.TheVariants.{Tiled, Whole}
use Rattle.pgm_planes.specs.declared.fault.Role.{Role}
use Rattle.pgm_planes.specs.declared.fault.Role.TheVariants.{Mask, Phase, Weight}
use Rattle.pgm_planes.specs.declared.spelling.Spelling.{Spelling}
use Rattle.pgm_planes.specs.Planes.{PlaneOf, IsSizeWithin, IsSoughtIn, IsSoughtText, sought_within}
use Rattle.session_script.specs.declared.session_use.SessionUse.{SessionUse}
use Rattle.session_script.specs.Scripts.{AreSections, IsScriptPart}
use Rattle.session_script.specs.Sections.{Sections, AreWithinLimits, whole_frame}
use Rattle.session_script.specs.Sessions.{SessionOf, ArePlanes, IsLaterSought, IsSessionIn, IsWholeSessionIn, frame_in}

wide_size : (w h : ℕ) → IsSizeWithin Tiled w h → IsSizeWithin Whole w h
wide_size w h s = record { across = (s.across.0, omega (arith, s.across.1)); along = (s.along.0, omega (arith, s.along.1)); pixels = omega (arith, s.pixels) }

-- ---- planes

wide_text : (spelling : Spelling) (role : Role) (bytes : List ℕ) (p : PlaneOf) (rest : List ℕ) → IsSoughtText spelling (sought_within Tiled role) bytes p rest → IsSoughtText spelling (sought_within Whole role) bytes p rest
wide_text spelling role bytes p rest t = record {
  samples = t.samples;
  end = t.end;
  header = t.header;
  raster = t.raster;
  ended = t.ended;
  plane = record { size = wide_size p.width p.height t.plane.size; maxval = t.plane.maxval; count = t.plane.count; samples = t.plane.samples };
}

wide_in : (role : Role) (bytes : List ℕ) (p : PlaneOf) (rest : List ℕ) → IsSoughtIn (sought_within Tiled role) bytes p rest → IsSoughtIn (sought_within Whole role) bytes p rest
wide_in role bytes p rest i = (i.0, i.1, (i.2.0, wide_text i.2.0 role i.0 p rest i.2.1))

wide_later : (role : Role) (phase : PlaneOf) (bytes : List ℕ) (p : PlaneOf) (rest : List ℕ) → IsLaterSought (sought_within Tiled role) phase bytes p rest → IsLaterSought (sought_within Whole role) phase bytes p rest
wide_later role phase bytes p rest (inl i) = inl (wide_in role bytes p rest i.0, i.1)
wide_later role phase bytes p rest (inr n) = inr n

wide_planes : (bytes : List ℕ) (phase weights mask : PlaneOf) (rest : List ℕ) → ArePlanes Tiled bytes phase weights mask rest → ArePlanes Whole bytes phase weights mask rest
wide_planes bytes phase weights mask rest a = record {
  behind_phase = a.behind_phase;
  behind_weights = a.behind_weights;
  first = wide_in Phase bytes phase a.behind_phase a.first;
  second = wide_later Weight phase a.behind_phase weights a.behind_weights a.second;
  third = wide_later Mask phase a.behind_weights mask rest a.third;
}

-- ---- scripts

module _ (side : ℕ) (phase : PlaneOf) where
  wide_within : (ss : Sections) → AreWithinLimits (frame_in side phase) ss → AreWithinLimits (whole_frame phase.width phase.height) ss
  wide_within ss within = record { analysts = within.analysts; short = within.short; inside = within.inside; settles = omega arith; changes = omega arith }

  wide_sections : (bytes : List ℕ) (ss : Sections) (rest : List ℕ) → AreSections (frame_in side phase) bytes ss rest → AreSections (whole_frame phase.width phase.height) bytes ss rest
  wide_sections bytes ss rest a = (a.0, record { lines = a.1.lines; within = wide_within ss a.1.within }, a.2)

  wide_script : (usage : SessionUse) (bytes : List ℕ) (ss : Sections) (rest : List ℕ) → IsScriptPart (frame_in side phase) usage bytes ss rest → IsScriptPart (whole_frame phase.width phase.height) usage bytes ss rest
  wide_script usage bytes ss rest (inl none) = inl none
  wide_script usage bytes ss rest (inr h) = inr (record { sections = h.sections; are = wide_sections bytes h.sections rest h.are; means = h.means; ends = h.ends })

-- ---- a session

-- what `TiledSessionIsWhole` says
pub tiled_is_whole : (usage : SessionUse) (side : ℕ) (bytes : List ℕ) (s : SessionOf) (rest : List ℕ) → IsSessionIn usage side bytes s rest → IsWholeSessionIn usage bytes s rest
tiled_is_whole usage side bytes s rest i = record {
  mask_plane = i.mask_plane;
  between = i.between;
  planes = wide_planes bytes s.phase s.weights i.mask_plane i.between i.planes;
  mask = i.mask;
  script = wide_script side s.phase usage i.between s.scripts rest i.script;
  short = omega (arith, i.short);
}
