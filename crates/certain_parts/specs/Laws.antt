-- Laws of excesses, margins and parts of a certified surface.
use Rattle.std.specs.Prelude.{◌≡◌, ◌≢◌, ℕ, ◌≤◌, ℤ, pos, ◌+ℤ◌, ◌-ℤ◌, ◌≤ℤ◌, ◌<ℤ◌, ◌↔◌, ◌<◌, IsTrue, length, slice_index}
use Rattle.raster_model.specs.declared.edge.Edge.{Edge}
use Rattle.raster_model.specs.Sums.{Field, is_edge, sum_edges}
use Rattle.raster_model.specs.Raster.{IsCongruent, has_open_ends}
use Rattle.raster_model.specs.Whole.{whole_cost}
use Rattle.certain_parts.specs.Margins.{Faced, IsCertified, departure_at, excess, extra_cost, margin}
use Rattle.joined_cells.specs.Joining.{IsOpenOf}
use Rattle.certain_parts.specs.Labels.{ArePartsOf, label_at, part_size}
use Rattle.certain_parts.specs.Parts.{AreInOnePart, parts_joined}
use Rattle.certain_parts.specs.PartsText.{parts_text}
use Rattle.certain_parts.specs.PartsView.{PartsView}
use Rattle.certain_parts.specs.Told.{faced_told}
use Rattle.whole_check.specs.Verdicts.{IsCertifiedText}
use Rattle.whole_text.specs.Text.{WholeOf}
use Rattle.whole_text.specs.Told.{IsWholeTask, WholeTask}

-- no excess is below 0, and that of the surface's own departure is 0
abbrev pub ExcessesAreLeastAtTheSurface : Type 0
ExcessesAreLeastAtTheSurface = (faced : Faced) → IsCertified faced → (edge : Edge) → IsTrue (is_edge faced.raster.width faced.raster.height edge) → ((j : ℤ) → pos 0 ≤ℤ excess faced edge j) × (IsTrue (has_open_ends faced.mask edge) → excess faced edge (departure_at faced edge) ≡ pos 0)

-- any congruent surface costs so much more as the excesses of its departures sum to
abbrev pub ExcessesAddUp : Type 0
ExcessesAddUp = (faced : Faced) → IsCertified faced → (other : Field ℤ) → IsCongruent faced.raster faced.mask other → whole_cost faced.raster faced.mask other ≡ whole_cost faced.raster faced.mask faced.surface +ℤ sum_edges faced.raster.width faced.raster.height (extra_cost faced other)

-- no departure other than the surface's has an excess below the margin
abbrev pub MarginsBoundExcesses : Type 0
MarginsBoundExcesses = (faced : Faced) → IsCertified faced → 1 ≤ faced.raster.steep → (edge : Edge) → IsTrue (is_edge faced.raster.width faced.raster.height edge) → IsTrue (has_open_ends faced.mask edge) → (j : ℤ) → j ≢ departure_at faced edge → margin faced edge ≤ℤ excess faced edge j

-- a surface that costs at most so much more lies above the certified one by as much at any two pixels of one part
abbrev pub SurfacesAgreeInParts : Type 0
SurfacesAgreeInParts = (faced : Faced) (limit : ℕ) (other : Field ℤ) → IsCertified faced → 1 ≤ faced.raster.steep → IsCongruent faced.raster faced.mask other → whole_cost faced.raster faced.mask other ≤ℤ (whole_cost faced.raster faced.mask faced.surface +ℤ pos limit) → (x y a b : ℕ) → AreInOnePart faced limit x y a b → other x y -ℤ faced.surface x y ≡ other a b -ℤ faced.surface a b

-- so where it does not, it costs more
abbrev pub OthersCostMore : Type 0
OthersCostMore = (faced : Faced) (limit : ℕ) (other : Field ℤ) → IsCertified faced → 1 ≤ faced.raster.steep → IsCongruent faced.raster faced.mask other → (x y a b : ℕ) → AreInOnePart faced limit x y a b → other x y -ℤ faced.surface x y ≢ other a b -ℤ faced.surface a b → (whole_cost faced.raster faced.mask faced.surface +ℤ pos limit) <ℤ whole_cost faced.raster faced.mask other

-- an open pixel with a label above 0 and another open pixel have one label exactly if they are in one part
abbrev pub LabelsTellParts : Type 0
LabelsTellParts = (faced : Faced) (limit least : ℕ) (v : PartsView) → ArePartsOf faced limit least v → (x y a b : ℕ) → IsOpenOf (parts_joined faced limit) x y → IsOpenOf (parts_joined faced limit) a b → 1 ≤ label_at v x y → (label_at v x y ≡ label_at v a b) ↔ AreInOnePart faced limit x y a b

-- each part has at least so many pixels
abbrev pub PartsAreLarge : Type 0
PartsAreLarge = (faced : Faced) (limit least : ℕ) (v : PartsView) → ArePartsOf faced limit least v → (n : ℕ) → 1 ≤ n → n ≤ v.count → least ≤ part_size v n

-- a surface that costs at most so much more lies above the certified one by as much at any two open pixels with one label above 0
abbrev pub SurfacesAgreeByLabels : Type 0
SurfacesAgreeByLabels = (faced : Faced) (limit least : ℕ) (v : PartsView) (other : Field ℤ) → ArePartsOf faced limit least v → IsCertified faced → 1 ≤ faced.raster.steep → IsCongruent faced.raster faced.mask other → whole_cost faced.raster faced.mask other ≤ℤ (whole_cost faced.raster faced.mask faced.surface +ℤ pos limit) → (x y a b : ℕ) → IsOpenOf (parts_joined faced limit) x y → IsOpenOf (parts_joined faced limit) a b → 1 ≤ label_at v x y → label_at v x y ≡ label_at v a b → other x y -ℤ faced.surface x y ≡ other a b -ℤ faced.surface a b

-- there are no two numbers of parts, and no two labels of a pixel
abbrev pub PartsAreUnique : Type 0
PartsAreUnique = (faced : Faced) (limit least : ℕ) (v w : PartsView) → ArePartsOf faced limit least v → ArePartsOf faced limit least w → (v.count ≡ w.count) × ((i : ℕ) → i < length v.labels → slice_index v.labels i ≡ slice_index w.labels i)

-- so they have one text
abbrev pub PartsHaveOneText : Type 0
PartsHaveOneText = (faced : Faced) (limit least : ℕ) (v w : PartsView) → ArePartsOf faced limit least v → ArePartsOf faced limit least w → parts_text v faced.mask limit least ≡ parts_text w faced.mask limit least

-- what the certified text of a whole raster shows is certified, at a steepness from 1 on
abbrev pub ToldIsCertified : Type 0
ToldIsCertified = (task : WholeTask) → IsWholeTask task → (told : WholeOf) → IsCertifiedText task told → IsCertified (faced_told task told) × (1 ≤ task.raster.steep)
