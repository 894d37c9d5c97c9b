-- Regions, their offsets and what certifies the seams (Chen and Zebker 2002, tiles that do not overlap).
use Rattle.std.specs.Prelude.{◌≡◌, ℕ, ◌+◌, ◌*◌, ◌<◌, ◌≤◌, ℤ, pos, ◌+ℤ◌, ◌-ℤ◌, ◌*ℤ◌, ◌≤ℤ◌, Bool, ◌&&◌, ◌==◌, not, ◌↔◌, IsTrue, unsigned_abs, ◌⊎◌}
use Rattle.raster_model.specs.declared.edge.Edge.{Edge}
use Rattle.raster_model.specs.Sums.{Field, at_edge_start, at_edge_end, is_edge, sum_edges, right_edge, down_edge}
use Rattle.raster_model.specs.Raster.{Raster, departure, has_open_ends, masked_weight, is_seam, over, seam_cost}
use Rattle.sums_and_lists.specs.Sums.{where_true}

abbrev pub IsOpenPixel : Raster → Field Bool → ℕ → ℕ → Type 0
IsOpenPixel raster mask x y = (x < raster.width) × (y < raster.height) × IsTrue (mask x y)

-- an inner edge with open ends
abbrev pub is_open_inner : Raster → Field Bool → Edge → Bool
is_open_inner raster mask edge = is_edge raster.width raster.height edge && has_open_ends mask edge && not (is_seam raster edge)

-- the pixel (x, y) and another are joined by a walk over inner edges with open ends, in either direction
pub data AreJoined (raster : Raster) (mask : Field Bool) (x y : ℕ) : ℕ → ℕ → Type 0 where
  here : AreJoined raster mask x y x y
  rightward : {a b : ℕ} → AreJoined raster mask x y a b → IsTrue (is_open_inner raster mask (right_edge a b)) → AreJoined raster mask x y (a + 1) b
  leftward : {a b : ℕ} → AreJoined raster mask x y (a + 1) b → IsTrue (is_open_inner raster mask (right_edge a b)) → AreJoined raster mask x y a b
  downward : {a b : ℕ} → AreJoined raster mask x y a b → IsTrue (is_open_inner raster mask (down_edge a b)) → AreJoined raster mask x y a (b + 1)
  upward : {a b : ℕ} → AreJoined raster mask x y a (b + 1) → IsTrue (is_open_inner raster mask (down_edge a b)) → AreJoined raster mask x y a b

-- the raster's pixels that pass the test are those of one region: the open pixels that are joined to one open pixel
pub record IsRegion (raster : Raster) (mask : Field Bool) (region : Field Bool) : Type 0 where
  pub x : ℕ
  pub y : ℕ
  pub inside : IsOpenPixel raster mask x y
  pub joined : (a b : ℕ) → a < raster.width → b < raster.height → IsTrue (region a b) ↔ (IsTrue (mask a b) × AreJoined raster mask x y a b)

-- (a, b) comes before (x, y) in row order
abbrev pub IsEarlier : ℕ → ℕ → ℕ → ℕ → Type 0
IsEarlier a b x y = (b < y) ⊎ ((b ≡ y) × (a < x))

-- (x, y) is the first open pixel in row order
abbrev pub IsFirstOpen : Raster → Field Bool → ℕ → ℕ → Type 0
IsFirstOpen raster mask x y = IsOpenPixel raster mask x y × ((a b : ℕ) → IsOpenPixel raster mask a b → IsEarlier a b x y → ⊥)

-- (x, y) is the first pixel of its region: an open pixel that is joined to no earlier one
abbrev pub IsFirst : Raster → Field Bool → ℕ → ℕ → Type 0
IsFirst raster mask x y = IsOpenPixel raster mask x y × ((a b : ℕ) → IsOpenPixel raster mask a b → IsEarlier a b x y → AreJoined raster mask x y a b → ⊥)

-- the open pixels with number v: those of region v
abbrev pub region_of : Field Bool → Field ℕ → ℕ → Field Bool
region_of mask labels v x y = mask x y && (labels x y == v)

-- labels tell the regions apart, and count them
pub record IsLabelling (raster : Raster) (mask : Field Bool) (labels : Field ℕ) (count : ℕ) : Type 0 where
  pub below : (x y : ℕ) → IsOpenPixel raster mask x y → labels x y < count
  pub used : (v : ℕ) → v < count → (x : ℕ) × (y : ℕ) × IsOpenPixel raster mask x y × (labels x y ≡ v)
  pub same : (x y a b : ℕ) → IsOpenPixel raster mask x y → IsOpenPixel raster mask a b → (labels x y ≡ labels a b) ↔ AreJoined raster mask x y a b

-- labels are the numbers of the regions: from 0, in the row order of their first pixels
pub record AreRegions (raster : Raster) (mask : Field Bool) (labels : Field ℕ) (count : ℕ) : Type 0 where
  pub labelling : IsLabelling raster mask labels count
  pub in_order : (x y a b : ℕ) → IsFirst raster mask x y → IsFirst raster mask a b → IsEarlier x y a b → labels x y < labels a b

-- there are no two such numberings, and no two such counts
abbrev pub RegionNumbersAreUnique : Type 0
RegionNumbersAreUnique = (raster : Raster) (mask : Field Bool) (labels : Field ℕ) (count : ℕ) (labels' : Field ℕ) (count' : ℕ) → AreRegions raster mask labels count → AreRegions raster mask labels' count' → (count ≡ count') × ((x y : ℕ) → IsOpenPixel raster mask x y → labels x y ≡ labels' x y)

-- whole numbers that are one number on each region: both ends of each inner edge with open ends have the same
abbrev pub AreOffsets : Raster → Field Bool → Field ℤ → Type 0
AreOffsets raster mask o = (edge : Edge) → IsTrue (is_open_inner raster mask edge) → at_edge_start o edge ≡ at_edge_end o edge

-- the surface moved by so many cycles at each pixel
abbrev pub shifted : Field ℤ → Field ℤ → Field ℤ
shifted S o x y = S x y +ℤ pos 65536 *ℤ o x y

-- the sum of F over the seam edges that end in a region, and over those that start in it
abbrev pub flow_in : Raster → (Edge → ℤ) → Field Bool → ℤ
flow_in raster F region = sum_edges raster.width raster.height (λ e. where_true (is_seam raster e && at_edge_end region e) (F e))

abbrev pub flow_out : Raster → (Edge → ℤ) → Field Bool → ℤ
flow_out raster F region = sum_edges raster.width raster.height (λ e. where_true (is_seam raster e && at_edge_start region e) (F e))

-- a flow times a departure, summed over the seam edges with open ends
unfoldable pub flow_total : Raster → Field Bool → Field ℤ → (Edge → ℤ) → ℤ
flow_total raster mask S F = sum_edges raster.width raster.height (λ e. where_true (is_seam raster e && has_open_ends mask e) (F e *ℤ departure raster S e))

-- by how much the size of the flow at a seam edge is above its weight, where it is above, and the sum over the seam edges
abbrev pub flow_over : Raster → Field Bool → (Edge → ℤ) → Edge → ℤ
flow_over raster mask F edge = where_true (is_seam raster edge) (pos (over (masked_weight raster mask edge) (F edge)))

unfoldable pub flow_over_total : Raster → Field Bool → (Edge → ℤ) → ℤ
flow_over_total raster mask F = sum_edges raster.width raster.height (flow_over raster mask F)

-- the sum of flow times departure, less those amounts: no offsets of the regions make the seams cost less
abbrev pub flow_bound : Raster → Field Bool → Field ℤ → (Edge → ℤ) → ℤ
flow_bound raster mask S F = flow_total raster mask S F -ℤ flow_over_total raster mask F

-- flows certify the seams of a surface: they are bounded by the steepness times the weights, masked ends included, balanced at each region, and their bound is the cost
pub record IsSeamCertificate (raster : Raster) (mask : Field Bool) (S : Field ℤ) (F : Edge → ℤ) : Type 0 where
  pub bounded : (e : Edge) → IsTrue (is_edge raster.width raster.height e) → IsTrue (is_seam raster e) → unsigned_abs (F e) ≤ raster.steep * masked_weight raster mask e
  pub balanced : (region : Field Bool) → IsRegion raster mask region → flow_in raster F region ≡ flow_out raster F region
  pub equal : flow_bound raster mask S F ≡ seam_cost raster mask S

-- the surface has the phase at the first open pixel in row order, where there is one
abbrev pub IsAnchored : Raster → Field Bool → Field ℤ → Type 0
IsAnchored raster mask S = (x y : ℕ) → IsOpenPixel raster mask x y → ((a b : ℕ) → IsOpenPixel raster mask a b → IsEarlier a b x y → ⊥) → S x y ≡ pos (raster.phase x y)

-- no whole-cycle offsets of the regions make the seams cost less
abbrev pub IsLeastAtSeams : Raster → Field Bool → Field ℤ → Type 0
IsLeastAtSeams raster mask S = (o : Field ℤ) → AreOffsets raster mask o → seam_cost raster mask S ≤ℤ seam_cost raster mask (shifted S o)
