-- The links of a raster's seam edges. No public clause cites this file.
use Rattle.std.specs.Prelude.{◌≡◌, ℕ, ◌+◌, ◌<◌, ◌≤◌, ℤ, Bool, IsTrue, Option, Some, None, List, length, if◌then◌else◌}
use Rattle.raster_model.specs.declared.edge.Edge.{Edge}
use Rattle.raster_model.specs.Sums.{Field, at_edge_start, at_edge_end}
use Rattle.raster_model.specs.Raster.{Raster, cycle_departure, has_open_ends}
use Rattle.raster_model.specs.Flows.{is_seam_edge, seam_count, seam_place, seams_before, seams_from}
use Rattle.certificates.specs.EdgeWords.{HoldsFrom}
use Rattle.certificates.specs.SeamVerdicts.{IsSeamEdge}
use Rattle.offset_guess.specs.declared.link.Link.{Link}
use Rattle.offset_network.specs.Links.{IsLinkIn, link_at}
use Rattle.sums_and_lists.specs.Sums.{one_if}

-- the link of a seam edge, by the regions' labels and the cycles of a surface
abbrev pub link_of : Raster → Field Bool → Field ℕ → Field ℤ → Edge → Option Link
link_of raster mask labels cycles edge = if has_open_ends mask edge then Some (record { from = at_edge_start labels edge; to = at_edge_end labels edge; weight = raster.weight edge; departure = cycle_departure raster cycles edge }) else None

-- the list has the edge's link at the edge's place
pub record IsPlaced (raster : Raster) (mask : Field Bool) (labels : Field ℕ) (cycles : Field ℤ) (links : List (Option Link)) (edge : Edge) : Type 0 where
  pub below : seam_place raster edge < length links
  pub link : link_at links (seam_place raster edge) ≡ link_of raster mask labels cycles edge

-- the same of a list that begins at a place
pub record IsPlacedFrom (raster : Raster) (mask : Field Bool) (labels : Field ℕ) (cycles : Field ℤ) (start : ℕ) (links : List (Option Link)) (edge : Edge) : Type 0 where
  pub behind : ℕ
  pub place : seam_place raster edge ≡ start + behind
  pub below : behind < length links
  pub link : link_at links behind ≡ link_of raster mask labels cycles edge

-- the list, which begins with the links of row a, has the edge's link if the edge starts in this row or after it
abbrev pub IsPlacedSince : Raster → Field Bool → Field ℕ → Field ℤ → ℕ → List (Option Link) → Edge → Type 0
IsPlacedSince raster mask labels cycles a links edge = a ≤ edge.y → IsPlacedFrom raster mask labels cycles (seams_before raster 0 a) links edge

-- each link joins two of n regions
abbrev pub JoinRegions : ℕ → List (Option Link) → Type 0
JoinRegions n links = (i : ℕ) → IsLinkIn n (link_at links i)

-- the new list is the old one with the link of an edge added, if it is a seam edge; so it is placed wherever the list begins
pub record AddsLink (raster : Raster) (mask : Field Bool) (labels : Field ℕ) (n : ℕ) (cycles : Field ℤ) (edge : Edge) (old new : List (Option Link)) : Type 0 where
  pub count : length new ≡ length old + one_if (is_seam_edge raster edge)
  pub kept : (i : ℕ) → i < length old → link_at new i ≡ link_at old i
  pub placed : (start : ℕ) → start + length old ≡ seam_place raster edge → IsTrue (is_seam_edge raster edge) → IsPlacedFrom raster mask labels cycles start new edge
  pub join : JoinRegions n old → JoinRegions n new

-- the new list is the old one with the links of the edges that start at a pixel added
pub record AddsLinksFrom (raster : Raster) (mask : Field Bool) (labels : Field ℕ) (n : ℕ) (cycles : Field ℤ) (x y : ℕ) (old new : List (Option Link)) : Type 0 where
  pub count : length new ≡ length old + seams_from raster x y
  pub kept : (i : ℕ) → i < length old → link_at new i ≡ link_at old i
  pub placed : (start : ℕ) → start + length old ≡ seams_before raster x y → HoldsFrom (IsSeamEdge raster) (IsPlacedFrom raster mask labels cycles start new) x y
  pub join : JoinRegions n old → JoinRegions n new

-- the list has a link for each seam edge that starts in the rows from a to before b, in edge order
pub record AreStripLinks (raster : Raster) (mask : Field Bool) (labels : Field ℕ) (cycles : Field ℤ) (a b : ℕ) (links : List (Option Link)) : Type 0 where
  pub count : seams_before raster 0 a + length links ≡ seams_before raster 0 b
  pub each : (e : Edge) → IsTrue (is_seam_edge raster e) → a ≤ e.y → e.y < b → IsPlacedFrom raster mask labels cycles (seams_before raster 0 a) links e

-- the list has a link for each seam edge, in edge order
pub record AreSeamLinks (raster : Raster) (mask : Field Bool) (labels : Field ℕ) (cycles : Field ℤ) (links : List (Option Link)) : Type 0 where
  pub count : length links ≡ seam_count raster
  pub each : (e : Edge) → IsTrue (is_seam_edge raster e) → IsPlaced raster mask labels cycles links e
