-- Seam edges with open ends as links between regions, in edge order; None stands for a seam edge with a masked end. No public clause cites this file.
use Rattle.raster_model.specs.declared.limits.TheConstants.{MAX_TILED_NODES, MAX_REGIONS, MAX_SEAM_DEPARTURE, MAX_WEIGHT}
use Rattle.std.specs.Prelude.{◌*◌, ◌≡◌, ℕ, ◌<◌, ◌≤◌, Option, Some, None, List, length, slice_index_or, unsigned_abs}
use Rattle.offset_guess.specs.declared.link.Link.{Link}

-- the link at a place
abbrev pub link_at : List (Option Link) → ℕ → Option Link
link_at links i = slice_index_or links i None

-- a link joins two of n regions, and its weight and departure are no greater than these can be
pub record IsLink (n : ℕ) (link : Link) : Type 0 where
  pub from : link.from < n
  pub to : link.to < n
  pub weight : link.weight ≤ MAX_WEIGHT
  pub departure : unsigned_abs link.departure ≤ MAX_SEAM_DEPARTURE

abbrev pub IsLinkIn : ℕ → Option Link → Type 0
IsLinkIn n o = (link : Link) → o ≡ Some link → IsLink n link

-- links between n regions, of which there are no more than a raster can have edges
pub record AreLinks (n : ℕ) (links : List (Option Link)) : Type 0 where
  pub few : length links ≤ 2 * MAX_TILED_NODES
  pub regions : n ≤ MAX_REGIONS
  pub each : (i : ℕ) → IsLinkIn n (link_at links i)
