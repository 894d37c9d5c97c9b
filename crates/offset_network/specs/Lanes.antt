-- Lanes: the parts of the flows on links. What flows on a link is the sum of what flows on its three lanes, of which each takes a part of it for one departure. No public clause cites this file.
use Rattle.raster_model.specs.declared.limits.TheConstants.{MAX_FURTHER_COST, MAX_REGIONS, MAX_SEAM_DEPARTURE}
use Rattle.std.specs.Prelude.{◌≡◌, ℕ, zero, suc, ◌+◌, ◌-◌, ◌*◌, ◌<◌, ◌≤◌, ◌==◌, ℤ, pos, negsuc, neg_ℤ, ◌-ℤ◌, Option, Some, None, List, [], ◌∷◌, ◌++◌, length, slice_index_or, unsigned_abs, if◌then◌else◌}
use Rattle.offset_guess.specs.declared.link.Link.{Link}
use Rattle.offset_network.specs.declared.lane.Lane.{Lane}
use Rattle.offset_network.specs.Links.{link_at}
use Rattle.sums_and_lists.specs.Sums.{count_below, where_true}

-- the lane at a place
abbrev pub lane_at : List (Option Lane) → ℕ → Option Lane
lane_at lanes i = slice_index_or lanes i None

-- the end of the range from -low to high to which a departure points, and 0 if there is none
abbrev pub toward : ℤ → ℕ → ℕ → ℤ
toward (pos zero) low high = pos 0
toward (pos (suc n)) low high = pos high
toward (negsuc n) low high = neg_ℤ (pos low)

-- the flow of a lane at the start
abbrev pub lane_start : Lane → ℤ
lane_start k = toward k.departure k.low k.high

abbrev pub start_flow : Option Lane → ℤ
start_flow None = pos 0
start_flow (Some k) = lane_start k

-- what a flow on a lane brings to a region: what ends there minus what starts there
abbrev pub brings : Option Lane → ℕ → ℤ → ℤ
brings None v x = pos 0
brings (Some k) v x = where_true (k.to == v) x -ℤ where_true (k.from == v) x

-- how many arcs a lane has: one and its twin
abbrev pub arcs_of : Option Lane → ℕ
arcs_of None = 0
arcs_of (Some k) = 2

-- how many arcs the first i places have
abbrev pub arcs_before : List (Option Lane) → ℕ → ℕ
arcs_before lanes i = count_below i (λ j. arcs_of (lane_at lanes j))

-- a lane joins two of n regions, and its range and departure are no greater than these can be
pub record IsLane (n : ℕ) (k : Lane) : Type 0 where
  pub from : k.from < n
  pub to : k.to < n
  pub low : k.low ≤ MAX_FURTHER_COST
  pub high : k.high ≤ MAX_FURTHER_COST
  pub departure : unsigned_abs k.departure ≤ (MAX_SEAM_DEPARTURE + 1)

abbrev pub IsLaneIn : ℕ → Option Lane → Type 0
IsLaneIn n o = (k : Lane) → o ≡ Some k → IsLane n k

-- lanes between n regions, of which there are no more than three for each edge that a raster can have
pub record AreLanes (n : ℕ) (lanes : List (Option Lane)) : Type 0 where
  pub few : length lanes ≤ 100663296
  pub regions : n ≤ MAX_REGIONS
  pub each : (i : ℕ) → IsLaneIn n (lane_at lanes i)

-- a lane of a link for the departure less so much, if anything can flow on it
abbrev pub part_of : Link → ℕ → ℕ → ℤ → Option Lane
part_of link low high less = if low + high == 0 then None else Some (record { from = link.from; to = link.to; low = low; high = high; departure = link.departure -ℤ less })

abbrev pub lane_of : Option Link → ℕ → ℕ → ℤ → Option Lane
lane_of None low high less = None
lane_of (Some k) low high less = part_of k low high less

abbrev pub weight_of : Option Link → ℕ
weight_of None = 0
weight_of (Some k) = k.weight

-- by how much more than its weight a link can take at a steepness
abbrev pub more_of : ℕ → Option Link → ℕ
more_of steep o = (steep - 1) * weight_of o

-- The lanes of a link: up to the weight either way, and beyond it for what departs by more than a cycle upwards, and downwards.
abbrev pub lane_near : Option Link → Option Lane
lane_near o = lane_of o (weight_of o) (weight_of o) (pos 0)

abbrev pub lane_above : ℕ → Option Link → Option Lane
lane_above steep o = lane_of o 0 (more_of steep o) (pos 1)

abbrev pub lane_below : ℕ → Option Link → Option Lane
lane_below steep o = lane_of o (more_of steep o) 0 (neg_ℤ (pos 1))

-- the list with these three after its end
abbrev pub with_lanes : ℕ → Option Link → List (Option Lane) → List (Option Lane)
with_lanes steep o lanes = ((lanes ++ lane_near o ∷ []) ++ lane_above steep o ∷ []) ++ lane_below steep o ∷ []

-- the list has the lanes of the first i links, three for each
pub record AreLanesOf (steep : ℕ) (links : List (Option Link)) (i : ℕ) (lanes : List (Option Lane)) : Type 0 where
  pub count : length lanes ≡ 3 * i
  pub near : (j : ℕ) → j < i → lane_at lanes (3 * j) ≡ lane_near (link_at links j)
  pub above : (j : ℕ) → j < i → lane_at lanes (3 * j + 1) ≡ lane_above steep (link_at links j)
  pub below : (j : ℕ) → j < i → lane_at lanes (3 * j + 2) ≡ lane_below steep (link_at links j)
