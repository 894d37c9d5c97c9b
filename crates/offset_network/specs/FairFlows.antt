-- Flows on links that certify offsets of the regions. No public clause cites this file.
use Rattle.std.specs.Prelude.{◌≡◌, ℕ, ◌*◌, ◌<◌, ◌≤◌, ◌==◌, ℤ, pos, ◌-ℤ◌, ◌*ℤ◌, Option, Some, None, List, length, slice_index_or, unsigned_abs}
use Rattle.raster_model.specs.Raster.{over, steps}
use Rattle.offset_guess.specs.declared.link.Link.{Link}
use Rattle.offset_network.specs.Links.{link_at}
use Rattle.offset_network.specs.Starts.{moved_departure}
use Rattle.sums_and_lists.specs.Sums.{sum_below, where_true}

-- the flow at a place
abbrev pub flow_on : List ℤ → ℕ → ℤ
flow_on flows i = slice_index_or flows i (pos 0)

-- a flow is no greater than the steepness times the weight of its link, and bounds what the link costs by that cost itself: for the departure with the offsets, the flow times it, less what the flow is above the weight, is the weight times the steps
pub record MeetsCost (steep : ℕ) (offsets : List ℤ) (link : Link) (flow : ℤ) : Type 0 where
  pub small : unsigned_abs flow ≤ steep * link.weight
  pub equal : (flow *ℤ moved_departure offsets link) -ℤ pos (over link.weight flow) ≡ pos (link.weight * steps steep (moved_departure offsets link))

-- and where there is no link, nothing flows
abbrev pub IsFairFlow : ℕ → List ℤ → Option Link → ℤ → Type 0
IsFairFlow steep offsets None flow = flow ≡ pos 0
IsFairFlow steep offsets (Some k) flow = MeetsCost steep offsets k flow

-- the flows at the first i places
abbrev pub AreFairBefore : ℕ → List ℤ → List (Option Link) → List ℤ → ℕ → Type 0
AreFairBefore steep offsets links flows i = (j : ℕ) → j < i → IsFairFlow steep offsets (link_at links j) (flow_on flows j)

-- what a flow on a link brings to a region, and what the flows at the first i places do
abbrev pub brought_by : Option Link → ℤ → ℕ → ℤ
brought_by None x v = pos 0
brought_by (Some k) x v = where_true (k.to == v) x -ℤ where_true (k.from == v) x

abbrev pub brought_at : List (Option Link) → List ℤ → ℕ → ℕ → ℤ
brought_at links flows v j = brought_by (link_at links j) (flow_on flows j) v

unfoldable pub brought_before : List (Option Link) → List ℤ → ℕ → ℕ → ℤ
brought_before links flows i v = sum_below i (brought_at links flows v)

-- one flow for each link, each fair, and as much flows into each of n regions as out of it
pub record AreFairFlows (steep n : ℕ) (offsets : List ℤ) (links : List (Option Link)) (flows : List ℤ) : Type 0 where
  pub count : length flows ≡ length links
  pub each : AreFairBefore steep offsets links flows (length links)
  pub balanced : (v : ℕ) → v < n → brought_before links flows (length links) v ≡ pos 0
