-- Where the network starts: an offset for each region, and the links of the surface with these offsets. No public clause cites this file.
use Rattle.offset_network.specs.declared.start.TheConstants.{MAX_START}
use Rattle.std.specs.Prelude.{◌≡◌, ℕ, ◌<◌, ◌≤◌, ℤ, pos, ◌+ℤ◌, ◌-ℤ◌, Option, Some, None, List, length, slice_index_or, unsigned_abs}
use Rattle.offset_guess.specs.declared.link.Link.{Link}
use Rattle.offset_network.specs.declared.start.Start.{Start}
use Rattle.offset_network.specs.Links.{AreLinks, link_at}

-- one offset for each of n regions, each from -2 ^ 42 to 2 ^ 42
pub record AreStartOffsets (n : ℕ) (offsets : List ℤ) : Type 0 where
  pub count : length offsets ≡ n
  pub small : (v : ℕ) → v < n → unsigned_abs (slice_index_or offsets v (pos 0)) ≤ MAX_START

-- a link's departure once its regions have these offsets
abbrev pub moved_departure : List ℤ → Link → ℤ
moved_departure offsets link = link.departure +ℤ slice_index_or offsets link.to (pos 0) -ℤ slice_index_or offsets link.from (pos 0)

abbrev pub moved_link : List ℤ → Option Link → Option Link
moved_link offsets None = None
moved_link offsets (Some k) = Some (record { from = k.from; to = k.to; weight = k.weight; departure = moved_departure offsets k })

-- the first i links, moved
pub record AreMovedLinks (offsets : List ℤ) (links : List (Option Link)) (i : ℕ) (moved : List (Option Link)) : Type 0 where
  pub count : length moved ≡ i
  pub each : (j : ℕ) → j < i → link_at moved j ≡ moved_link offsets (link_at links j)

-- a start in a network of n regions, with all these links moved
pub record IsStart (n : ℕ) (links : List (Option Link)) (start : Start) : Type 0 where
  pub small : AreStartOffsets n start.offsets.items
  pub fit : AreLinks n start.links.items
  pub moved : AreMovedLinks start.offsets.items links (length links) start.links.items
