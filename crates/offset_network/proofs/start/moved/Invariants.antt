use Rattle.std.proofs.Common.{length}
use Rattle.offset_network.specs.Seams.{JoinRegions}
use Rattle.offset_network.specs.Starts.{AreMovedLinks}
use Rattle.offset_network.proofs.start.moved.Given as goal

abbrev pub invariant-loop-link : goal.invariant-loop-link
invariant-loop-link l = record {
  moved : AreMovedLinks l.offsets l.links l.link-index l.moved.items;
  join : JoinRegions (length l.offsets) l.moved.items;
}
