use Rattle.mask_revisions.specs.Steps.{AreStamped}
use Rattle.mask_revisions.proofs.changes.restamp.Given as goal

abbrev pub invariant-loop-tile : goal.invariant-loop-tile
invariant-loop-tile l = AreStamped l.fn.stamps l.stamps l.tiles l.tile-index l.stamp
