use Rattle.std.proofs.Common.{◌*◌}
use Rattle.std.specs.Prelude.{◌≡◌, length, min}
use Rattle.std.specs.Int.{div_ceil}
use Rattle.offset_network.specs.Strips.{AreFound, AreLinksOfRows}
use Rattle.offset_network.proofs.strips.links_of_strips.Given as goal

abbrev pub invariant-loop-place : goal.invariant-loop-place
invariant-loop-place g l = record {
  same : length l.strips ≡ div_ceil l.surface.scene.now.phase.height l.fn.rows;
  found : AreFound l.surface l.regions l.fn.rows l.strips;
  joined : AreLinksOfRows l.surface l.regions 0 (min (l.place * l.fn.rows) l.surface.scene.now.phase.height) l.links.items;
}
