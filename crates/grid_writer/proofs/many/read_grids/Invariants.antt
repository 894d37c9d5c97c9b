use Rattle.std.proofs.Common.{◌≡◌, ℕ}
use Rattle.insar_ports.specs.Calls.{Moves, Takes, call_of}
use Rattle.insar_ports.specs.Feeding.{limit_of, source_name}
use Rattle.grid_writer.specs.ManyGrids.{AreGrids, grids_of, text_of_grids}
use Rattle.grid_writer.proofs.many.read_grids.Given as goal

abbrev pub invariant-loop-whole : goal.invariant-loop-whole
invariant-loop-whole g l = record {
  name : source_name l.feed ≡ source_name l.fn.feed;
  limit : limit_of l.feed ≡ limit_of l.fn.feed;
  moves : Moves (call_of g.S.Source.left g.S.Source.faults l.fn.feed l.feed);
  are : (width height : ℕ) × AreGrids l.whole width height (grids_of l.grids.items);
  taken : Takes (call_of g.S.Source.left g.S.Source.faults l.fn.feed l.feed) (λ text rest. text ≡ text_of_grids (grids_of l.grids.items));
}
