use Rattle.std.proofs.Common.{◌-◌}
use Rattle.std.specs.List.{AllByRecursion}
use Rattle.insar_ports.specs.Feeding.{handed_of, limit_of}
use Rattle.report_text.specs.Fitting.{MayFit}
use Rattle.report_text.specs.Parts.{AreItems, items_in}
use Rattle.text_parts.specs.Steps.{Took, place_of}
use Rattle.report_text.proofs.ItemForms.{texts}
use Rattle.report_text.proofs.read.read_items.Given as goal

abbrev pub invariant-loop-items : goal.invariant-loop-items
invariant-loop-items g l = record {
  took : Took (texts l.head.width l.head.height l.head.tiles (items_in l.items)) (place_of g.S.Source.left g.S.Source.faults l.fn.feed l.fn.lines) (place_of g.S.Source.left g.S.Source.faults l.feed l.lines);
  fits : AllByRecursion (λ i. MayFit l.head.width l.head.height l.head.tiles i.surface) l.items.items;
  ranges : AreItems l.head.width l.head.height l.head.tiles (items_in l.items);
}

abbrev pub decreases-loop-items : goal.decreases-loop-items
decreases-loop-items g l = limit_of l.feed - handed_of l.feed
