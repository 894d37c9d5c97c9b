use Rattle.std.proofs.Common.{map}
use Rattle.surface_snapshots.specs.Views.{parts_of}
use Rattle.report_text.specs.Appending.{IsSmallItem}
use Rattle.report_text.specs.Text.{item_text}
use Rattle.report_text.proofs.ItemLemmas.{AreAdded}
use Rattle.text_lines.specs.Views.{view_of}
use Rattle.report_text.proofs.report.add_items.Given as goal

abbrev pub invariant-loop-entry : goal.invariant-loop-entry
invariant-loop-entry g l = record {
  ready : g.C.Scribe.ready l.scribe;
  items : AreAdded (item_text l.session.scene.phase.width l.session.scene.phase.height l.tiles) (IsSmallItem l.session.scene.phase.width l.session.scene.phase.height l.tiles) l.entries (map parts_of l.snapshots) l.entry-index l.place (view_of g.K.Sink.held g.K.Sink.faults l.fn.text) (view_of g.K.Sink.held g.K.Sink.faults l.text);
}
