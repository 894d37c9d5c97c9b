use Rattle.std.proofs.Common.{◌≡◌, ℕ, ◌<◌, take}
use Rattle.std.specs.Prelude.{Some, slice_get}
use Rattle.report_text.specs.Certified.{IsCertifiedAfter, history_of}
use Rattle.report_text.specs.Contents.{report_told}
use Rattle.report_text.specs.Reports.{ItemOf}
use Rattle.report_check.specs.Replays.{IsReplayOf, entries_in}
use Rattle.report_check.proofs.surfaces.first_fault.Given as goal

abbrev pub invariant-loop-item : goal.invariant-loop-item
invariant-loop-item l = record {
  replay : IsReplayOf l.session (take l.item-index (entries_in l.report.items.items)) l.replay;
  before : (k : ℕ) (i : ItemOf) → k < l.item-index → slice_get (report_told l.report).items k ≡ Some i → IsCertifiedAfter l.session (history_of (report_told l.report)) i.entry i.surface;
}
