use Rattle.std.proofs.Common.{ℕ, ◌-◌, ◌<◌, ◌≤◌}
use Rattle.text_lines.specs.Adding.{Adds}
use Rattle.text_lines.specs.Views.{view_of}
use Rattle.text_pages.specs.Dealing.{begin_of}
use Rattle.text_pages.specs.Passages.{texts_from}
use Rattle.text_pages.proofs.spread.add_pages.Given as goal

abbrev pub invariant-loop-place : goal.invariant-loop-place
invariant-loop-place g l = record {
  added : Adds (view_of g.K.Sink.held g.K.Sink.faults l.fn.text) (view_of g.K.Sink.held g.K.Sink.faults l.text) (texts_from (g.P.Passages.words l.passages) l.deal.start (begin_of l.deal l.place - l.deal.start));
  known : (i : ℕ) → l.deal.start ≤ i → i < begin_of l.deal l.place → g.P.Passages.known l.passages i;
}
