use Rattle.std.proofs.Common.{ℕ, ◌-◌, ◌<◌, ◌≤◌, length}
use Rattle.text_lines.specs.Adding.{Adds}
use Rattle.text_lines.specs.Views.{view_of}
use Rattle.text_pages.specs.Dealing.{AreDealt}
use Rattle.text_pages.specs.Passages.{texts_from}
use Rattle.text_pages.proofs.spread.add_rounds.Given as goal

abbrev pub invariant-loop-deal : goal.invariant-loop-deal
invariant-loop-deal g l = record {
  until : l.deal.until ≤ l.count;
  left : l.deal.start < l.count → l.deal.start < l.deal.until;
  share : 0 < l.deal.share;
  some : (0 < length l.pages) × (0 < length l.others);
  dealt : AreDealt (g.P.Passages.words l.passages) (g.P.Passages.known l.passages) l.deal l.pages;
  added : Adds (view_of g.K.Sink.held g.K.Sink.faults l.fn.text) (view_of g.K.Sink.held g.K.Sink.faults l.text) (texts_from (g.P.Passages.words l.passages) 0 (l.deal.start - 0));
  known : (i : ℕ) → i < l.deal.start → g.P.Passages.known l.passages i;
}

abbrev pub decreases-loop-deal : goal.decreases-loop-deal
decreases-loop-deal g l = l.count - l.deal.start
