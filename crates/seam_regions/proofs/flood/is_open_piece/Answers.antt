use Rattle.sums_and_lists.proofs.Tests.{true_and_false}
use Rattle.seam_regions.proofs.flood.is_open_piece.Goals as goal

pub returns-then-piece : goal.returns-then-piece
returns-then-piece c t = record {
  own = c.is_open_span.ensures.0 c.if-not-is_open_span.false;
  upper = λ e. absurd (true_and_false c.args.piece.top c.if-piece.true e);
}

pub returns : goal.returns
returns c t = record {
  own = c.is_open_span.ensures.0 c.if-not-is_open_span.false;
  upper = λ e. c.is_open_span-2.ensures.0 t;
}
