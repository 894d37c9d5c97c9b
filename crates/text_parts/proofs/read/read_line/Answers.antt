use Rattle.std.proofs.Common.{arith, refl, ◌∙◌}
use Rattle.text_parts.proofs.ReadsLemmas.{line_ended, line_unread}
use Rattle.text_parts.proofs.read.read_line.Goals as goal

pub returns-in_err-next : goal.returns-in_err-next
returns-in_err-next g c =
    let f = c.next.new.feed in
    let e = c.in_err-next.ensures in
    line_unread c.from_residual.result c.in_err-next.field-0.0 c.from_residual.ensures.1 (record { source = e.same_source; limit = e.same_limit; moves = e.moves }) (omega (arith, f.limited, f.counted, f.ordered, f.bounded)) e.refused

pub returns-in-Whole : goal.returns-in-Whole
returns-in-Whole g c =
    let f = c.next.new.feed in
    let e = c.in_ok-next.ensures in
    record {
      advance = record { source = e.same_source; limit = e.same_limit; moves = e.moves };
      number = e.number;
      few = omega (arith, f.limited, f.counted, f.ordered, f.bounded);
      line = rw c.in-Whole.is at e.line;
      further = rw c.in-Whole.is at e.further refl;
      refused = tt;
    }

pub returns-in-Long : goal.returns-in-Long
returns-in-Long g c =
    let f = c.next.new.feed in
    let e = c.in_ok-next.ensures in
    line_ended _ c.in_ok-next.field-0 c.in-Long.is (c.number.ensures ∙ e.number) (record { source = e.same_source; limit = e.same_limit; moves = e.moves }) (omega (arith, f.limited, f.counted, f.ordered, f.bounded)) e.line
