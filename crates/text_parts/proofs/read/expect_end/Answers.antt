use Rattle.std.proofs.Common.{◌∙◌}
use Rattle.std.proofs.lemmas.Result.{err_from_is_err_and}
use Rattle.insar_ports.specs.Feeding.{faults_of, limit_of}
use Rattle.text_lines.specs.LineWords.{HasNextCause, IsLineRead, kept_line, lines_read}
use Rattle.text_parts.proofs.ParseLemmas.{not_none}
use Rattle.text_parts.proofs.EndLemmas.{more_line, more_next, same_call}
use Rattle.text_parts.proofs.read.expect_end.Goals as goal

pub returns-in_err-next-clause-refused : goal.returns-in_err-next-clause-refused
returns-in_err-next-clause-refused g c =
    let p = err_from_is_err_and c.from_residual-in_err-next.result c.from_residual-in_err-next.ensures.1 in
    rw (p.1, p.2) (more_next _ _ _ _ _ _ _ _ (lines_read c.args.lines.now) c.in_err-next.field-0.0 c.peek.ensures.grows (same_call c.peek.ensures.left c.peek.ensures.handed c.peek.ensures.limit (λ k. HasNextCause k c.in_err-next.field-0.0) c.in_err-next.ensures.refused))

pub returns-clause-refused : goal.returns-clause-refused
returns-clause-refused g c = (
  c.number.ensures ∙ c.in_ok-next.ensures.number,
  more_line _ _ _ _ (limit_of c.args.feed.now) 0 (faults_of g.S.Source.faults c.peek.new.self) (faults_of g.S.Source.faults c.next.new.feed) c.in_ok-peek.field-0 c.in_ok-peek.ensures.byte (not_none c.in_ok-peek.field-0 c.is_none.result c.is_none.ensures c.if-is_none.false) 0 (kept_line c.next.new.self) c.in_ok-next.field-0 (same_call {before = faults_of g.S.Source.faults c.peek.new.self} {after = faults_of g.S.Source.faults c.next.new.feed} c.peek.ensures.left c.peek.ensures.handed c.peek.ensures.limit (λ k. IsLineRead 0 (kept_line c.next.new.self) k c.in_ok-next.field-0) c.in_ok-next.ensures.line),
)
