use Rattle.std.proofs.Common.{◌∙◌, Err, ap, arith, rules, sym}
use Rattle.std.proofs.lemmas.Result.{err_from_is_err_and}
use Rattle.insar_ports.specs.Calls.{call_of}
use Rattle.insar_ports.specs.Feeding.{ready_of}
use Rattle.text_lines.specs.LineWords.{kept_line}
use Rattle.text_lines.proofs.StepLemmas.{moves_not}
use Rattle.text_lines.proofs.TakeLemmas.{none_left, part_taken, peek_fails}
use Rattle.text_lines.proofs.lines.Lines.take_part.Goals as goal

pub returns-in_err-peek-clause-moves : goal.returns-in_err-peek-clause-moves
returns-in_err-peek-clause-moves g c = moves_not c.peek.ensures.left c.peek.ensures.handed c.peek.ensures.grows

pub returns-in_err-peek-clause-refused : goal.returns-in_err-peek-clause-refused
returns-in_err-peek-clause-refused g c =
    let p = err_from_is_err_and c.from_residual.result c.from_residual.ensures.1 in
    let of = c.peek.ensures in
    let was = c.in_err-peek.was {u = tt} in
    rw (p.1, p.2) (peek_fails (call_of g.S.Source.left g.S.Source.faults c.args.feed.now c.peek.new.self) of.left of.handed c.in_err-peek.field-0.0 (λ e. of.read_fault (was ∙ ap Err e)) (λ e. of.too_long (was ∙ ap Err e)) (λ e. of.more (was ∙ ap Err e)))

pub returns-then-is_none-clause-moves : goal.returns-then-is_none-clause-moves
returns-then-is_none-clause-moves g c = moves_not c.peek.ensures.left c.peek.ensures.handed c.peek.ensures.grows

pub returns-then-is_none-clause-part : goal.returns-then-is_none-clause-part
returns-then-is_none-clause-part g c =
    none_left (call_of g.S.Source.left g.S.Source.faults c.args.feed.now c.peek.new.self) c.peek.ensures.left c.peek.ensures.handed (c.peek.ensures.ended (search rules))

pub returns-in_err-keep-clause-moves : goal.returns-in_err-keep-clause-moves
returns-in_err-keep-clause-moves g c = moves_not c.peek.ensures.left c.peek.ensures.handed c.peek.ensures.grows

pub returns-clause-part : goal.returns-clause-part
returns-clause-part g c =
    let p = c.before_line_feed-ended in
    part_taken (call_of g.S.Source.left g.S.Source.faults c.args.feed.now c.consume.new.self) c.args.most (kept_line c.args.self.now) (kept_line c.keep.new.self) (ready_of c.peek.new.self) p.result.0.now p.result.1 c.from.result
    (rw c.waiting.ensures.value at p.ensures.front) c.from.ensures (sym c.peek.ensures.left ∙ c.consume.ensures.left) (omega (arith, c.consume.ensures.handed, c.peek.ensures.handed)) p.ensures.inside c.in_ok-keep.ensures.kept
