use Rattle.std.proofs.Common.{◌∙◌, ◌≡◌, ap, sym, arith, List, ℕ, length}
use Rattle.std.proofs.lemmas.Result.{err_from_is_err_and}
use Rattle.insar_ports.specs.Calls.{call_of}
use Rattle.text_lines.specs.Forms.{IsLine}
use Rattle.text_lines.specs.LineWords.{kept_line, lines_read}
use Rattle.text_lines.proofs.FormLemmas.{in_line}
use Rattle.text_lines.proofs.CauseLemmas.{broken_line, cause_unread, taken_line}
use Rattle.text_lines.proofs.NumberLemmas.{agree}
use Rattle.text_lines.proofs.ParseLemmas.{is_other}
use Rattle.text_lines.proofs.LineLemmas.{begins_line}
use Rattle.text_lines.proofs.expect.expect_line.Goals as goal
use Rattle.text_lines.proofs.expect.expect_line.Goals.{in_default-via-in-Whole+else-eq, in_default-via-in_default}

pub returns-in_err-next-clause-refused : goal.returns-in_err-next-clause-refused
returns-in_err-next-clause-refused g c =
    let p = err_from_is_err_and c.from_residual.result c.from_residual.ensures.1 in
    rw (p.1, p.2) (cause_unread (λ (line : List ℕ). line ≡ c.args.text.now) (IsLine c.args.text.now) (begins_line c.args.text.now (in_line c.args.text.now c.requires)) (lines_read c.args.lines.now) (call_of g.S.Source.left g.S.Source.faults c.args.feed.now c.next.new.feed) c.in_err-next.field-0.0 c.in_err-next.ensures.refused)

pub returns-in-Whole-clause-read : goal.returns-in-Whole-clause-read
returns-in-Whole-clause-read g c =
    taken_line (call_of g.S.Source.left g.S.Source.faults c.args.feed.now c.next.new.feed) (length c.args.text.now) (lines_read c.next.new.self) (lines_read c.args.lines.now) (kept_line c.next.new.self) c.args.text.now c.in_ok-next.field-0 c.in_ok-next.ensures.number
    (sym c.line.ensures ∙ agree c.line.result.now c.args.text.now c.eq.result c.eq.ensures c.if-eq.true) c.in-Whole.is c.in_ok-next.ensures.line

pub returns-in_default-clause-refused : goal.returns-in_default-clause-refused
returns-in_default-clause-refused g c =
    broken_line (λ (line : List ℕ). line ≡ c.args.text.now) (IsLine c.args.text.now) (begins_line c.args.text.now (in_line c.args.text.now c.requires)) (lines_read c.args.lines.now) (call_of g.S.Source.left g.S.Source.faults c.args.feed.now c.next.new.feed) c.in_ok-next.field-0 (length c.args.text.now) (kept_line c.next.new.self) c.number.result
    (c.number.ensures ∙ c.in_ok-next.ensures.number) c.in_ok-next.ensures.line
    (λ whole e. elim c.in_default.branch [
      | in_default-via-in-Whole+else-eq w ↦ is_other w.line.result.now c.args.text.now w.eq.result w.eq.ensures w.if-eq.false (w.line.ensures ∙ e)
      | in_default-via-in_default w ↦ w.in_default.not-Whole whole
    ])
    (λ line e. omega (arith, ap length e))
