use Rattle.std.proofs.Common.{◌∙◌, ap, Err}
use Rattle.std.proofs.lemmas.Result.{err_from_is_err_and}
use Rattle.session_script.proofs.CallLemmas.{reads_line, line_failed}
use Rattle.session_script.proofs.script.read_word.Goals as goal

pub returns-in_err-found-clause-parses : goal.returns-in_err-found-clause-parses
returns-in_err-found-clause-parses g c =
    let p = err_from_is_err_and c.from_residual.result c.from_residual.ensures.1 in
    let was = c.in_err-found.was in
    let of = c.next_line.ensures in
    rw (p.1, p.2) (line_failed c.args.number c.next_line.new.into _ c.next_line.auto.into of.grows c.in_err-found.field-0.0 c.in_err-found.ensures.taken
    (λ e. of.too_long (was ∙ ap Err e) ∙ of.limit) (λ e. of.more (was ∙ ap Err e)) (λ e. of.read_fault (was ∙ ap Err e)))

pub returns-clause-parses : goal.returns-clause-parses
returns-clause-parses g c =
    let e = c.in_ok-found.ensures in
    reads_line c.args.number c.next_line.new.into _ c.next_line.auto.into c.next_line.ensures.grows c.in_ok-found.found c.judged.result e.line e.handed e.allowed c.judged.ensures
