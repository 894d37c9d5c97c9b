use Rattle.std.proofs.Common.{Err, Ok, ap, arith}
use Rattle.std.proofs.lemmas.Result.{err_from_is_err_and}
use Rattle.session_script.proofs.CallLemmas.{sees, sees_not}
use Rattle.session_script.proofs.planes.see_byte.Goals as goal

pub returns-clause-parses : goal.returns-clause-parses
returns-clause-parses g c =
    let e = c.in_ok-peek.ensures in
    let f = c.peek.new.self in
    sees c.in_ok-peek.field-0 _ _ _ _ _ _ _ e.byte (λ n. e.ended (ap Ok n)) e.left e.handed e.grows e.allowed (omega (arith, f.ordered, f.limited, f.counted, e.limit, e.handed))

pub returns-in_err-peek-clause-parses : goal.returns-in_err-peek-clause-parses
returns-in_err-peek-clause-parses g c =
    let e = c.in_err-peek.ensures in
    let p = err_from_is_err_and c.from_residual.result c.from_residual.ensures.1 in
    rw (p.1, p.2) (sees_not c.in_err-peek.field-0.0 _ _ _ _ _ _ _ e.left e.handed e.grows (λ n. e.read_fault (ap Err n)) (λ n. e.too_long (ap Err n)) (λ n. e.more (ap Err n)))
