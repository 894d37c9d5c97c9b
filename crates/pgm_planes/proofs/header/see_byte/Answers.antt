use Rattle.std.proofs.Common.{ap, Ok, Err, arith}
use Rattle.pgm_planes.proofs.Words.{sight_at}
use Rattle.pgm_planes.proofs.CallLemmas.{passed, takes_a_sight, byte_fails, sight_asks}
use Rattle.pgm_planes.proofs.header.see_byte.Goals as goal

pub returns-clause-reads : goal.returns-clause-reads
returns-clause-reads g c =
    let e = c.in_ok-peek.ensures in
    let f = c.peek.new.self in
    takes_a_sight c.in_ok-peek.field-0 _ _ _ _ _ _ _ e.byte (λ n. e.ended (ap Ok n)) e.left e.handed e.grows e.allowed (omega (arith, f.ordered, f.limited, f.counted, e.limit, e.handed))

pub returns-in_err-peek-clause-reads : goal.returns-in_err-peek-clause-reads
returns-in_err-peek-clause-reads g c =
    let e = c.in_err-peek.ensures in
    passed _ c.from_residual.ensures.1 (byte_fails c.in_err-peek.field-0.0 _ _ _ _ _ _ _ sight_at e.left e.handed e.grows (λ n. e.read_fault (ap Err n)) (λ n. e.too_long (ap Err n)) (λ n. e.more (ap Err n)) (sight_asks _))
