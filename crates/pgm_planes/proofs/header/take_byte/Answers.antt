use Rattle.std.proofs.Common.{ap, Ok, Err, arith}
use Rattle.pgm_planes.proofs.Words.{byte_at}
use Rattle.pgm_planes.proofs.CallLemmas.{passed, takes_a_byte, byte_fails, byte_asks}
use Rattle.pgm_planes.proofs.header.take_byte.Goals as goal

pub returns-clause-reads : goal.returns-clause-reads
returns-clause-reads g c =
    let e = c.in_ok-next.ensures in
    let f = c.next.new.self in
    takes_a_byte c.in_ok-next.field-0 _ _ _ _ _ _ _ e.byte e.handed (λ n. e.ended (ap Ok n)) (λ n. e.left_at_end (ap Ok n)) (λ n. e.handed_at_end (ap Ok n)) e.grows (omega (arith, f.ordered, f.limited, f.counted, e.limit))

pub returns-in_err-next-clause-reads : goal.returns-in_err-next-clause-reads
returns-in_err-next-clause-reads g c =
    let e = c.in_err-next.ensures in
    passed _ c.from_residual.ensures.1 (byte_fails c.in_err-next.field-0.0 _ _ _ _ _ _ _ byte_at e.left_at_fault e.handed_at_fault e.grows (λ n. e.read_fault (ap Err n)) (λ n. e.too_long (ap Err n)) (λ n. e.more (ap Err n)) (byte_asks _))
