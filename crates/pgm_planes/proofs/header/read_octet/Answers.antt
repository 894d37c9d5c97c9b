use Rattle.std.proofs.Common.{refl}
use Rattle.pgm_planes.proofs.Words.{byte_at, octet_at, or_fails}
use Rattle.pgm_planes.proofs.CallLemmas.{passed, as_got, as_number}
use Rattle.pgm_planes.proofs.StepLemmas.{then_passes, then_finds, then_breaks}
use Rattle.pgm_planes.proofs.header.read_octet.Goals as goal

pub returns-in_err-byte-clause-reads : goal.returns-in_err-byte-clause-reads
unfolding octet_at
returns-in_err-byte-clause-reads g c = passed _ c.from_residual.ensures.1 (then_passes as_got as_number _ _ byte_at _ c.in_err-byte.ensures.reads)

pub returns-in-Some-clause-reads : goal.returns-in-Some-clause-reads
unfolding octet_at
returns-in-Some-clause-reads g c = then_finds as_got as_number _ _ _ byte_at (or_fails c.args.cut) c.in_ok-byte.ensures.reads (λ more rest. rw c.in-Some.is refl)

pub returns-in-None-clause-reads : goal.returns-in-None-clause-reads
unfolding octet_at
returns-in-None-clause-reads g c = then_breaks as_got as_number _ _ _ byte_at (or_fails c.args.cut) c.in_ok-byte.ensures.reads (λ more rest. rw c.in-None.is refl)
