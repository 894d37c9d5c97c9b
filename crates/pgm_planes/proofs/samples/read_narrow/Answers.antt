use Rattle.pgm_planes.proofs.Words.{Short, octet_at, spelled_sample_at}
use Rattle.pgm_planes.proofs.CallLemmas.{passed, as_number}
use Rattle.pgm_planes.proofs.StepLemmas.{judged_then, then_passes}
use Rattle.pgm_planes.proofs.samples.read_narrow.Goals as goal

pub returns-in_err-byte-clause-reads : goal.returns-in_err-byte-clause-reads
unfolding spelled_sample_at
returns-in_err-byte-clause-reads g c = passed _ c.from_residual.ensures.1 (then_passes as_number as_number _ _ (octet_at (Short c.args.index)) _ c.in_err-byte.ensures.reads)

pub returns-clause-reads : goal.returns-clause-reads
unfolding spelled_sample_at
returns-clause-reads g c = rw (c.judged.ensures.exact, c.from.ensures) (judged_then as_number as_number _ c.in_ok-byte.byte c.args.maxval c.args.index (octet_at (Short c.args.index)) c.in_ok-byte.ensures.reads)
