use Rattle.pgm_planes.proofs.Words.{Short, blanks_at, numeral_at, spelled_sample_at}
use Rattle.pgm_planes.proofs.CallLemmas.{passed, as_number, as_nothing}
use Rattle.pgm_planes.proofs.StepLemmas.{judged_then, then_passes, then_reads}
use Rattle.pgm_planes.proofs.samples.read_plain.Goals as goal

pub returns-in_err-skip_blanks-clause-reads : goal.returns-in_err-skip_blanks-clause-reads
unfolding spelled_sample_at
returns-in_err-skip_blanks-clause-reads g c =
    passed _ c.from_residual.ensures.1 (then_passes as_nothing as_number _ c.in_err-skip_blanks.field-0.0 blanks_at _ c.in_err-skip_blanks.ensures.reads)

pub returns-in_err-sample-clause-reads : goal.returns-in_err-sample-clause-reads
unfolding spelled_sample_at
returns-in_err-sample-clause-reads g c =
    passed _ c.from_residual-in_err-sample.ensures.1 (then_reads as_nothing as_number tt _ blanks_at _ c.in_ok-skip_blanks.ensures.reads c.skip_blanks.ensures.limit
    (then_passes as_number as_number _ c.in_err-sample.field-0.0 (numeral_at (Short c.args.index)) _ c.in_err-sample.ensures.reads))

pub returns-clause-reads : goal.returns-clause-reads
unfolding spelled_sample_at
returns-clause-reads g c =
    rw c.judged.ensures.exact (then_reads as_nothing as_number tt _ blanks_at _ c.in_ok-skip_blanks.ensures.reads c.skip_blanks.ensures.limit (judged_then as_number as_number _ c.in_ok-sample.sample c.args.maxval c.args.index (numeral_at (Short c.args.index)) c.in_ok-sample.ensures.reads))
