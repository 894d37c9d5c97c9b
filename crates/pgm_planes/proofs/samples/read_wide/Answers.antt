use Rattle.std.proofs.Common.{◌∙◌, ◌+◌, ◌*◌}
use Rattle.pgm_planes.proofs.Words.{Short, octet_at, spelled_sample_at}
use Rattle.pgm_planes.proofs.CallLemmas.{passed, as_number}
use Rattle.pgm_planes.proofs.StepLemmas.{judged_then, then_passes, then_reads, two_bytes}
use Rattle.pgm_planes.proofs.samples.read_wide.Goals as goal

pub returns-in_err-high-clause-reads : goal.returns-in_err-high-clause-reads
unfolding spelled_sample_at
returns-in_err-high-clause-reads g c = passed _ c.from_residual.ensures.1 (then_passes as_number as_number _ _ (octet_at (Short c.args.index)) _ c.in_err-high.ensures.reads)

pub returns-in_err-low-clause-reads : goal.returns-in_err-low-clause-reads
unfolding spelled_sample_at
returns-in_err-low-clause-reads g c =
    passed _ c.from_residual-in_err-low.ensures.1 (then_reads as_number as_number c.in_ok-high.high _ (octet_at (Short c.args.index)) _ c.in_ok-high.ensures.reads c.read_octet.ensures.limit (then_passes as_number as_number _ _ (octet_at (Short c.args.index)) _ c.in_err-low.ensures.reads))

pub returns-clause-reads : goal.returns-clause-reads
unfolding spelled_sample_at
returns-clause-reads g c =
    rw (c.judged.ensures.exact, c.from.ensures ∙ c.read_u16-sample.ensures ∙ two_bytes c.in_ok-high.high c.in_ok-low.low) (then_reads as_number as_number c.in_ok-high.high _ (octet_at (Short c.args.index)) _ c.in_ok-high.ensures.reads c.read_octet.ensures.limit
    (judged_then as_number (λ low. 256 * c.in_ok-high.high + low) _ c.in_ok-low.low c.args.maxval c.args.index (octet_at (Short c.args.index)) c.in_ok-low.ensures.reads))
