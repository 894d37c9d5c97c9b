use Rattle.std.proofs.Common.{refl, ◌∙◌, sym}
use Rattle.pgm_planes.proofs.Words.{◌▸◌, octet_at, number_or, numeral_at}
use Rattle.pgm_planes.proofs.CallLemmas.{passed, as_number}
use Rattle.pgm_planes.proofs.StepLemmas.{here_reads, then_passes, then_breaks, then_reads}
use Rattle.pgm_planes.proofs.header.read_number.Goals as goal

pub returns-in_err-byte-clause-reads : goal.returns-in_err-byte-clause-reads
unfolding numeral_at
returns-in_err-byte-clause-reads g c = passed _ c.from_residual.ensures.1 (here_reads as_number _ _ (λ place. octet_at c.args.cut ▸ number_or place) (then_passes as_number as_number _ _ (octet_at c.args.cut) (number_or _) c.in_err-byte.ensures.reads))

pub returns-then-is_digit-clause-reads : goal.returns-then-is_digit-clause-reads
unfolding numeral_at
returns-then-is_digit-clause-reads g c =
    here_reads as_number _ _ (λ place. octet_at c.args.cut ▸ number_or place) (then_reads as_number as_number c.in_ok-byte.byte _ (octet_at c.args.cut) (number_or _) c.in_ok-byte.ensures.reads c.read_octet.ensures.limit (rw (sym c.is_digit.ensures ∙ c.if-is_digit.true) (rw c.from.ensures at c.read_digits.ensures.reads)))

pub returns-else-is_digit-clause-reads : goal.returns-else-is_digit-clause-reads
unfolding numeral_at
returns-else-is_digit-clause-reads g c =
    rw c.handed.ensures (here_reads as_number _ _ (λ place. octet_at c.args.cut ▸ number_or place) (then_breaks as_number as_number _ _ _ (octet_at c.args.cut) (number_or _) c.in_ok-byte.ensures.reads (λ more rest. rw (sym c.is_digit.ensures ∙ c.if-is_digit.false) refl)))
