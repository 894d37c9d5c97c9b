use Rattle.std.proofs.Common.{refl, false}
use Rattle.pgm_planes.proofs.Words.{Form, ◌▸◌, pure, space_at, filling_at, numeral_at, field_at}
use Rattle.pgm_planes.proofs.CallLemmas.{passed, as_number, as_nothing}
use Rattle.pgm_planes.proofs.StepLemmas.{as_pair, then_passes, then_finds, then_reads, here_reads}
use Rattle.pgm_planes.proofs.header.read_field.Goals as goal

pub returns-in_err-read_space-clause-reads : goal.returns-in_err-read_space-clause-reads
unfolding field_at
returns-in_err-read_space-clause-reads g c =
    passed _ c.from_residual.ensures.1 (then_passes as_nothing as_pair _ c.in_err-read_space.field-0.0 space_at _ c.in_err-read_space.ensures.reads)

pub returns-in_err-skip_filling-clause-reads : goal.returns-in_err-skip_filling-clause-reads
unfolding field_at
returns-in_err-skip_filling-clause-reads g c =
    passed _ c.from_residual-in_err-skip_filling.ensures.1 (then_reads as_nothing as_pair tt _ space_at _ c.in_ok-read_space.ensures.reads c.read_space.ensures.limit (then_passes as_nothing as_pair _ c.in_err-skip_filling.field-0.0 (filling_at false) _ c.in_err-skip_filling.ensures.reads))

pub returns-in_err-number-clause-reads : goal.returns-in_err-number-clause-reads
unfolding field_at
returns-in_err-number-clause-reads g c =
    passed _ c.from_residual-in_err-number.ensures.1 (then_reads as_nothing as_pair tt _ space_at _ c.in_ok-read_space.ensures.reads c.read_space.ensures.limit
    (then_reads as_nothing as_pair tt _ (filling_at false) _ c.in_ok-skip_filling.ensures.reads c.skip_filling.ensures.limit
    (here_reads as_pair _ _ (λ place. numeral_at (Form place) ▸ λ n. pure (n, place)) (then_passes as_number as_pair _ c.in_err-number.field-0.0 (numeral_at (Form _)) _ (rw c.handed-place.ensures at c.in_err-number.ensures.reads)))))

pub returns-clause-reads : goal.returns-clause-reads
unfolding field_at
returns-clause-reads g c =
    rw c.handed-place.ensures (then_reads as_nothing as_pair tt _ space_at _ c.in_ok-read_space.ensures.reads c.read_space.ensures.limit
    (then_reads as_nothing as_pair tt _ (filling_at false) _ c.in_ok-skip_filling.ensures.reads c.skip_filling.ensures.limit
    (here_reads as_pair _ _ (λ place. numeral_at (Form place) ▸ λ n. pure (n, place)) (then_finds as_number as_pair _ c.in_ok-number.number _ (numeral_at (Form _)) _ (rw c.handed-place.ensures at c.in_ok-number.ensures.reads) (λ more rest. refl)))))
