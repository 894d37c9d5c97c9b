use Rattle.std.proofs.Common.{refl, ◌∙◌, sym}
use Rattle.pgm_planes.proofs.Words.{◌▸◌, sight_at, end_or, end_at}
use Rattle.pgm_planes.proofs.CallLemmas.{passed, as_got, as_nothing}
use Rattle.pgm_planes.proofs.StepLemmas.{here_reads, then_passes, then_finds, then_breaks, then_reads}
use Rattle.pgm_planes.proofs.samples.read_end.Goals as goal

pub returns-in_err-byte-clause-reads : goal.returns-in_err-byte-clause-reads
unfolding end_at
returns-in_err-byte-clause-reads g c = passed _ c.from_residual.ensures.1 (here_reads as_nothing _ _ (λ place. sight_at ▸ end_or place) (then_passes as_got as_nothing _ _ sight_at _ c.in_err-byte.ensures.reads))

pub returns-in_default-clause-reads : goal.returns-in_default-clause-reads
unfolding end_at
returns-in_default-clause-reads g c = here_reads as_nothing _ _ (λ place. sight_at ▸ end_or place) (then_finds as_got as_nothing _ _ tt sight_at (end_or _) c.in_ok-byte.ensures.reads (λ more rest. rw c.in_default.is refl))

pub returns-then-not-is_space-clause-reads : goal.returns-then-not-is_space-clause-reads
unfolding end_at
returns-then-not-is_space-clause-reads g c =
    rw (c.handed.ensures ∙ c.in_ok-byte.ensures.handed) (here_reads as_nothing _ _ (λ place. sight_at ▸ end_or place) (then_breaks as_got as_nothing _ _ _ sight_at (end_or _) c.in_ok-byte.ensures.reads (λ more rest. rw (c.in-Some.is, sym c.is_space.ensures ∙ c.if-not-is_space.true) refl)))

pub returns-clause-reads : goal.returns-clause-reads
unfolding end_at
returns-clause-reads g c =
    here_reads as_nothing _ _ (λ place. sight_at ▸ end_or place) (then_reads as_got as_nothing c.in_ok-byte.field-0 _ sight_at (end_or _) c.in_ok-byte.ensures.reads c.see_byte.ensures.limit (rw (c.in-Some.is, sym c.is_space.ensures ∙ c.if-not-is_space.false) c.skip_blanks.ensures.reads))
