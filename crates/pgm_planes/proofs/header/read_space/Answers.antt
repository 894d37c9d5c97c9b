use Rattle.std.proofs.Common.{refl, sym, ◌∙◌}
use Rattle.pgm_planes.proofs.Words.{Form, ◌▸◌, octet_at, space_or, space_at}
use Rattle.pgm_planes.proofs.CallLemmas.{passed, as_number, as_nothing}
use Rattle.pgm_planes.proofs.StepLemmas.{here_reads, then_passes, then_finds, then_breaks}
use Rattle.pgm_planes.proofs.header.read_space.Goals as goal

pub returns-in_err-byte-clause-reads : goal.returns-in_err-byte-clause-reads
unfolding space_at
returns-in_err-byte-clause-reads g c = passed _ c.from_residual.ensures.1 (here_reads as_nothing _ _ (λ place. octet_at (Form place) ▸ space_or place) (then_passes as_number as_nothing _ _ (octet_at (Form _)) (space_or _) (rw c.handed.ensures at c.in_err-byte.ensures.reads)))

pub returns-then-is_space-clause-reads : goal.returns-then-is_space-clause-reads
unfolding space_at
returns-then-is_space-clause-reads g c = here_reads as_nothing _ _ (λ place. octet_at (Form place) ▸ space_or place) (then_finds as_number as_nothing _ _ _ (octet_at (Form _)) (space_or _) (rw c.handed.ensures at c.in_ok-byte.ensures.reads) (λ more rest. rw (sym c.is_space.ensures ∙ c.if-is_space.true) refl))

pub returns-else-is_space-clause-reads : goal.returns-else-is_space-clause-reads
unfolding space_at
returns-else-is_space-clause-reads g c =
    rw c.handed.ensures (here_reads as_nothing _ _ (λ place. octet_at (Form place) ▸ space_or place) (then_breaks as_number as_nothing _ _ _ (octet_at (Form _)) (space_or _) (rw c.handed.ensures at c.in_ok-byte.ensures.reads) (λ more rest. rw (sym c.is_space.ensures ∙ c.if-is_space.false) refl)))
