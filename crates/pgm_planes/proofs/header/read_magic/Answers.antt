use Rattle.std.proofs.Common.{refl, sym, ◌∙◌}
use Rattle.pgm_planes.proofs.Words.{Magic, octet_at, magic_at}
use Rattle.pgm_planes.proofs.CallLemmas.{passed, as_number, as_spelling}
use Rattle.pgm_planes.proofs.StepLemmas.{then_passes, then_finds, then_breaks, then_reads}
use Rattle.pgm_planes.proofs.header.read_magic.Goals as goal

pub returns-in_err-letter-clause-reads : goal.returns-in_err-letter-clause-reads
unfolding magic_at
returns-in_err-letter-clause-reads g c = passed _ c.from_residual.ensures.1 (then_passes as_number as_spelling _ _ (octet_at Magic) _ c.in_err-letter.ensures.reads)

pub returns-in_err-digit-clause-reads : goal.returns-in_err-digit-clause-reads
unfolding magic_at
returns-in_err-digit-clause-reads g c =
    passed _ c.from_residual-in_err-digit.ensures.1 (then_reads as_number as_spelling c.in_ok-letter.letter _ (octet_at Magic) _ c.in_ok-letter.ensures.reads c.read_octet.ensures.limit (then_passes as_number as_spelling _ _ (octet_at Magic) _ c.in_err-digit.ensures.reads))

pub returns-in-Some-clause-reads : goal.returns-in-Some-clause-reads
unfolding magic_at
returns-in-Some-clause-reads g c =
    then_reads as_number as_spelling c.in_ok-letter.letter _ (octet_at Magic) _ c.in_ok-letter.ensures.reads c.read_octet.ensures.limit (then_finds as_number as_spelling _ _ _ (octet_at Magic) _ c.in_ok-digit.ensures.reads (λ more rest. rw (sym c.spelling_of.ensures ∙ c.in-Some.is) refl))

pub returns-in-None-clause-reads : goal.returns-in-None-clause-reads
unfolding magic_at
returns-in-None-clause-reads g c =
    then_reads as_number as_spelling c.in_ok-letter.letter _ (octet_at Magic) _ c.in_ok-letter.ensures.reads c.read_octet.ensures.limit (then_breaks as_number as_spelling _ _ _ (octet_at Magic) _ c.in_ok-digit.ensures.reads (λ more rest. rw (sym c.spelling_of.ensures ∙ c.in-None.is) refl))
