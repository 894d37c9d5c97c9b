use Rattle.std.proofs.Common.{refl, sym}
use Rattle.pgm_planes.proofs.Words.{space_at, field_at, header_at, header_of}
use Rattle.pgm_planes.proofs.CallLemmas.{passed, as_nothing}
use Rattle.pgm_planes.proofs.StepLemmas.{as_pair, then_passes, then_finds, then_breaks, then_reads}
use Rattle.pgm_planes.proofs.header.read_header.Goals as goal

pub returns-in_err-width-clause-reads : goal.returns-in_err-width-clause-reads
unfolding header_at
returns-in_err-width-clause-reads g c =
    passed _ c.from_residual.ensures.1 (then_passes as_pair header_of _ c.in_err-width.field-0.0 field_at _ c.in_err-width.ensures.reads)

pub returns-in_err-height-clause-reads : goal.returns-in_err-height-clause-reads
unfolding header_at
returns-in_err-height-clause-reads g c =
    passed _ c.from_residual-in_err-height.ensures.1 (then_reads as_pair header_of (c.in_ok-width.width, c.in_ok-width.field-0-1) _ field_at _ c.in_ok-width.ensures.reads c.read_field.ensures.limit (then_passes as_pair header_of _ c.in_err-height.field-0.0 field_at _ c.in_err-height.ensures.reads))

pub returns-in_err-maxval-clause-reads : goal.returns-in_err-maxval-clause-reads
unfolding header_at
returns-in_err-maxval-clause-reads g c =
    passed _ c.from_residual-in_err-maxval.ensures.1 (then_reads as_pair header_of (c.in_ok-width.width, c.in_ok-width.field-0-1) _ field_at _ c.in_ok-width.ensures.reads c.read_field.ensures.limit (then_reads as_pair header_of (c.in_ok-height.height, c.in_ok-height.field-0-1) _ field_at _ c.in_ok-height.ensures.reads c.read_field-2.ensures.limit (then_passes as_pair header_of _ c.in_err-maxval.field-0.0 field_at _ c.in_err-maxval.ensures.reads)))

pub returns-in_err-read_space-clause-reads : goal.returns-in_err-read_space-clause-reads
unfolding header_at
returns-in_err-read_space-clause-reads g c =
    passed _ c.from_residual-in_err-read_space.ensures.1 (then_reads as_pair header_of (c.in_ok-width.width, c.in_ok-width.field-0-1) _ field_at _ c.in_ok-width.ensures.reads c.read_field.ensures.limit (then_reads as_pair header_of (c.in_ok-height.height, c.in_ok-height.field-0-1) _ field_at _ c.in_ok-height.ensures.reads c.read_field-2.ensures.limit (then_reads as_pair header_of (c.in_ok-maxval.maxval, c.in_ok-maxval.place) _ field_at _ c.in_ok-maxval.ensures.reads c.read_field-3.ensures.limit
    (then_passes as_nothing header_of _ c.in_err-read_space.field-0.0 space_at _ c.in_err-read_space.ensures.reads))))

pub returns-in-Some-clause-reads : goal.returns-in-Some-clause-reads
unfolding header_at
returns-in-Some-clause-reads g c =
    then_reads as_pair header_of (c.in_ok-width.width, c.in_ok-width.field-0-1) _ field_at _ c.in_ok-width.ensures.reads c.read_field.ensures.limit (then_reads as_pair header_of (c.in_ok-height.height, c.in_ok-height.field-0-1) _ field_at _ c.in_ok-height.ensures.reads c.read_field-2.ensures.limit (then_reads as_pair header_of (c.in_ok-maxval.maxval, c.in_ok-maxval.place) _ field_at _ c.in_ok-maxval.ensures.reads c.read_field-3.ensures.limit
    (then_breaks as_nothing header_of _ tt c.in-Some.fault space_at _ c.in_ok-read_space.ensures.reads (λ more rest. rw (sym c.in-Some.ensures.exact) refl))))

pub returns-in-None-clause-reads : goal.returns-in-None-clause-reads
unfolding header_at
returns-in-None-clause-reads g c =
    then_reads as_pair header_of (c.in_ok-width.width, c.in_ok-width.field-0-1) _ field_at _ c.in_ok-width.ensures.reads c.read_field.ensures.limit (then_reads as_pair header_of (c.in_ok-height.height, c.in_ok-height.field-0-1) _ field_at _ c.in_ok-height.ensures.reads c.read_field-2.ensures.limit (then_reads as_pair header_of (c.in_ok-maxval.maxval, c.in_ok-maxval.place) _ field_at _ c.in_ok-maxval.ensures.reads c.read_field-3.ensures.limit
    (then_finds as_nothing header_of _ tt _ space_at _ c.in_ok-read_space.ensures.reads (λ more rest. rw (sym c.in-None.ensures.exact) refl))))
