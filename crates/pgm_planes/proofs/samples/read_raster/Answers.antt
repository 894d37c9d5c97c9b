use Rattle.std.proofs.Common.{refl}
use Rattle.pgm_planes.proofs.Words.{err_from_is_err_and, samples_at, end_at, end_of, raster_at, form_of, Raw, Plain}
use Rattle.pgm_planes.proofs.CallLemmas.{passed, as_nothing}
use Rattle.pgm_planes.proofs.StepLemmas.{as_samples, then_passes, then_finds, then_reads}
use Rattle.pgm_planes.proofs.samples.read_raster.Goals as goal

pub returns-in_err-samples-clause-reads : goal.returns-in_err-samples-clause-reads
unfolding raster_at
returns-in_err-samples-clause-reads g c =
    passed _ c.from_residual.ensures.1 (then_passes as_samples as_samples _ c.in_err-samples.field-0.0 (samples_at (form_of c.args.spelling c.args.maxval) c.args.maxval c.args.count 0) _ (rw c.form_of.ensures at c.in_err-samples.ensures.reads))

pub returns-in_err-read_end-in-Plain-clause-reads : goal.returns-in_err-read_end-in-Plain-clause-reads
unfolding raster_at
returns-in_err-read_end-in-Plain-clause-reads g c =
    let p = err_from_is_err_and c.from_residual-in_err-read_end-in-Plain.result c.from_residual-in_err-read_end-in-Plain.ensures.1 in
    rw (p.1, p.2, c.in-Plain.is) (then_reads as_samples as_samples c.in_ok-samples.samples _ (samples_at (form_of Plain c.args.maxval) c.args.maxval c.args.count 0) (end_of Plain) (rw (c.form_of.ensures, c.in-Plain.is) at c.in_ok-samples.ensures.reads) c.read_samples.ensures.limit
    (then_passes as_nothing as_samples _ c.in_err-read_end-in-Plain.field-0.0 end_at _ c.in_err-read_end-in-Plain.ensures.reads))

pub returns-in-Raw-clause-reads : goal.returns-in-Raw-clause-reads
unfolding raster_at
returns-in-Raw-clause-reads g c =
    rw c.in-Raw.is (then_finds as_samples as_samples _ c.in_ok-samples.samples _ (samples_at (form_of Raw c.args.maxval) c.args.maxval c.args.count 0) (end_of Raw) (rw (c.form_of.ensures, c.in-Raw.is) at c.in_ok-samples.ensures.reads) (λ more rest. refl))

pub returns-in_ok-read_end-in-Plain-clause-reads : goal.returns-in_ok-read_end-in-Plain-clause-reads
unfolding raster_at
returns-in_ok-read_end-in-Plain-clause-reads g c =
    rw c.in-Plain.is (then_reads as_samples as_samples c.in_ok-samples.samples _ (samples_at (form_of Plain c.args.maxval) c.args.maxval c.args.count 0) (end_of Plain) (rw (c.form_of.ensures, c.in-Plain.is) at c.in_ok-samples.ensures.reads) c.read_samples.ensures.limit
    (then_finds as_nothing as_samples _ tt _ end_at _ c.in_ok-read_end-in-Plain.ensures.reads (λ more rest. refl)))
