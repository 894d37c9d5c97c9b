use Rattle.std.proofs.Common.{refl, ◌*◌}
use Rattle.pgm_planes.proofs.Words.{sought_within, plane_of, magic_at, header_at, header_of, raster_at, sought_at}
use Rattle.pgm_planes.proofs.CallLemmas.{passed, as_spelling}
use Rattle.pgm_planes.proofs.StepLemmas.{as_samples, then_passes, then_finds, then_reads}
use Rattle.pgm_planes.proofs.plane.read_spelled.Goals as goal

pub returns-in_err-spelling-clause-reads : goal.returns-in_err-spelling-clause-reads
unfolding sought_at
returns-in_err-spelling-clause-reads g c =
    passed _ c.from_residual.ensures.1 (then_passes as_spelling plane_of _ c.in_err-spelling.field-0.0 magic_at _ c.in_err-spelling.ensures.reads)

pub returns-in_err-header-clause-reads : goal.returns-in_err-header-clause-reads
unfolding sought_at
returns-in_err-header-clause-reads g c =
    passed _ c.from_residual-in_err-header.ensures.1 (then_reads as_spelling plane_of c.in_ok-spelling.spelling _ magic_at _ c.in_ok-spelling.ensures.reads c.read_magic.ensures.limit (then_passes header_of plane_of _ c.in_err-header.field-0.0 (header_at (sought_within c.args.extent c.args.role)) _ c.in_err-header.ensures.reads))

pub returns-in_err-samples-clause-reads : goal.returns-in_err-samples-clause-reads
unfolding sought_at
returns-in_err-samples-clause-reads g c =
    passed _ c.from_residual-in_err-samples.ensures.1 (then_reads as_spelling plane_of c.in_ok-spelling.spelling _ magic_at _ c.in_ok-spelling.ensures.reads c.read_magic.ensures.limit (then_reads header_of plane_of c.in_ok-header.header _ (header_at (sought_within c.args.extent c.args.role)) _ c.in_ok-header.ensures.reads c.read_header.ensures.limit
    (then_passes as_samples plane_of _ c.in_err-samples.field-0.0 (raster_at c.in_ok-spelling.spelling c.in_ok-header.header.maxval (c.in_ok-header.header.width * c.in_ok-header.header.height)) _ c.in_err-samples.ensures.reads)))

pub returns-clause-reads : goal.returns-clause-reads
unfolding sought_at
returns-clause-reads g c =
    then_reads as_spelling plane_of c.in_ok-spelling.spelling _ magic_at _ c.in_ok-spelling.ensures.reads c.read_magic.ensures.limit (then_reads header_of plane_of c.in_ok-header.header _ (header_at (sought_within c.args.extent c.args.role)) _ c.in_ok-header.ensures.reads c.read_header.ensures.limit
    (then_finds as_samples plane_of _ c.in_ok-samples.samples _ (raster_at c.in_ok-spelling.spelling c.in_ok-header.header.maxval (c.in_ok-header.header.width * c.in_ok-header.header.height)) _ c.in_ok-samples.ensures.reads (λ more rest. refl)))
