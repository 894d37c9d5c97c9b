use Rattle.offset_network.proofs.MovedLemmas.{departure_in_code}
use Rattle.std.proofs.Common.{pos, slice_index_or}
use Rattle.offset_network.proofs.start.moved_departure.Goals as goal

pub returns-clause-value : goal.returns-clause-value
returns-clause-value c =
    let link = c.args.link in
    let small = c.requires.small.small in
    departure_in_code (slice_index_or c.args.offsets.now link.from (pos 0)) (slice_index_or c.args.offsets.now link.to (pos 0)) link.departure c.from.result _ (small link.from c.requires.fits.from) (small link.to c.requires.fits.to) c.requires.fits.departure c.from.ensures c.unsigned_abs.ensures.value c.if-unsigned_abs-gt-MAX_SEAM_DEPARTURE.false
