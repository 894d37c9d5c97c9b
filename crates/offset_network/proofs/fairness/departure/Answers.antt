use Rattle.std.proofs.Common.{pos, slice_index_or}
use Rattle.offset_network.proofs.FairLemmas.{departure_is}
use Rattle.offset_network.proofs.fairness.departure.Goals as goal

pub returns-clause-value : goal.returns-clause-value
returns-clause-value c =
    let k = c.args.link in
    let fits = c.requires.fits in
    let near = c.requires.near in
    (departure_is (slice_index_or c.args.offsets.now k.from (pos 0)) (slice_index_or c.args.offsets.now k.to (pos 0)) k.departure c.from.result (near k.from fits.from) (near k.to fits.to) fits.departure c.from.ensures).0

pub returns-clause-small : goal.returns-clause-small
returns-clause-small c =
    let k = c.args.link in
    let fits = c.requires.fits in
    let near = c.requires.near in
    (departure_is (slice_index_or c.args.offsets.now k.from (pos 0)) (slice_index_or c.args.offsets.now k.to (pos 0)) k.departure c.from.result (near k.from fits.from) (near k.to fits.to) fits.departure c.from.ensures).1
