use Rattle.displacement.proofs.ComputedLemmas.{product_held_fits, rise_held_fits, scaled_held_fits, too_low, too_wide, units_held_fits, units_positive, written}
use Rattle.displacement.proofs.total.Total.displacement.Goals as goal
use Rattle.std.proofs.Common.{lit<, lit≤, pos, refl}

pub overflow_mul-rise : goal.overflow_mul-rise
overflow_mul-rise c = product_held_fits c.args.self.count c.args.wavelength c.args.self.sum c.args.reference c.from-count.result c.from.result (pos c.args.wavelength) c.requires.some c.requires.few c.requires.within c.requires.wave.1 c.ranges.reference c.from-count.ensures c.from.ensures refl

pub overflow_sub-rise : goal.overflow_sub-rise
overflow_sub-rise c = rise_held_fits c.args.self.count c.args.wavelength c.args.self.sum c.args.reference c.from-count.result c.from.result (pos c.args.wavelength) c.requires.some c.requires.few c.requires.within c.requires.wave.1 c.ranges.reference c.from-count.ensures c.from.ensures refl

pub overflow_mul-from : goal.overflow_mul-from
overflow_mul-from c = scaled_held_fits c.args.self.count c.args.wavelength c.args.self.sum c.args.reference c.from-count.result c.from.result c.from-2.result c.requires.some c.requires.few c.requires.within c.requires.wave.1 c.ranges.reference c.from-count.ensures c.from.ensures c.from-2.ensures

pub overflow_mul-count : goal.overflow_mul-count
overflow_mul-count c = units_held_fits _ c.args.self.count c.from-count.result c.requires.few (lit≤ tt) c.from-count.ensures

pub rounded_down-nanometres-requires : goal.rounded_down-nanometres-requires
rounded_down-nanometres-requires c = units_positive _ c.args.self.count c.from-count.result c.requires.few (lit≤ tt) c.from-count.ensures (lit< tt) c.requires.some

pub returns-in-Ok : goal.returns-in-Ok
returns-in-Ok c = written c.args.self.count c.args.wavelength c.args.self.sum c.args.reference c.from-count.result c.from.result c.from-2.result c.requires.some c.requires.few c.requires.within c.requires.wave.1 c.ranges.reference c.from-count.ensures c.from.ensures c.from-2.ensures c.rounded_down-nanometres.result c.rounded_down-nanometres.ensures (record { sfits = c.rounded_down-nanometres.type_inv }) c.in-Ok.value c.in-Ok.ensures c.if-value.true

pub returns-in_default : goal.returns-in_default
returns-in_default c = too_low c.args.self.count c.args.wavelength c.args.self.sum c.args.reference c.from-count.result c.from.result c.from-2.result c.requires.some c.requires.few c.requires.within c.requires.wave.1 c.ranges.reference c.from-count.ensures c.from.ensures c.from-2.ensures c.rounded_down-nanometres.result c.rounded_down-nanometres.ensures (record { sfits = c.rounded_down-nanometres.type_inv }) c.in-Ok.value c.in-Ok.ensures c.if-value.false

pub returns-in_default-2 : goal.returns-in_default-2
returns-in_default-2 c = too_wide c.args.self.count c.args.wavelength c.args.self.sum c.args.reference c.from-count.result c.from.result c.from-2.result c.requires.some c.requires.few c.requires.within c.requires.wave.1 c.ranges.reference c.from-count.ensures c.from.ensures c.from-2.ensures c.rounded_down-nanometres.result c.rounded_down-nanometres.ensures (record { sfits = c.rounded_down-nanometres.type_inv }) c.in_default.ensures
