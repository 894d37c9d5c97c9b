use Rattle.std.proofs.Common.{ℕ, subst, arith}
use Rattle.joined_cells.proofs.NumberLemmas.{count_within, numbering_begins}
use Rattle.auto_masks.specs.Flood.{HasNumbered, keys_joined}
use Rattle.auto_masks.specs.Patches.{key_at}
use Rattle.auto_masks.proofs.labels.number_all.Goals as goal

pub loop-place-init : goal.loop-place-init
loop-place-init c =
    let K = key_at c.args.extent.width c.args.keys.now in
    numbering_begins (keys_joined c.args.extent.width c.args.extent.height K) c.args.labels.now c.requires.joined

pub number_pixel-count-requires-clause-within : goal.number_pixel-count-requires-clause-within
number_pixel-count-requires-clause-within c = (omega (arith, c.loop-place.invariant.size), omega (arith, c.requires.keys))

pub number_pixel-count-requires-clause-room : goal.number_pixel-count-requires-clause-room
number_pixel-count-requires-clause-room c =
    let K = key_at c.args.extent.width c.args.keys.now in
    omega (arith, count_within (keys_joined c.args.extent.width c.args.extent.height K) c.loop-place.place c.loop-place.count c.loop-place.labels c.loop-place.invariant, c.args.extent.few)

pub returns-clause-numbers : goal.returns-clause-numbers
returns-clause-numbers c = subst (λ (n : ℕ). HasNumbered c.args.extent c.args.keys.now n c.loop-place.count c.loop-place.labels) (omega arith) c.loop-place.invariant

pub returns-clause-few : goal.returns-clause-few
returns-clause-few c =
    let K = key_at c.args.extent.width c.args.keys.now in
    omega (arith, count_within (keys_joined c.args.extent.width c.args.extent.height K) c.loop-place.place c.loop-place.count c.loop-place.labels c.loop-place.invariant)
