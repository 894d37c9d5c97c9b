use Rattle.std.proofs.Common.{◌/◌, ◌%◌, ◌∙◌, sym}
use Rattle.sums_and_lists.proofs.Tests.{true_and_false}
use Rattle.joined_cells.proofs.NumberLemmas.{numbered_masked}
use Rattle.auto_masks.specs.Flood.{keys_joined}
use Rattle.auto_masks.specs.Patches.{key_at}
use Rattle.auto_masks.proofs.KeyLemmas.{key_at_place, keyed_is, not_keyed_is}
use Rattle.auto_masks.proofs.labels.number_pixel.Goals as goal

pub returns-then-is_keyless : goal.returns-then-is_keyless
returns-then-is_keyless c =
    let w = c.args.extent.width in
    let k = c.args.place in
    let K = key_at w c.args.keys.now in
    numbered_masked (keys_joined w c.args.extent.height K) k c.args.count c.args.labels.now c.requires.numbered c.requires.within.0
    (not_keyed_is (K (k % w) (k / w)) (key_at_place w k c.args.keys.now ∙ c.is_keyless.ensures.0 c.if-is_keyless.true))

pub returns : goal.returns
returns c =
    let w = c.args.extent.width in
    let k = c.args.place in
    let K = key_at w c.args.keys.now in
    c.number_place.ensures (keys_joined w c.args.extent.height K) c.requires.numbered
    (keyed_is (K (k % w) (k / w)) (λ e. true_and_false c.is_keyless.result (c.is_keyless.ensures.1 (sym (key_at_place w k c.args.keys.now) ∙ e)) c.if-is_keyless.false))
