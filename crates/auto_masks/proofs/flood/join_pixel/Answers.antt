use Rattle.std.proofs.Common.{ℕ, arith, subst}
use Rattle.sums_and_lists.proofs.Tests.{true_and_false}
use Rattle.auto_masks.proofs.KeyLemmas.{not_keyed_is}
use Rattle.joined_cells.proofs.PixelLemmas.{pixel_masked}
use Rattle.auto_masks.specs.Flood.{HasJoined, keys_joined}
use Rattle.auto_masks.specs.Patches.{key_at}
use Rattle.auto_masks.proofs.flood.join_pixel.Goals as goal

pub returns-then-is_keyless : goal.returns-then-is_keyless
returns-then-is_keyless c =
    let w = c.args.extent.width in
    let K = key_at w c.args.keys.now in
    let masked = pixel_masked (keys_joined w c.args.extent.height K) c.args.x c.args.y c.requires.pixel.0 c.requires.pixel.1 c.args.parents.now c.requires.joined (not_keyed_is (K c.args.x c.args.y) (c.is_keyless.ensures.0 c.if-is_keyless.true)) in
    subst (λ (n : ℕ). HasJoined c.args.extent c.args.keys.now n c.args.parents.now) (omega arith) masked

pub join_left-requires-clause-keyed : goal.join_left-requires-clause-keyed
join_left-requires-clause-keyed c e = true_and_false c.is_keyless.result (c.is_keyless.ensures.1 e) c.if-is_keyless.false

pub join_upper-requires-clause-keyed : goal.join_upper-requires-clause-keyed
join_upper-requires-clause-keyed c e = true_and_false c.is_keyless.result (c.is_keyless.ensures.1 e) c.if-is_keyless.false
