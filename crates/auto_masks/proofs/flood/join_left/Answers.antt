use Rattle.std.proofs.Common.{◌≡◌, ◌+◌, ◌-◌, ◌*◌, ◌≤◌, ◌∙◌, ℕ, pos, sym, ap, arith}
use Rattle.std.specs.Prelude.{slice_index_or}
use Rattle.sums_and_lists.proofs.Tests.{true_and_false}
use Rattle.auto_masks.proofs.KeyLemmas.{keyed_is, one_key}
use Rattle.joined_cells.proofs.TileLemmas.{left_none, left_joined}
use Rattle.auto_masks.specs.Patches.{key_at, is_keyed, keyed, key_number}
use Rattle.auto_masks.proofs.flood.join_left.Goals as goal

pub returns-then-x-eq0 : goal.returns-then-x-eq0
returns-then-x-eq0 c =
    let K = key_at c.args.extent.width c.args.keys.now in
    left_none (keyed c.args.extent.width c.args.extent.height K) (is_keyed K) c.args.x c.args.y c.requires.pixel.0 c.requires.pixel.1 c.args.parents.now c.requires.joined (λ l e. absurd (omega (arith, c.if-x-eq0.true)))

pub returns-then-have_one_key : goal.returns-then-have_one_key
returns-then-have_one_key c =
    let w = c.args.extent.width in
    let K = key_at w c.args.keys.now in
    let x = c.args.x in
    let place = c.args.y * w + x in
    let flood = c.requires.joined in
    let after : 1 ≤ x = omega (arith, c.if-x-eq0.false) in
    let spot : c.args.y * w + (x - 1) ≡ place - 1 = omega (arith, after) in
    let same : K (x - 1) c.args.y ≡ K x c.args.y = ap (λ (i : ℕ). slice_index_or c.args.keys.now i (pos 0)) spot ∙ c.have_one_key.ensures.0 c.if-have_one_key.true in
    let forest = c.hang.ensures flood.root flood.forest (flood.flooded.alone place (omega arith)) (omega (arith, flood.flooded.least (place - 1), after)) in
    left_joined (keyed w c.args.extent.height K) (is_keyed K) x c.args.y c.requires.pixel.0 c.requires.pixel.1 c.args.parents.now flood after (ap key_number same) (keyed_is (K (x - 1) c.args.y) (λ e. c.requires.keyed (sym same ∙ e))) (keyed_is (K x c.args.y) c.requires.keyed) c.hang.new.parents c.hang.auto.parents forest

pub returns-else-have_one_key : goal.returns-else-have_one_key
returns-else-have_one_key c =
    let w = c.args.extent.width in
    let K = key_at w c.args.keys.now in
    let x = c.args.x in
    left_none (keyed w c.args.extent.height K) (is_keyed K) x c.args.y c.requires.pixel.0 c.requires.pixel.1 c.args.parents.now c.requires.joined (λ l e.
    let spot : c.args.y * w + (x - 1) ≡ c.args.y * w + x - 1 = omega (arith, l) in
    true_and_false c.have_one_key.result (c.have_one_key.ensures.1 (sym (ap (λ (i : ℕ). slice_index_or c.args.keys.now i (pos 0)) spot) ∙ one_key (K (x - 1) c.args.y) (K x c.args.y) e)) c.if-have_one_key.false)
