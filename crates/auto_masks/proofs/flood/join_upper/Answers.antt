use Rattle.std.proofs.Common.{◌≡◌, ◌-◌, ◌≤◌, ◌∙◌, ℕ, pos, sym, ap, arith, subst}
use Rattle.std.specs.Prelude.{slice_index_or}
use Rattle.sums_and_lists.proofs.Tests.{true_and_false}
use Rattle.auto_masks.proofs.KeyLemmas.{keyed_is, one_key}
use Rattle.joined_cells.proofs.PixelLemmas.{above_is}
use Rattle.joined_cells.proofs.TileLemmas.{upper_already, upper_joined, upper_none}
use Rattle.auto_masks.specs.Flood.{HasJoined}
use Rattle.auto_masks.specs.Patches.{key_at, is_keyed, keyed, key_number}
use Rattle.auto_masks.proofs.flood.join_upper.Goals as goal

pub returns-then-y-eq0 : goal.returns-then-y-eq0
returns-then-y-eq0 c =
    let K = key_at c.args.extent.width c.args.keys.now in
    let none = upper_none (keyed c.args.extent.width c.args.extent.height K) (is_keyed K) c.args.x c.args.y c.requires.pixel.0 c.requires.pixel.1 c.args.parents.now c.requires.joined (λ l e. absurd (omega (arith, c.if-y-eq0.true))) in
    subst (λ (n : ℕ). HasJoined c.args.extent c.args.keys.now n c.args.parents.now) (omega arith) none

pub returns-then-not-have_one_key : goal.returns-then-not-have_one_key
returns-then-not-have_one_key c =
    let w = c.args.extent.width in
    let K = key_at w c.args.keys.now in
    let x = c.args.x in
    let y = c.args.y in
    let none = upper_none (keyed w c.args.extent.height K) (is_keyed K) x y c.requires.pixel.0 c.requires.pixel.1 c.args.parents.now c.requires.joined (λ l e.
    true_and_false c.have_one_key.result (c.have_one_key.ensures.1 (sym (ap (λ (i : ℕ). slice_index_or c.args.keys.now i (pos 0)) (above_is w x y l)) ∙ one_key (K x (y - 1)) (K x y) e)) c.if-not-have_one_key.true) in
    subst (λ (n : ℕ). HasJoined c.args.extent c.args.keys.now n c.args.parents.now) (omega arith) none

pub returns-then-has_square : goal.returns-then-has_square
returns-then-has_square c =
    let w = c.args.extent.width in
    let K = key_at w c.args.keys.now in
    let x = c.args.x in
    let y = c.args.y in
    let below : 1 ≤ y = omega (arith, c.if-y-eq0.false) in
    let is = c.has_square.ensures in
    let t = c.if-has_square.true in
    let own = is.own t in
    let corner = is.upper t in
    let upper : K x (y - 1) ≡ K x y = ap (λ (i : ℕ). slice_index_or c.args.keys.now i (pos 0)) (above_is w x y below) ∙ c.have_one_key.ensures.0 c.if-not-have_one_key.false in
    let here = c.requires.keyed in
    let already = upper_already (keyed w c.args.extent.height K) (is_keyed K) x y c.requires.pixel.0 c.requires.pixel.1 (is.after t) below (ap key_number own) (ap key_number upper) (ap key_number corner)
    (keyed_is (K x y) here) (keyed_is (K (x - 1) y) (λ e. here (sym own ∙ e))) (keyed_is (K x (y - 1)) (λ e. here (sym upper ∙ e))) (keyed_is (K (x - 1) (y - 1)) (λ e. here (sym corner ∙ e))) c.args.parents.now c.requires.joined in
    subst (λ (n : ℕ). HasJoined c.args.extent c.args.keys.now n c.args.parents.now) (omega arith) already

pub returns : goal.returns
returns c =
    let w = c.args.extent.width in
    let K = key_at w c.args.keys.now in
    let x = c.args.x in
    let y = c.args.y in
    let flood = c.requires.joined in
    let below : 1 ≤ y = omega (arith, c.if-y-eq0.false) in
    let upper : K x (y - 1) ≡ K x y = ap (λ (i : ℕ). slice_index_or c.args.keys.now i (pos 0)) (above_is w x y below) ∙ c.have_one_key.ensures.0 c.if-not-have_one_key.false in
    let joined = upper_joined (keyed w c.args.extent.height K) (is_keyed K) x y c.requires.pixel.0 c.requires.pixel.1 c.args.parents.now flood below (ap key_number upper) (keyed_is (K x (y - 1)) (λ e. c.requires.keyed (sym upper ∙ e))) (keyed_is (K x y) c.requires.keyed) c.join.new.parents c.join.auto.parents (c.join.ensures flood.root flood.forest) in
    subst (λ (n : ℕ). HasJoined c.args.extent c.args.keys.now n c.join.new.parents) (omega arith) joined
