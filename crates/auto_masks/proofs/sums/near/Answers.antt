use Rattle.std.proofs.Common.{◌+◌, ◌*◌, ◌≤◌, arith, refl}
use Rattle.std.proofs.lemmas.Nat.{mul-le}
use Rattle.auto_masks.proofs.SumLemmas.{near_few, near_sums}
use Rattle.auto_masks.proofs.sums.near.Goals as goal

pub overflow_add-whole : goal.overflow_add-whole
overflow_add-whole c =
    let w = c.args.extent.width in
    let h = c.args.extent.height in
    let some = c.requires.sums in
    let e = near_sums c.args.radius w h c.args.x c.args.y some.0 c.args.sums.now some.1 c.requires.pixel.0 c.requires.pixel.1 c.saturating_sub-left.result c.min-right.result c.saturating_sub-top.result c.min-bottom.result c.sum_of.result c.sum_of-2.result _ _ c.saturating_sub-left.ensures c.min-right.ensures c.saturating_sub-top.ensures c.min-bottom.ensures c.sum_of.ensures c.sum_of-2.ensures refl refl in
    record { fits = omega (arith, e.1, e.2, c.args.extent.few) }

pub overflow_sub-result : goal.overflow_sub-result
overflow_sub-result c =
    let w = c.args.extent.width in
    let h = c.args.extent.height in
    let some = c.requires.sums in
    let e = near_sums c.args.radius w h c.args.x c.args.y some.0 c.args.sums.now some.1 c.requires.pixel.0 c.requires.pixel.1 c.saturating_sub-left.result c.min-right.result c.saturating_sub-top.result c.min-bottom.result c.sum_of.result c.sum_of-2.result c.sum_of-3.result _ c.saturating_sub-left.ensures c.min-right.ensures c.saturating_sub-top.ensures c.min-bottom.ensures c.sum_of.ensures c.sum_of-2.ensures c.sum_of-3.ensures refl in
    omega (arith, e.0)

pub overflow_sub-result-2 : goal.overflow_sub-result-2
overflow_sub-result-2 c =
    let w = c.args.extent.width in
    let h = c.args.extent.height in
    let some = c.requires.sums in
    let e = near_sums c.args.radius w h c.args.x c.args.y some.0 c.args.sums.now some.1 c.requires.pixel.0 c.requires.pixel.1 c.saturating_sub-left.result c.min-right.result c.saturating_sub-top.result c.min-bottom.result c.sum_of.result c.sum_of-2.result c.sum_of-3.result c.sum_of-4.result c.saturating_sub-left.ensures c.min-right.ensures c.saturating_sub-top.ensures c.min-bottom.ensures c.sum_of.ensures c.sum_of-2.ensures c.sum_of-3.ensures c.sum_of-4.ensures in
    omega (arith, e.0)

pub returns-clause-value : goal.returns-clause-value
returns-clause-value c test is =
    let w = c.args.extent.width in
    let h = c.args.extent.height in
    let e = near_sums c.args.radius w h c.args.x c.args.y test c.args.sums.now is c.requires.pixel.0 c.requires.pixel.1 c.saturating_sub-left.result c.min-right.result c.saturating_sub-top.result c.min-bottom.result c.sum_of.result c.sum_of-2.result c.sum_of-3.result c.sum_of-4.result c.saturating_sub-left.ensures c.min-right.ensures c.saturating_sub-top.ensures c.min-bottom.ensures c.sum_of.ensures c.sum_of-2.ensures c.sum_of-3.ensures c.sum_of-4.ensures in
    omega (arith, e.0)

pub returns-clause-few : goal.returns-clause-few
returns-clause-few c =
    let w = c.args.extent.width in
    let h = c.args.extent.height in
    let some = c.requires.sums in
    let e = near_sums c.args.radius w h c.args.x c.args.y some.0 c.args.sums.now some.1 c.requires.pixel.0 c.requires.pixel.1 c.saturating_sub-left.result c.min-right.result c.saturating_sub-top.result c.min-bottom.result c.sum_of.result c.sum_of-2.result c.sum_of-3.result c.sum_of-4.result c.saturating_sub-left.ensures c.min-right.ensures c.saturating_sub-top.ensures c.min-bottom.ensures c.sum_of.ensures c.sum_of-2.ensures c.sum_of-3.ensures c.sum_of-4.ensures in
    let few = near_few c.args.radius w h c.args.x c.args.y some.0 c.requires.pixel.0 c.requires.pixel.1 in
    let side : 2 * c.args.radius + 1 ≤ 129 = omega (arith, c.requires.radius) in
    let square = mul-le (2 * c.args.radius + 1) (2 * c.args.radius + 1) 129 129 side side in
    omega (arith, e.0, few, square)
