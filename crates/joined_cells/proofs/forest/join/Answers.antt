use Rattle.std.proofs.Common.{◌≡◌, arith, min, max}
use Rattle.joined_cells.proofs.ForestLemmas.{joined}
use Rattle.joined_cells.proofs.forest.join.Goals as goal

pub returns : goal.returns
returns c root forest =
    let one = c.root_of-one.ensures.root root forest in
    let other = c.root_of-other.ensures.root root one.0 in
    let first = c.root_of-one.result in
    let second = c.root_of-other.result in
    let ps = c.root_of-other.new.parents in
    let high : c.max.result ≡ max first second = c.max.ensures in
    let low : c.min.result ≡ min first second = c.min.ensures in
    rw (high, low) (joined ps root c.args.first c.args.second first second (omega (arith, c.root_of-one.ensures.least)) (omega (arith, c.root_of-other.ensures.least)) one.1 other.1 one.2 other.2 other.0)
