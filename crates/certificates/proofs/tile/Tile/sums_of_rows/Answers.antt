use Rattle.std.proofs.Common.{◌+◌, ◌≡◌, ℕ, arith, subst}
use Rattle.certificates.specs.RowWords.{AreSums}
use Rattle.certificates.proofs.RowLemmas.{no_sums, sums_few, sums_joined}
use Rattle.certificates.proofs.tile.Tile.sums_of_rows.Goals as goal

pub loop-y-init : goal.loop-y-init
loop-y-init g c = no_sums c.args.self.now (g.H.Heights.cycles_at c.args.heights.now) c.args.faces.now c.args.first

pub plus-sums-requires : goal.plus-sums-requires
plus-sums-requires g c =
    let k = c.args.self.now in
    let cycles = g.H.Heights.cycles_at c.args.heights.now in
    let before = sums_few k cycles c.args.faces.now c.args.first c.loop-y.y c.loop-y.sums c.loop-y.invariant (omega (arith, c.loop-y-test.true, c.requires.rows, k.pixels.along, k.sheet.phase.now.high)) in
    let more = sums_few k cycles c.args.faces.now c.loop-y.y (c.loop-y.y + 1) c.in-Some.more c.in-Some.ensures (omega (arith, c.loop-y-test.true, c.requires.rows, k.pixels.along, k.sheet.phase.now.high)) in
    record { bounds = (before.0, more.0); costs = (before.1, more.1) }

pub loop-y-preserved : goal.loop-y-preserved
loop-y-preserved g c =
    sums_joined c.args.self.now (g.H.Heights.cycles_at c.args.heights.now) c.args.faces.now c.args.first c.loop-y.y (c.loop-y.y + 1) c.loop-y.sums c.in-Some.more c.plus-sums.result c.loop-y.invariant c.in-Some.ensures c.plus-sums.ensures.bound c.plus-sums.ensures.cost

pub returns : goal.returns
returns g c =
    let e : c.loop-y.y ≡ c.args.end = omega (arith, c.loop-y-test.false, c.requires.rows) in
    subst (λ (n : ℕ). AreSums c.args.self.now (g.H.Heights.cycles_at c.args.heights.now) c.args.faces.now c.args.first n c.loop-y.sums) e c.loop-y.invariant
