use Rattle.std.proofs.Common.{◌∙◌, sym, ap, arith}
use Rattle.std.proofs.lemmas.Int.{ints}
use Rattle.wrapped_gradient.specs.GradientsView.{GradientsView}
use Rattle.wrapped_gradient.proofs.ResidueLemmas.{quotient_bounded, cast_fits, cast_is, residue_sum, sum_of}
use Rattle.wrapped_gradient.proofs.gradients.Gradients.residue.Goals as goal

pub overflow_add-x : goal.overflow_add-x
overflow_add-x c =
    let same = ap (λ (v : GradientsView). v.window.x1) (sym c.self.view_is) in
    omega (arith, same, c.requires.across, c.self.invariant.0.across)

pub overflow_add-y : goal.overflow_add-y
overflow_add-y c =
    let same = ap (λ (v : GradientsView). v.window.y1) (sym c.self.view_is) in
    omega (arith, same, c.requires.along, c.self.invariant.0.along)

pub overflow_sub-result-2 : goal.overflow_sub-result-2
overflow_sub-result-2 c =
    let t = c.args.self.now.terms in
    let p = c.right-top.ensures in
    let q = c.down-right.ensures in
    let r = c.right-bottom.ensures in
    let s = c.down-left.ensures in
    omega (arith, ints, t.across.0, t.across.1, t.along.0, t.along.1, p.low, p.high, q.low, q.high, r.low, r.high, s.low, s.high)

pub overflow_cast-result : goal.overflow_cast-result
overflow_cast-result c =
    let t = c.args.self.now.terms in
    let p = c.right-top.ensures in
    let q = c.down-right.ensures in
    let r = c.right-bottom.ensures in
    let s = c.down-left.ensures in
    cast_fits _ (quotient_bounded t.ramp_x t.ramp_y c.right-top.result c.down-right.result c.right-bottom.result c.down-left.result t.across t.along (p.low, p.high) (q.low, q.high) (r.low, r.high) (s.low, s.high))

pub returns-clause-value : goal.returns-clause-value
returns-clause-value c =
    let t = c.args.self.now.terms in
    let p = c.right-top.ensures in
    let q = c.down-right.ensures in
    let r = c.right-bottom.ensures in
    let s = c.down-left.ensures in
    cast_is _ (quotient_bounded t.ramp_x t.ramp_y c.right-top.result c.down-right.result c.right-bottom.result c.down-left.result t.across t.along (p.low, p.high) (q.low, q.high) (r.low, r.high) (s.low, s.high))
    ∙ residue_sum c.args.self.now c.args.x c.args.y c.right-top.result c.down-right.result c.right-bottom.result c.down-left.result (p.low, p.high) (q.low, q.high) (r.low, r.high) (s.low, s.high) p.value q.value r.value s.value

pub returns-clause-small : goal.returns-clause-small
returns-clause-small c =
    let t = c.args.self.now.terms in
    let p = c.right-top.ensures in
    let q = c.down-right.ensures in
    let r = c.right-bottom.ensures in
    let s = c.down-left.ensures in
    let k = quotient_bounded t.ramp_x t.ramp_y c.right-top.result c.down-right.result c.right-bottom.result c.down-left.result t.across t.along (p.low, p.high) (q.low, q.high) (r.low, r.high) (s.low, s.high) in
    rw (cast_is _ k) k

pub returns-clause-sum : goal.returns-clause-sum
returns-clause-sum c =
    let p = c.right-top.ensures in
    let q = c.down-right.ensures in
    let r = c.right-bottom.ensures in
    let s = c.down-left.ensures in
    sum_of c.args.self.now c.args.x c.args.y c.right-top.result c.down-right.result c.right-bottom.result c.down-left.result (p.low, p.high) (q.low, q.high) (r.low, r.high) (s.low, s.high) p.value q.value r.value s.value
