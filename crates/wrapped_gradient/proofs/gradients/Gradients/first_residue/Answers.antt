use Rattle.std.proofs.Common.{◌≡◌, ◌∙◌, sym, arith, pos}
use Rattle.std.proofs.lemmas.Int.{ints}
use Rattle.wrapped_gradient.proofs.GradientLemmas.{next_cell}
use Rattle.wrapped_gradient.proofs.gradients.Gradients.first_residue.Goals as goal

pub loop-x-preserved : goal.loop-x-preserved
loop-x-preserved c =
    let none : c.residue.result ≡ pos 0 = omega (arith, ints, c.if-residue-ne0.false) in
    next_cell c.args.self.now c.loop-x.x c.loop-y.y c.loop-x.invariant (sym c.residue.ensures.value ∙ none)
