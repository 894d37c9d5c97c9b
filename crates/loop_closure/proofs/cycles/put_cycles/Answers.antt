use Rattle.std.proofs.Common.{arith, of_z, pos, slice_index_or, subst, sym, to_z, w64, FitsSigned, rules, ℤ}
use Rattle.std.proofs.lemmas.Int.{to_z-of_z}
use Rattle.loop_closure.specs.Closure.{AreCyclesIn}
use Rattle.loop_closure.proofs.LoopLemmas.{have_more}
use Rattle.loop_closure.proofs.cycles.put_cycles.Goals as goal

pub loop-place-preserved : goal.loop-place-preserved
loop-place-preserved c =
    let closure = slice_index_or c.args.closures.now c.loop-place.place (pos 0) in
    let fits : FitsSigned w64 closure = search rules in
    let narrow : FitsSigned w64 c.cycles_in.result = search rules in
    have_more c.args.closures.now c.loop-place.cycles c.loop-place.place (to_z w64 (of_z w64 c.cycles_in.result)) (let n = c.loop-place.auto.cycles in let t = c.loop-place-test.true in omega (arith, n, t)) c.loop-place.invariant
    (subst (AreCyclesIn closure) (sym (to_z-of_z w64 c.cycles_in.result narrow)) (subst (λ (n : ℤ). AreCyclesIn n c.cycles_in.result) (to_z-of_z w64 closure fits) c.cycles_in.ensures))
