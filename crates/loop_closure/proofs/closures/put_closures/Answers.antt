use Rattle.std.proofs.Common.{◌∙◌, FitsSigned, arith, of_z, pos, rules, slice_index_or, to_z, w64}
use Rattle.std.proofs.lemmas.Int.{to_z-of_z}
use Rattle.loop_closure.proofs.LoopLemmas.{closed_more}
use Rattle.loop_closure.proofs.closures.put_closures.Goals as goal

pub loop-place-preserved : goal.loop-place-preserved
loop-place-preserved c =
    let a = slice_index_or c.args.a.now c.loop-place.place (pos 0) in
    let b = slice_index_or c.args.b.now c.loop-place.place (pos 0) in
    let d = slice_index_or c.args.c.now c.loop-place.place (pos 0) in
    let fa : FitsSigned w64 a = search rules in
    let fb : FitsSigned w64 b = search rules in
    let fd : FitsSigned w64 d = search rules in
    let fits : FitsSigned w64 c.in-Some.closure = search rules in
    let told = rw (to_z-of_z w64 a fa, to_z-of_z w64 b fb, to_z-of_z w64 d fd) at c.in-Some.ensures in
    closed_more c.args.a.now c.args.b.now c.args.c.now c.loop-place.closures c.loop-place.place (to_z w64 (of_z w64 c.in-Some.closure))
    (let n = c.loop-place.auto.closures in let t = c.loop-place-test.true in omega (arith, n, t)) c.loop-place.invariant (to_z-of_z w64 c.in-Some.closure fits ∙ told.0) told.1
