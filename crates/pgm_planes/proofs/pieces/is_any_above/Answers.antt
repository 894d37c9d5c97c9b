use Rattle.std.proofs.Common.{◌≡◌, ◌≤◌, Bool, true, false, refl, subst}
use Rattle.std.specs.Prelude.{◌||◌, All}
use Rattle.std.proofs.lemmas.Bool.{ltb-false}
use Rattle.std.proofs.lemmas.List.{take_all}
use Rattle.std.proofs.lemmas.List.Elements.{All-more}
use Rattle.pgm_planes.proofs.pieces.is_any_above.Goals as goal

neither : (a b : Bool) → (a || b) ≡ false → (a ≡ false) × (b ≡ false)
neither true b e = absurd cc
neither false b e = (refl, e)

pub loop-sample-preserved : goal.loop-sample-preserved
loop-sample-preserved c none =
    let n = neither c.loop-sample.found _ none in
    All-more (λ v. v ≤ c.args.maxval) c.args.samples.now c.loop-sample.sample-index 0 c.loop-sample-test.true (c.loop-sample.invariant n.0) (ltb-false c.args.maxval _ n.1)

pub returns : goal.returns
returns c none =
    subst (All (λ v. v ≤ c.args.maxval)) (take_all c.loop-sample.sample-index c.args.samples.now c.loop-sample-test.false) (c.loop-sample.invariant none)
