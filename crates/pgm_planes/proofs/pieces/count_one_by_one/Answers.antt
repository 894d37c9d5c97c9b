use Rattle.std.proofs.Common.{◌≤◌}
use Rattle.std.proofs.lemmas.List.Elements.{All-more}
use Rattle.pgm_planes.proofs.pieces.count_one_by_one.Goals as goal

pub loop-place-preserved : goal.loop-place-preserved
loop-place-preserved c = All-more (λ v. v ≤ c.args.maxval) c.args.samples.now c.loop-place.place 0 c.loop-place-test.true c.loop-place.invariant c.if-sample-maxval.false
