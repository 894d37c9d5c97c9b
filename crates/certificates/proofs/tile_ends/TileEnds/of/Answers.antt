use Rattle.std.proofs.Common.{◌∙◌, arith, refl}
use Rattle.std.proofs.lemmas.List.{length-set}
use Rattle.certificates.proofs.EndLemmas.{one_more_end}
use Rattle.certificates.proofs.tile_ends.TileEnds.of.Goals as goal

pub loop-place-init : goal.loop-place-init
loop-place-init c = record { told = λ k l. absurd (omega arith); count = refl }

pub loop-place-preserved : goal.loop-place-preserved
loop-place-preserved c =
    let i = c.loop-place.invariant in
    record {
      told = one_more_end c.args.tiling.now.side c.loop-place.place c.loop-place.last _ (omega (arith, i.count, c.loop-place-test.true)) refl i.told;
      count = length-set c.loop-place.last c.loop-place.place _ ∙ i.count;
    }

pub invariant_of-result : goal.invariant_of-result
invariant_of-result c = record { sides = c.args.tiling.now.sides; told = λ k l. c.loop-place.invariant.told k (omega (arith, l, c.loop-place-test.false)) }
