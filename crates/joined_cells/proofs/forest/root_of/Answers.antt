use Rattle.std.proofs.Common.{◌<◌, ◌∙◌, length, arith}
use Rattle.joined_cells.proofs.ForestLemmas.{above, halved}
use Rattle.joined_cells.proofs.forest.root_of.Goals as goal

pub loop-parents-preserved : goal.loop-parents-preserved
loop-parents-preserved c =
    let ps = c.loop-parents.parents in
    let here = c.loop-parents.here in
    let inside : here < length ps = omega (arith, c.loop-parents.invariant.least) in
    let some = c.requires.forest in
    let is = c.loop-parents.invariant.kept some.0 some.1 in
    let up = above ps some.0 here inside is.0 in
    record {
      least = omega (arith, up.0, c.loop-parents.invariant.least);
      kept = λ root forest. (
          let kept = c.loop-parents.invariant.kept root forest in
          (halved ps root here inside kept.0, (above ps root here inside kept.0).1 ∙ kept.1));
    }
