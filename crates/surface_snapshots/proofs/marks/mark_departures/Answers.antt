use Rattle.std.proofs.Common.{◌∙◌, ◌<◌, arith, length, pos, rules, slice_index, slice_index_or, to_z, of_z, w32, w64}
use Rattle.std.specs.Prelude.{FitsSigned}
use Rattle.std.proofs.lemmas.Int.{to_z-of_z}
use Rattle.std.proofs.lemmas.List.{length-set}
use Rattle.surface_snapshots.specs.Strips.{IsStillEdge}
use Rattle.surface_snapshots.proofs.MarkLemmas.{mark_kept, mark_more}
use Rattle.surface_snapshots.proofs.marks.mark_departures.Goals as goal

pub loop-i-preserved : goal.loop-i-preserved
loop-i-preserved c =
    let inv = c.loop-i.invariant in
    let marks = c.loop-i.marks in
    let n = c.loop-i.i in
    let found = c.departs.result in
    let room : n < length marks = omega (arith, inv.same, c.loop-i-test.true) in
    let from = slice_index_or c.args.from.now n (pos 0) in
    let to = slice_index_or c.args.to.now n (pos 0) in
    let starts : FitsSigned w64 from = search rules in
    let ends : FitsSigned w64 to = search rules in
    record {
      same = length-set marks n _ ∙ inv.same;
      kept = λ k none. inv.kept k (mark_kept marks n found room k none);
      still = mark_more marks n found room
          (λ k. IsStillEdge (to_z w32 (of_z w32 c.args.slope)) (slice_index_or c.args.from.now k (pos 0)) (slice_index_or c.args.to.now k (pos 0)) (slice_index c.args.first.now k) (slice_index c.args.other.now k))
          inv.still (λ none. rw (to_z-of_z w64 from starts, to_z-of_z w64 to ends) at (c.departs.ensures none));
    }
