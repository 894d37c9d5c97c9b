use Rattle.std.proofs.Common.{below_more, inl, inr, arith}
use Rattle.grid_writer.proofs.shown.ShownValues.first_unfit.Goals as goal

pub loop-y-preserved : goal.loop-y-preserved
loop-y-preserved c = below_more _ _ c.loop-y.invariant c.in_default.ensures.none

pub returns-in-Some-clause-found : goal.returns-in-Some-clause-found
returns-in-Some-clause-found c =
    let f = c.in-Some.ensures.found in
    record {
      across = f.across;
      along = omega arith;
      unfit = f.unfit;
      first = λ a b la lb e. elim e [
        | inl above ↦ c.loop-y.invariant b above a la
        | inr here ↦ rw here.0 (f.first a here.1)
      ];
    }
