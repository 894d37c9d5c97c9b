use Rattle.std.proofs.Common.{arith, subst, sym}
use Rattle.std.proofs.lemmas.Int.{ints}
use Rattle.raster_model.specs.Phase.{IsWrappedBy}
use Rattle.raster_model.proofs.PhaseLemmas.{wrapped_at, wrapped_is_it}
use Rattle.raster_model.proofs.phase.wrapped_ramp.Goals as goal

pub returns-clause-value : goal.returns-clause-value
returns-clause-value c =
    let r = wrapped_at c.args.slope c.args.a c.args.b _ c.rem_euclid.result (omega (arith, ints)) c.rem_euclid.ensures.value in
    omega (arith, ints, r)

pub returns-clause-meets : goal.returns-clause-meets
returns-clause-meets c = subst (IsWrappedBy c.args.slope c.args.a c.args.b) (sym (returns-clause-value c)) (wrapped_is_it c.args.slope c.args.a c.args.b)
