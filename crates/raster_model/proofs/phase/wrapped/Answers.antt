use Rattle.std.proofs.Common.{arith}
use Rattle.std.proofs.lemmas.Int.{ints}
use Rattle.std.specs.Prelude.{pos}
use Rattle.raster_model.proofs.PhaseLemmas.{wrapped_has_no_slope, wrapped_at}
use Rattle.raster_model.proofs.phase.wrapped.Goals as goal

pub returns-clause-value : goal.returns-clause-value
returns-clause-value c =
    let r = wrapped_at (pos 0) c.args.a c.args.b _ c.rem_euclid.result (omega (arith, ints)) c.rem_euclid.ensures.value in
    omega (arith, ints, r)

pub returns-clause-meets : goal.returns-clause-meets
returns-clause-meets c = (wrapped_has_no_slope c.args.a c.args.b _).1 (returns-clause-value c)
