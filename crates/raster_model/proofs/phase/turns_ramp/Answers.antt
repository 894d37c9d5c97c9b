use Rattle.std.proofs.Common.{◌≡◌, ◌∙◌, arith, to_z, of_z, w32}
use Rattle.std.proofs.lemmas.Int.{ints, to_z-of_z}
use Rattle.raster_model.proofs.PhaseLemmas.{turns_small, turns_exact, turns_at}
use Rattle.raster_model.proofs.phase.turns_ramp.Goals as goal

pub returns-clause-value : goal.returns-clause-value
returns-clause-value c =
    let fits : to_z w32 (of_z w32 c.div_euclid.result) ≡ c.div_euclid.result = to_z-of_z w32 c.div_euclid.result (record { sfits = c.div_euclid.type_inv }) in
    fits ∙ turns_at c.args.slope c.args.a c.args.b _ c.div_euclid.result (omega (arith, ints)) c.div_euclid.ensures

pub returns-clause-exact : goal.returns-clause-exact
returns-clause-exact c = rw (returns-clause-value c) (turns_exact c.args.slope c.args.a c.args.b)

pub returns-clause-small : goal.returns-clause-small
returns-clause-small c = rw (returns-clause-value c) (turns_small c.args.slope c.args.a c.args.b c.requires (omega arith) (omega arith))
