use Rattle.std.proofs.Common.{arith, rules}
use Rattle.std.specs.Prelude.{FitsSigned}
use mir.Syntax.{w32, w64}
use Rattle.std.proofs.lemmas.Int.{to_z-of_z}
use Rattle.text_parts.proofs.lines.add_slope.Goals as goal

pub returns : goal.returns
returns g c =
    let fits : FitsSigned w32 c.args.slope = search rules in
    let long : FitsSigned w64 c.args.slope = record { sfits = let f = fits.sfits in omega (arith, f) } in
    rw (c.from.ensures, to_z-of_z w32 c.args.slope fits, to_z-of_z w64 c.args.slope long) at c.add_signed_field.ensures
