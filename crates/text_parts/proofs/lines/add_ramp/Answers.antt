use Rattle.std.proofs.Common.{refl, rules}
use Rattle.std.specs.Prelude.{FitsSigned}
use mir.Syntax.{w32}
use Rattle.std.proofs.lemmas.Int.{to_z-of_z}
use Rattle.text_parts.proofs.LineEnds.{adds_line_three}
use Rattle.text_parts.proofs.lines.add_ramp.Goals as goal

pub returns : goal.returns
returns g c =
    let x : FitsSigned w32 c.args.across = search rules in
    let y : FitsSigned w32 c.args.along = search rules in
    adds_line_three c.bytes.ensures (rw (to_z-of_z w32 c.args.across x) at c.add_slope.ensures) (rw (to_z-of_z w32 c.args.along y) at c.add_slope-2.ensures) c.end_line.ensures refl
