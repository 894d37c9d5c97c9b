use Rattle.std.specs.Int.{w128}
use Rattle.text_lines.proofs.AddLemmas.{adds_number}
use Rattle.text_lines.proofs.fields.add_wide_signed_field.Goals as goal

pub returns : goal.returns
returns g c = adds_number w128 c.args.number c.ranges.number c.space.ensures c.number.ensures
