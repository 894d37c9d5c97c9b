use Rattle.std.specs.Int.{w64}
use Rattle.text_lines.proofs.AddLemmas.{adds_number}
use Rattle.text_lines.proofs.fields.add_signed_field.Goals as goal

pub returns : goal.returns
returns g c = adds_number w64 c.args.number c.ranges.number c.space.ensures c.signed.ensures
