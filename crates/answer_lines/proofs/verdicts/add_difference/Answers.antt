use Rattle.std.proofs.Common.{refl}
use Rattle.std.specs.Int.{w128}
use Rattle.std.proofs.lemmas.Int.{to_z-of_z}
use Rattle.text_lines.proofs.ChainLemmas.{adds_four}
use Rattle.answer_lines.proofs.verdicts.add_difference.Goals as goal

pub returns : goal.returns
returns g c = adds_four c.bytes.ensures c.add_wide_field.ensures c.bytes-2.ensures (rw (to_z-of_z w128 c.args.bound c.ranges.bound) at c.add_wide_signed_field.ensures) refl
