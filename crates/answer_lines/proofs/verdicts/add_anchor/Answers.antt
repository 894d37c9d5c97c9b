use Rattle.std.proofs.Common.{refl}
use Rattle.std.specs.Int.{w64}
use Rattle.std.proofs.lemmas.Int.{to_z-of_z}
use Rattle.text_lines.proofs.ChainLemmas.{adds_two}
use Rattle.answer_lines.proofs.verdicts.add_anchor.Goals as goal

pub returns : goal.returns
returns g c = adds_two c.bytes.ensures (rw (to_z-of_z w64 c.args.cycles c.ranges.cycles) at c.add_signed_field.ensures) refl
