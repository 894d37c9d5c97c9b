use Rattle.std.proofs.Common.{refl}
use Rattle.text_lines.proofs.ChainLemmas.{adds_three}
use Rattle.answer_lines.proofs.refusals.add_plane_fault.Goals as goal

pub returns-in-Size : goal.returns-in-Size
returns-in-Size g c = rw c.in-Size.is (adds_three c.add_named-in-Size.ensures c.add_numbered-in-Size.ensures c.add_numbered-in-Size-2.ensures refl)

pub returns-in-SampleAbove : goal.returns-in-SampleAbove
returns-in-SampleAbove g c = rw c.in-SampleAbove.is (adds_three c.add_named-in-SampleAbove.ensures c.add_numbered-in-SampleAbove.ensures c.add_numbered-in-SampleAbove-2.ensures refl)
