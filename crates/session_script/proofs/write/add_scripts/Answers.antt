use Rattle.std.proofs.Common.{refl}
use Rattle.text_lines.proofs.ChainLemmas.{adds_two}
use Rattle.session_script.proofs.write.add_scripts.Goals as goal

pub returns : goal.returns
returns g c = adds_two c.add_sections.ensures c.add_line.ensures refl
