use Rattle.std.proofs.Common.{refl}
use Rattle.session_script.specs.Text.{session_text}
use Rattle.text_lines.proofs.ChainLemmas.{adds_four}
use Rattle.session_script.proofs.write.add_session.Goals as goal

pub returns : goal.returns
unfolding session_text
returns g c = adds_four c.add_plane.ensures c.add_plane-2.ensures c.add_mask.ensures (rw c.deref.ensures.value at c.add_scripts.ensures) refl
