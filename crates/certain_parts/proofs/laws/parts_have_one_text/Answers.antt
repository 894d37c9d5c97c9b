use Rattle.certain_parts.proofs.OneText.{parts_have_one_text}
use Rattle.certain_parts.proofs.laws.parts_have_one_text.Goals as goal

pub returns : goal.returns
returns c = parts_have_one_text
