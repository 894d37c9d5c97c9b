use Rattle.whole_text.proofs.SameLemmas.{wholes_unique}
use Rattle.whole_text.proofs.laws.whole_texts_are_unique.Goals as goal

pub returns : goal.returns
returns c = wholes_unique
