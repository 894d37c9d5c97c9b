use Rattle.whole_text.proofs.LengthLemmas.{whole_texts_are_short}
use Rattle.whole_text.proofs.laws.whole_texts_are_short.Goals as goal

pub returns : goal.returns
returns c = whole_texts_are_short
