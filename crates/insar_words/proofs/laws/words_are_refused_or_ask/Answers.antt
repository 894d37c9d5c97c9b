use Rattle.insar_words.proofs.RequestLemmas.{refused_or_asking}
use Rattle.insar_words.proofs.laws.words_are_refused_or_ask.Goals as goal

pub returns : goal.returns
returns c = refused_or_asking
