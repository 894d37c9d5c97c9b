use Rattle.insar_words.proofs.RequestLemmas.{one_command, one_request as one_asked}
use Rattle.insar_words.proofs.laws.one_request.Goals as goal

pub returns : goal.returns
returns c = record { command = one_command; request = one_asked }
