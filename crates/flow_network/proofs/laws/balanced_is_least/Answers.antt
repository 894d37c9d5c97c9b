use Rattle.flow_network.proofs.LeastLemmas.{balanced_is_least}
use Rattle.flow_network.proofs.laws.balanced_is_least.Goals as goal

pub returns : goal.returns
returns c = balanced_is_least
