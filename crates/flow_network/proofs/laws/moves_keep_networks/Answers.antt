use Rattle.flow_network.proofs.PushLemmas.{kept-pushed, conserved-pushed, kept-raised, conserved-raised}
use Rattle.flow_network.proofs.laws.moves_keep_networks.Goals as goal

pub returns-clause-pushed : goal.returns-clause-pushed
returns-clause-pushed c = λ s a m f g net kept arc tight pushed. (kept-pushed s a m f g net kept arc tight pushed, conserved-pushed s a m f g net arc pushed)

pub returns-clause-raised : goal.returns-clause-raised
returns-clause-raised c = λ s amounts f g net kept may raised. (kept-raised s f g amounts net kept raised may, conserved-raised s f g amounts net raised)
