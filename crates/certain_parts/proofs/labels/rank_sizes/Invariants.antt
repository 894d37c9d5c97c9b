use Rattle.certain_parts.proofs.LabelLemmas.{AreRanked}
use Rattle.certain_parts.proofs.labels.rank_sizes.Given as goal

abbrev pub invariant-loop-n : goal.invariant-loop-n
invariant-loop-n l = AreRanked l.fn.sizes l.least l.n l.count l.sizes
