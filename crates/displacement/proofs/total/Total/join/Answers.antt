use Rattle.displacement.proofs.ComputedLemmas.{join_held, join_held_fits}
use Rattle.displacement.proofs.total.Total.join.Goals as goal
use Rattle.std.proofs.Common.{refl, rules}

pub overflow_add-result : goal.overflow_add-result
overflow_add-result c = search rules

pub overflow_add-result-2 : goal.overflow_add-result-2
overflow_add-result-2 c = join_held_fits c.args.self.count c.args.other.count c.args.self.sum c.args.other.sum c.requires.few c.requires.within c.requires.beside

pub returns-clause-count : goal.returns-clause-count
returns-clause-count c = refl

pub returns-clause-sum : goal.returns-clause-sum
returns-clause-sum c = join_held c.args.self.count c.args.other.count c.args.self.sum c.args.other.sum c.requires.few c.requires.within c.requires.beside
