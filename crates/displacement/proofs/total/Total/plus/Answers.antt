use Rattle.displacement.proofs.ComputedLemmas.{plus_held, plus_held_fits}
use Rattle.displacement.proofs.TotalLemmas.{adds_none, adds_one, counts_none, counts_one}
use Rattle.grid_writer.proofs.NoData.{is_no_data, no_bits}
use Rattle.displacement.proofs.total.Total.plus.Goals as goal
use Rattle.std.proofs.Common.{◌∙◌, arith, rules}

pub returns-then-value-eq-NO_DATA-clause-count : goal.returns-then-value-eq-NO_DATA-clause-count
returns-then-value-eq-NO_DATA-clause-count c = counts_none c.args.self.count c.args.value (is_no_data c.args.value c.ranges.value c.if-value-eq-NO_DATA.true)

pub returns-then-value-eq-NO_DATA-clause-sum : goal.returns-then-value-eq-NO_DATA-clause-sum
returns-then-value-eq-NO_DATA-clause-sum c = adds_none c.args.self.sum c.args.value (is_no_data c.args.value c.ranges.value c.if-value-eq-NO_DATA.true)

pub overflow_add-result : goal.overflow_add-result
overflow_add-result c = search rules

pub overflow_add-result-2 : goal.overflow_add-result-2
overflow_add-result-2 c = plus_held_fits c.args.self.count c.args.self.sum c.args.value c.from.result (omega arith) c.requires.within c.ranges.value c.from.ensures

pub returns-clause-count : goal.returns-clause-count
returns-clause-count c = counts_one c.args.self.count c.args.value (no_bits c.args.value c.if-value-eq-NO_DATA.false)

pub returns-clause-sum : goal.returns-clause-sum
returns-clause-sum c =
    plus_held c.args.self.count c.args.self.sum c.args.value c.from.result (omega arith) c.requires.within c.ranges.value c.from.ensures
    ∙ adds_one c.args.self.sum c.args.value (no_bits c.args.value c.if-value-eq-NO_DATA.false)
