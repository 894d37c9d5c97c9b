use Rattle.std.proofs.Common.{◌<◌, ℕ, arith, length, rules}
use Rattle.std.specs.Prelude.{slice_index}
use Rattle.certain_parts.proofs.LabelLemmas.{enough_few, le_told, lt_told, ranked_large, ranked_small, ranking_begins}
use Rattle.certain_parts.proofs.labels.rank_sizes.Goals as goal
use Rattle.certain_parts.proofs.labels.rank_sizes.Goals.{then-sizes-n, else-sizes-n}

pub loop-n-init : goal.loop-n-init
loop-n-init c = ranking_begins c.args.sizes.now c.args.least

pub overflow_add-count : goal.overflow_add-count
overflow_add-count c = record { fits = omega (arith, c.loop-n.invariant.counted, enough_few c.args.least c.loop-n.n (λ (i : ℕ). slice_index c.args.sizes.now i), c.loop-n.invariant.size, c.requires, c.loop-n-test.true) }

pub loop-n-preserved : goal.loop-n-preserved
loop-n-preserved c =
    let is = c.loop-n.invariant in
    let inside : c.loop-n.n < length c.loop-n.sizes = search rules in
    elim c.if-sizes-n.branch [
      | then-sizes-n w ↦ rw (w.sizes-is, w.count-is) (ranked_large c.args.sizes.now c.args.least c.loop-n.n c.loop-n.count c.loop-n.sizes is inside (le_told c.args.least (slice_index c.loop-n.sizes c.loop-n.n) w.if-sizes-n.true))
      | else-sizes-n w ↦ rw (w.sizes-is, w.count-is) (ranked_small c.args.sizes.now c.args.least c.loop-n.n c.loop-n.count c.loop-n.sizes is inside (lt_told c.args.least (slice_index c.loop-n.sizes c.loop-n.n) w.if-sizes-n.false))
    ]

pub returns-clause-small : goal.returns-clause-small
returns-clause-small c = omega (arith, c.loop-n.invariant.counted, enough_few c.args.least c.loop-n.n (λ (i : ℕ). slice_index c.args.sizes.now i), c.loop-n.invariant.size, c.loop-n.auto.n-end)
