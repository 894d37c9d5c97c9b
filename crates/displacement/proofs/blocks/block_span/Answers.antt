use Rattle.displacement.proofs.BlockLemmas.{starts_inside}
use Rattle.displacement.proofs.blocks.block_span.Goals as goal
use Rattle.std.proofs.Common.{arith, refl}

pub overflow_mul-first : goal.overflow_mul-first
overflow_mul-first c = let l = starts_inside c.args.block c.args.side c.args.number (omega arith) c.requires.inside in omega (arith, l)

pub overflow_cast-result : goal.overflow_cast-result
overflow_cast-result c = let l = starts_inside c.args.block c.args.side c.args.number (omega arith) c.requires.inside in omega (arith, l)

pub overflow_add-first : goal.overflow_add-first
overflow_add-first c = let l = starts_inside c.args.block c.args.side c.args.number (omega arith) c.requires.inside in omega (arith, l)

pub overflow_cast-result-2 : goal.overflow_cast-result-2
overflow_cast-result-2 c = let e = c.min.ensures in omega (arith, e)

pub returns-clause-first : goal.returns-clause-first
returns-clause-first c = refl

pub returns-clause-last : goal.returns-clause-last
returns-clause-last c = c.min.ensures

pub returns-clause-some : goal.returns-clause-some
returns-clause-some c = starts_inside c.args.block c.args.side c.args.number (omega arith) c.requires.inside
