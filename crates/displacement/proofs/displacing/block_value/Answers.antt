use Rattle.displacement.proofs.DisplacingLemmas.{block_told, empty_block}
use Rattle.displacement.proofs.displacing.block_value.Goals as goal
use Rattle.grid_writer.specs.Grids.{grid_of}
use Rattle.std.proofs.Common.{arith, of_z, to_z, w64, ◌∙◌}
use Rattle.std.proofs.lemmas.Int.{to_z-of_z}

pub block_total-total-requires-clause-blocks : goal.block_total-total-requires-clause-blocks
block_total-total-requires-clause-blocks c = c.requires.blocks

pub block_total-total-requires-clause-across : goal.block_total-total-requires-clause-across
block_total-total-requires-clause-across c = c.requires.across

pub block_total-total-requires-clause-along : goal.block_total-total-requires-clause-along
block_total-total-requires-clause-along c = c.requires.along

pub returns-then-total-eq0 : goal.returns-then-total-eq0
returns-then-total-eq0 c = empty_block c.args.sight (grid_of c.args.grid.now) c.args.column c.args.row c.block_total-total.result.count c.block_total-total.ensures.count c.if-total-eq0.true

pub displacement-requires-clause-some : goal.displacement-requires-clause-some
displacement-requires-clause-some c = let n = c.if-total-eq0.false in omega (arith, n)

pub displacement-requires-clause-few : goal.displacement-requires-clause-few
displacement-requires-clause-few c = c.block_total-total.ensures.few

pub displacement-requires-clause-within : goal.displacement-requires-clause-within
displacement-requires-clause-within c = c.block_total-total.ensures.within

pub displacement-requires-clause-wave : goal.displacement-requires-clause-wave
displacement-requires-clause-wave c = c.requires.wave

pub returns : goal.returns
returns c =
    block_told c.args.sight (grid_of c.args.grid.now) c.args.column c.args.row c.block_total-total.result.count c.block_total-total.result.sum (to_z w64 (of_z w64 c.args.reference)) c.block_total-total.ensures.count c.block_total-total.ensures.sum (to_z-of_z w64 c.args.reference c.ranges.reference ∙ c.requires.reference) (let n = c.if-total-eq0.false in omega (arith, n)) c.displacement.result c.displacement.ensures
