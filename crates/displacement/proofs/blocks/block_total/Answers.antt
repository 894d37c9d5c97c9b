use Rattle.displacement.proofs.BlockLemmas.{down, ends, piece_is, piece_length, rows_none, rows_more, rows_cut, whole_count, whole_sum}
use Rattle.displacement.proofs.blocks.block_total.Goals as goal
use Rattle.grid_writer.specs.Grids.{grid_of}
use Rattle.grid_writer.proofs.SizeLemmas.{sized_parts}
use Rattle.std.proofs.Common.{◌∙◌, ◌+◌, ◌*◌, arith, refl, rules, sym}

pub block_span-left-requires-clause-blocks : goal.block_span-left-requires-clause-blocks
block_span-left-requires-clause-blocks c = c.requires.blocks

pub block_span-left-requires-clause-sides : goal.block_span-left-requires-clause-sides
block_span-left-requires-clause-sides c = (sized_parts c.args.grid.now.width c.args.grid.now.height c.args.grid.now.sized).narrow

pub block_span-left-requires-clause-inside : goal.block_span-left-requires-clause-inside
block_span-left-requires-clause-inside c = c.requires.across

pub block_span-top-requires-clause-blocks : goal.block_span-top-requires-clause-blocks
block_span-top-requires-clause-blocks c = c.requires.blocks

pub block_span-top-requires-clause-sides : goal.block_span-top-requires-clause-sides
block_span-top-requires-clause-sides c = (sized_parts c.args.grid.now.width c.args.grid.now.height c.args.grid.now.sized).low

pub block_span-top-requires-clause-inside : goal.block_span-top-requires-clause-inside
block_span-top-requires-clause-inside c = c.requires.along

pub overflow_sub-v-end : goal.overflow_sub-v-end
overflow_sub-v-end c = let a = c.block_span-top.ensures.first in let b = c.block_span-top.ensures.last in let d = c.block_span-top.ensures.some in omega (arith, a, b, d)

pub loop-v-init : goal.loop-v-init
loop-v-init c = rows_none (grid_of c.args.grid.now) c.args.block c.args.column c.args.row

pub overflow_add-start : goal.overflow_add-start
overflow_add-start c =
    let d = down c.loop-v.v c.block_span-top.result.0 c.block_span-top.result.1 c.args.grid.now.height (c.args.block * c.args.row + c.args.block) c.loop-v-test.true c.block_span-top.ensures.last in let low = (sized_parts c.args.grid.now.width c.args.grid.now.height c.args.grid.now.sized).low in omega (arith, d, low)

pub overflow_mul-start : goal.overflow_mul-start
overflow_mul-start c =
    let e = ends c.args.grid.now.width c.args.grid.now.height c.args.grid.now.values.items c.args.grid.now.values.items c.args.block c.args.column c.args.row c.loop-v.v c.block_span-left.result.0 c.block_span-left.result.1 c.block_span-top.result.0 (sym c.args.grid.now.values.ok.0 ∙ c.args.grid.now.full) refl c.block_span-left.ensures.first c.block_span-left.ensures.last c.block_span-top.ensures.first c.block_span-left.ensures.some (down c.loop-v.v c.block_span-top.result.0 c.block_span-top.result.1 c.args.grid.now.height (c.args.block * c.args.row + c.args.block) c.loop-v-test.true c.block_span-top.ensures.last) in let n = sym c.args.grid.now.values.ok.0 ∙ c.args.grid.now.full in let few = (sized_parts c.args.grid.now.width c.args.grid.now.height c.args.grid.now.sized).few in omega (arith, e, n, few)

pub overflow_add-start-in-loop-v : goal.overflow_add-start-in-loop-v
overflow_add-start-in-loop-v c =
    let e = ends c.args.grid.now.width c.args.grid.now.height c.args.grid.now.values.items c.args.grid.now.values.items c.args.block c.args.column c.args.row c.loop-v.v c.block_span-left.result.0 c.block_span-left.result.1 c.block_span-top.result.0 (sym c.args.grid.now.values.ok.0 ∙ c.args.grid.now.full) refl c.block_span-left.ensures.first c.block_span-left.ensures.last c.block_span-top.ensures.first c.block_span-left.ensures.some (down c.loop-v.v c.block_span-top.result.0 c.block_span-top.result.1 c.args.grid.now.height (c.args.block * c.args.row + c.args.block) c.loop-v-test.true c.block_span-top.ensures.last) in let n = sym c.args.grid.now.values.ok.0 ∙ c.args.grid.now.full in let few = (sized_parts c.args.grid.now.width c.args.grid.now.height c.args.grid.now.sized).few in let l = c.block_span-left.ensures.first in let r = c.block_span-left.ensures.last in let s = c.block_span-left.ensures.some in omega (arith, e, n, few, l, r, s)

pub overflow_add-start-in-loop-v-2 : goal.overflow_add-start-in-loop-v-2
overflow_add-start-in-loop-v-2 c =
    let e = ends c.args.grid.now.width c.args.grid.now.height c.args.grid.now.values.items c.args.grid.now.values.items c.args.block c.args.column c.args.row c.loop-v.v c.block_span-left.result.0 c.block_span-left.result.1 c.block_span-top.result.0 (sym c.args.grid.now.values.ok.0 ∙ c.args.grid.now.full) refl c.block_span-left.ensures.first c.block_span-left.ensures.last c.block_span-top.ensures.first c.block_span-left.ensures.some (down c.loop-v.v c.block_span-top.result.0 c.block_span-top.result.1 c.args.grid.now.height (c.args.block * c.args.row + c.args.block) c.loop-v-test.true c.block_span-top.ensures.last) in let n = sym c.args.grid.now.values.ok.0 ∙ c.args.grid.now.full in let few = (sized_parts c.args.grid.now.width c.args.grid.now.height c.args.grid.now.sized).few in omega (arith, e, n, few)

pub offset_bounds-deref-start : goal.offset_bounds-deref-start
offset_bounds-deref-start c =
    let e = ends c.args.grid.now.width c.args.grid.now.height c.args.grid.now.values.items c.args.grid.now.values.items c.args.block c.args.column c.args.row c.loop-v.v c.block_span-left.result.0 c.block_span-left.result.1 c.block_span-top.result.0 (sym c.args.grid.now.values.ok.0 ∙ c.args.grid.now.full) refl c.block_span-left.ensures.first c.block_span-left.ensures.last c.block_span-top.ensures.first c.block_span-left.ensures.some (down c.loop-v.v c.block_span-top.result.0 c.block_span-top.result.1 c.args.grid.now.height (c.args.block * c.args.row + c.args.block) c.loop-v-test.true c.block_span-top.ensures.last) in let n = sym c.args.grid.now.values.ok.0 ∙ c.args.grid.now.full in let few = (sized_parts c.args.grid.now.width c.args.grid.now.height c.args.grid.now.sized).few in let l = c.block_span-left.ensures.first in let r = c.block_span-left.ensures.last in let s = c.block_span-left.ensures.some in omega (arith, e, n, few, l, r, s)

pub slice_bounds-piece_total-count : goal.slice_bounds-piece_total-count
slice_bounds-piece_total-count c =
    let l = c.block_span-left.ensures.first in let r = c.block_span-left.ensures.last in let s = c.block_span-left.ensures.some in omega (arith, l, r, s)

pub slice_bounds-piece_total-start : goal.slice_bounds-piece_total-start
slice_bounds-piece_total-start c =
    let e = ends c.args.grid.now.width c.args.grid.now.height c.args.grid.now.values.items c.deref.result.now c.args.block c.args.column c.args.row c.loop-v.v c.block_span-left.result.0 c.block_span-left.result.1 c.block_span-top.result.0 (sym c.args.grid.now.values.ok.0 ∙ c.args.grid.now.full) c.deref.ensures.value c.block_span-left.ensures.first c.block_span-left.ensures.last c.block_span-top.ensures.first c.block_span-left.ensures.some (down c.loop-v.v c.block_span-top.result.0 c.block_span-top.result.1 c.args.grid.now.height (c.args.block * c.args.row + c.args.block) c.loop-v-test.true c.block_span-top.ensures.last) in let l = c.block_span-left.ensures.first in let r = c.block_span-left.ensures.last in let s = c.block_span-left.ensures.some in search rules

pub slice_bounds-piece_total-end : goal.slice_bounds-piece_total-end
slice_bounds-piece_total-end c =
    let e = ends c.args.grid.now.width c.args.grid.now.height c.args.grid.now.values.items c.deref.result.now c.args.block c.args.column c.args.row c.loop-v.v c.block_span-left.result.0 c.block_span-left.result.1 c.block_span-top.result.0 (sym c.args.grid.now.values.ok.0 ∙ c.args.grid.now.full) c.deref.ensures.value c.block_span-left.ensures.first c.block_span-left.ensures.last c.block_span-top.ensures.first c.block_span-left.ensures.some (down c.loop-v.v c.block_span-top.result.0 c.block_span-top.result.1 c.args.grid.now.height (c.args.block * c.args.row + c.args.block) c.loop-v-test.true c.block_span-top.ensures.last) in let l = c.block_span-left.ensures.first in let r = c.block_span-left.ensures.last in let s = c.block_span-left.ensures.some in search rules

pub piece_total-requires : goal.piece_total-requires
piece_total-requires c = let n = piece_length c.args.grid.now.width c.args.grid.now.height c.args.grid.now.values.items c.deref.result.now c.args.block c.args.column c.args.row c.loop-v.v c.block_span-left.result.0 c.block_span-left.result.1 c.block_span-top.result.0 (sym c.args.grid.now.values.ok.0 ∙ c.args.grid.now.full) c.deref.ensures.value c.block_span-left.ensures.first c.block_span-left.ensures.last c.block_span-top.ensures.first c.block_span-left.ensures.some (down c.loop-v.v c.block_span-top.result.0 c.block_span-top.result.1 c.args.grid.now.height (c.args.block * c.args.row + c.args.block) c.loop-v-test.true c.block_span-top.ensures.last) in let r = c.block_span-left.ensures.last in let l = c.block_span-left.ensures.first in let b = c.requires.blocks.1 in omega (arith, n, r, l, b)

pub join-total-requires-clause-few : goal.join-total-requires-clause-few
join-total-requires-clause-few c =
    let f = c.loop-v.invariant.few in let p = c.piece_total.ensures.few in let n = piece_length c.args.grid.now.width c.args.grid.now.height c.args.grid.now.values.items c.deref.result.now c.args.block c.args.column c.args.row c.loop-v.v c.block_span-left.result.0 c.block_span-left.result.1 c.block_span-top.result.0 (sym c.args.grid.now.values.ok.0 ∙ c.args.grid.now.full) c.deref.ensures.value c.block_span-left.ensures.first c.block_span-left.ensures.last c.block_span-top.ensures.first c.block_span-left.ensures.some (down c.loop-v.v c.block_span-top.result.0 c.block_span-top.result.1 c.args.grid.now.height (c.args.block * c.args.row + c.args.block) c.loop-v-test.true c.block_span-top.ensures.last) in let t = c.loop-v-test.true in let l = c.block_span-left.ensures.first in let r = c.block_span-left.ensures.last in let s = c.block_span-left.ensures.some in let a = c.block_span-top.ensures.first in let z = c.block_span-top.ensures.last in let b = c.requires.blocks.1 in omega (arith, f, p, n, t, l, r, a, z, b)

pub join-total-requires-clause-within : goal.join-total-requires-clause-within
join-total-requires-clause-within c = c.loop-v.invariant.within

pub join-total-requires-clause-beside : goal.join-total-requires-clause-beside
join-total-requires-clause-beside c = c.piece_total.ensures.within

pub loop-v-preserved : goal.loop-v-preserved
loop-v-preserved c =
    rows_more (grid_of c.args.grid.now) c.args.block c.args.column c.args.row c.loop-v.v c.loop-v.total.count c.piece_total.result.count c.join-total.result.count c.loop-v.total.sum c.piece_total.result.sum c.join-total.result.sum _ c.requires.blocks.1 c.loop-v.invariant
    (piece_is c.args.grid.now.width c.args.grid.now.height c.args.grid.now.values.items c.deref.result.now c.args.block c.args.column c.args.row c.loop-v.v c.block_span-left.result.0 c.block_span-left.result.1 c.block_span-top.result.0 (sym c.args.grid.now.values.ok.0 ∙ c.args.grid.now.full) c.deref.ensures.value c.block_span-left.ensures.first c.block_span-left.ensures.last c.block_span-top.ensures.first c.block_span-left.ensures.some (down c.loop-v.v c.block_span-top.result.0 c.block_span-top.result.1 c.args.grid.now.height (c.args.block * c.args.row + c.args.block) c.loop-v-test.true c.block_span-top.ensures.last)) c.piece_total.ensures c.join-total.ensures.count c.join-total.ensures.sum

pub returns-clause-count : goal.returns-clause-count
returns-clause-count c =
    whole_count (grid_of c.args.grid.now) c.args.block c.args.column c.args.row c.loop-v.v c.loop-v.total.count c.loop-v.total.sum (let t = c.loop-v.auto.v-end in let a = c.block_span-top.ensures.first in let z = c.block_span-top.ensures.last in let b = c.requires.blocks.1 in omega (arith, t, a, z)) (rows_cut c.loop-v.v c.block_span-top.result.0 c.block_span-top.result.1 c.args.grid.now.height c.args.block c.args.row (let t = c.loop-v-test.false in omega (arith, t)) c.block_span-top.ensures.first c.block_span-top.ensures.last c.block_span-top.ensures.some) c.loop-v.invariant

pub returns-clause-sum : goal.returns-clause-sum
returns-clause-sum c =
    whole_sum (grid_of c.args.grid.now) c.args.block c.args.column c.args.row c.loop-v.v c.loop-v.total.count c.loop-v.total.sum (let t = c.loop-v.auto.v-end in let a = c.block_span-top.ensures.first in let z = c.block_span-top.ensures.last in let b = c.requires.blocks.1 in omega (arith, t, a, z)) (rows_cut c.loop-v.v c.block_span-top.result.0 c.block_span-top.result.1 c.args.grid.now.height c.args.block c.args.row (let t = c.loop-v-test.false in omega (arith, t)) c.block_span-top.ensures.first c.block_span-top.ensures.last c.block_span-top.ensures.some) c.loop-v.invariant

pub returns-clause-few : goal.returns-clause-few
returns-clause-few c =
    let f = c.loop-v.invariant.few in let t = c.loop-v.auto.v-end in let a = c.block_span-top.ensures.first in let z = c.block_span-top.ensures.last in let b = c.requires.blocks.1 in omega (arith, f, t, a, z, b)

pub returns-clause-within : goal.returns-clause-within
returns-clause-within c = c.loop-v.invariant.within
