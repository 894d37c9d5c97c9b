use Rattle.displacement.specs.Displacements.{IsBlockValue}
use Rattle.grid_writer.proofs.SizeLemmas.{sized_parts}
use Rattle.displacement.proofs.DisplacingLemmas.{few_blocks, first_wide, pos_left, values_more}
use Rattle.displacement.proofs.displacing.block_values.Goals as goal
use Rattle.grid_writer.specs.Grids.{grid_of}
use Rattle.std.proofs.Common.{◌∙◌, ◌/◌, ◌%◌, ◌<◌, ℕ, FitsSigned, arith, rules, subst, sym, to_z, of_z, w64}
use Rattle.std.proofs.lemmas.Int.{to_z-of_z}
use Rattle.std.proofs.lemmas.Nat.{div_below, mod_below}

pub overflow_mul-place-end : goal.overflow_mul-place-end
overflow_mul-place-end c =
    let few = (sized_parts c.args.width c.args.height (few_blocks c.args.sight.block c.args.grid.now.width c.args.grid.now.height c.args.width c.args.height c.requires.blocks.0 c.args.grid.now.sized c.requires.width c.requires.height)).few in omega (arith, few)

pub loop-place-init : goal.loop-place-init
loop-place-init c = record { full = c.requires.room; done = λ k l. absurd (omega (arith, l)) }

pub nonzero_rem-x : goal.nonzero_rem-x
nonzero_rem-x c = pos_left c.args.width c.args.height c.loop-place.place c.loop-place-test.true

pub nonzero_div-y : goal.nonzero_div-y
nonzero_div-y c = pos_left c.args.width c.args.height c.loop-place.place c.loop-place-test.true

pub block_value-requires-clause-wave : goal.block_value-requires-clause-wave
block_value-requires-clause-wave c = c.requires.wave

pub block_value-requires-clause-blocks : goal.block_value-requires-clause-blocks
block_value-requires-clause-blocks c = c.requires.blocks

pub block_value-requires-clause-reference : goal.block_value-requires-clause-reference
block_value-requires-clause-reference c = to_z-of_z w64 c.args.reference c.ranges.reference ∙ c.requires.reference

pub block_value-requires-clause-across : goal.block_value-requires-clause-across
block_value-requires-clause-across c = subst (λ (n : ℕ). c.loop-place.place % c.args.width < n) c.requires.width (mod_below c.loop-place.place c.args.width (pos_left c.args.width c.args.height c.loop-place.place c.loop-place-test.true))

pub block_value-requires-clause-along : goal.block_value-requires-clause-along
block_value-requires-clause-along c = subst (λ (n : ℕ). c.loop-place.place / c.args.width < n) c.requires.height (div_below c.loop-place.place c.args.width c.args.height (pos_left c.args.width c.args.height c.loop-place.place c.loop-place-test.true) (let t = c.loop-place-test.true in omega (arith, t)))

pub returns-in_default-clause-refused : goal.returns-in_default-clause-refused
returns-in_default-clause-refused c =
    let some = pos_left c.args.width c.args.height c.loop-place.place c.loop-place-test.true in
    first_wide c.args.sight (grid_of c.args.grid.now) c.args.width c.loop-place.place c.loop-place.values.items c.requires.width (mod_below c.loop-place.place c.args.width some)
    (subst (λ (n : ℕ). c.loop-place.place / c.args.width < n) c.requires.height (div_below c.loop-place.place c.args.width c.args.height some (let t = c.loop-place-test.true in omega (arith, t))))
    c.loop-place.invariant.done c.in_default.ensures

pub overflow_cast-place : goal.overflow_cast-place
overflow_cast-place c =
    let few = (sized_parts c.args.width c.args.height (few_blocks c.args.sight.block c.args.grid.now.width c.args.grid.now.height c.args.width c.args.height c.requires.blocks.0 c.args.grid.now.sized c.requires.width c.requires.height)).few in let t = c.loop-place-test.true in omega (arith, few, t)

pub index_mut-requires : goal.index_mut-requires
index_mut-requires c = let f = c.loop-place.invariant.full in let t = c.loop-place-test.true in omega (arith, f, t)

pub loop-place-preserved : goal.loop-place-preserved
loop-place-preserved c = record {
  full = c.loop-place.invariant.full;
  done = values_more c.args.sight (grid_of c.args.grid.now) c.args.width c.loop-place.place c.loop-place.values.items (to_z w64 (of_z w64 c.in-Some.value)) (let o = c.loop-place.values.ok.0 in let f = c.loop-place.invariant.full in let t = c.loop-place-test.true in omega (arith, o, f, t)) c.loop-place.invariant.done (let fits : FitsSigned w64 c.in-Some.value = search rules in subst (IsBlockValue c.args.sight (grid_of c.args.grid.now) (c.loop-place.place % c.args.width) (c.loop-place.place / c.args.width)) (sym (to_z-of_z w64 c.in-Some.value fits)) c.in-Some.ensures);
}

pub returns-clause-full : goal.returns-clause-full
returns-clause-full c = c.loop-place.invariant.full

pub returns-clause-values : goal.returns-clause-values
returns-clause-values c = λ k l. c.loop-place.invariant.done k (let t = c.loop-place-test.false in omega (arith, l, t))
