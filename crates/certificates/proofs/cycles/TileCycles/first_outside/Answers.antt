use Rattle.std.proofs.Common.{◌∙◌, sym, ap, arith, w32}
use Rattle.std.specs.Prelude.{unsigned_abs}
use Rattle.std.proofs.lemmas.Int.{to_z-of_z}
use Rattle.std.proofs.lemmas.Bool.{false≢true}
use Rattle.raster_model.specs.Masks.{open_at}
use Rattle.certificates.proofs.RangeLemmas.{all_in, none_before, one_more, row_more, all_before, first_outside, in_range}
use Rattle.certificates.proofs.cycles.TileCycles.first_outside.Goals as goal
use Rattle.certificates.proofs.cycles.TileCycles.first_outside.Goals.{else-is_open-via-then-is_open+else-unsigned_abs-gt-MAX_TILE_CYCLES, else-is_open-via-else-is_open}

pub returns-then-are_in_range-clause-none : goal.returns-then-are_in_range-clause-none
returns-then-are_in_range-clause-none c =
    all_in c.args.self.now.window (open_at c.args.mask.now) c.args.self.now.cycles.now c.args.self.now.count (c.are_in_range.ensures c.if-are_in_range.true)

pub loop-y-init : goal.loop-y-init
loop-y-init c = none_before c.args.self.now.window (open_at c.args.mask.now) c.args.self.now.cycles.now

pub loop-x-init : goal.loop-x-init
loop-x-init c = c.loop-y.invariant

pub returns-then-unsigned_abs-gt-MAX_TILE_CYCLES-clause-found : goal.returns-then-unsigned_abs-gt-MAX_TILE_CYCLES-clause-found
returns-then-unsigned_abs-gt-MAX_TILE_CYCLES-clause-found c =
    first_outside c.args.self.now.window (open_at c.args.mask.now) c.args.self.now.cycles.now c.loop-x.x c.loop-y.y c.at.result c.unsigned_abs.result (c.loop-x.auto.x, omega (arith, c.loop-x-test.true), c.loop-y.auto.y, omega (arith, c.loop-y-test.true)) (sym c.is_open.ensures ∙ c.if-is_open.true) c.loop-x.invariant c.at.ensures (c.unsigned_abs.ensures.value ∙ ap unsigned_abs (to_z-of_z w32 c.at.result (record { sfits = c.at.type_inv }))) c.if-unsigned_abs-gt-MAX_TILE_CYCLES.true

pub loop-x-preserved : goal.loop-x-preserved
loop-x-preserved c =
    let v = c.args.self.now.window in
    let cycles = c.args.self.now.cycles.now in
    one_more v (open_at c.args.mask.now) cycles c.loop-x.x c.loop-y.y c.loop-x.invariant
    (λ o. elim c.else-is_open.branch [
      | else-is_open-via-then-is_open+else-unsigned_abs-gt-MAX_TILE_CYCLES w ↦ in_range v (open_at c.args.mask.now) cycles c.loop-x.x c.loop-y.y w.at.result w.unsigned_abs.result w.at.ensures (w.unsigned_abs.ensures.value ∙ ap unsigned_abs (to_z-of_z w32 w.at.result (record { sfits = w.at.type_inv }))) w.if-unsigned_abs-gt-MAX_TILE_CYCLES.false
      | else-is_open-via-else-is_open w ↦ absurd (false≢true (sym w.if-is_open.false ∙ c.is_open.ensures ∙ o))
    ])

pub loop-y-preserved : goal.loop-y-preserved
loop-y-preserved c =
    row_more c.args.self.now.window (open_at c.args.mask.now) c.args.self.now.cycles.now c.loop-x.x c.loop-y.y (omega (arith, c.loop-x-test.false)) c.loop-x.invariant

pub returns-clause-none : goal.returns-clause-none
returns-clause-none c =
    all_before c.args.self.now.window (open_at c.args.mask.now) c.args.self.now.cycles.now c.loop-y.y (omega (arith, c.loop-y-test.false)) c.loop-y.invariant
