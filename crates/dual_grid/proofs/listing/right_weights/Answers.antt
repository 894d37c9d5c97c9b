use Rattle.std.proofs.Common.{◌≡◌, ◌≤◌, ℕ, ◌∙◌, ◌-◌, ◌+◌, ◌*◌, ap, arith, subst, sym, List, ℤ, to_z, of_z, w32, rules, get_or}
use Rattle.std.specs.Prelude.{pos, unsigned_abs}
use Rattle.std.proofs.lemmas.Int.{ints}
use Rattle.wrapped_gradient.specs.Rows.{AreInRows}
use Rattle.raster_model.specs.Tiles.{width_of}
use Rattle.raster_model.specs.Sheets.{sheet_raster}
use Rattle.wrapped_gradient.proofs.RowLemmas.{rows_step, rows_end}
use Rattle.dual_grid.specs.Problems.{right_edge_weights}
use Rattle.dual_grid.proofs.SupplyLemmas.{pushed_small}
use Rattle.dual_grid.proofs.listing.right_weights.Goals as goal

pub loop-x-preserved : goal.loop-x-preserved
loop-x-preserved c =
    let v = c.args.window in
    let f = right_edge_weights (sheet_raster c.args.sheet.now) v c.args.unmasked.now in
    let small : c.weight.result ≤ 65535 = search rules in
    let plain : to_z w32 (of_z w32 c.from.result) ≡ pos c.weight.result = omega (arith, ints, c.from.ensures, small) in
    let tiny : unsigned_abs (to_z w32 (of_z w32 c.from.result)) ≤ 65535 = omega (arith, ints, plain, small) in
    record {
      rows = subst (AreInRows f v.x0 v.y0 (width_of v - 1) ((c.loop-y.y - v.y0) * (width_of v - 1) + (c.loop-x.x + 1 - v.x0)))
          (sym {A = List ℤ} c.in_ok-push.ensures.items)
          (rows_step f v.x0 v.y0 (width_of v - 1) c.loop-x.x c.loop-y.y c.loop-x.list.items (to_z w32 (of_z w32 c.from.result)) (omega arith) (omega arith) (omega arith) (plain ∙ ap (λ (n : ℕ). pos n) c.weight.ensures) c.loop-x.invariant.rows);
      small = subst (λ (zs : List ℤ). (k : ℕ) → unsigned_abs (get_or zs k (pos 0)) ≤ 65535) (sym {A = List ℤ} c.in_ok-push.ensures.items)
          (pushed_small c.loop-x.list.items (to_z w32 (of_z w32 c.from.result)) 65535 c.loop-x.invariant.small tiny);
    }

pub loop-y-preserved : goal.loop-y-preserved
loop-y-preserved c =
    let v = c.args.window in
    record { rows = rows_end (right_edge_weights (sheet_raster c.args.sheet.now) v c.args.unmasked.now) v.x0 v.y0 (width_of v - 1) c.loop-x.x c.loop-y.y c.loop-x.list.items (omega arith) (omega arith) c.loop-x.invariant.rows; small = c.loop-x.invariant.small }
