use Rattle.std.proofs.Common.{◌≡◌, ◌+◌, ◌-◌, ◌*◌, ◌∙◌, ap, sym, subst, arith, ℕ, ℤ, List, length, to_z, of_z, w32}
use Rattle.raster_model.specs.Sheets.{sheet_raster}
use Rattle.wrapped_gradient.specs.Rows.{AreInRows, of_down_edges}
use Rattle.wrapped_gradient.proofs.DifferenceLemmas.{AreTold, part_inside, down_row, slope_plain, told_none, written_back}
use Rattle.wrapped_gradient.proofs.gradients.down_differences.Goals as goal

pub loop-y-init : goal.loop-y-init
loop-y-init c =
    let v = c.args.window in
    record {
      count = sym c.in_ok-list.list.ok.0 ∙ c.in_ok-list.ensures.len;
      told = told_none (of_down_edges (sheet_raster c.args.sheet.now)) v.x0 v.y0 (v.x1 - v.x0 + 1) (v.y0 - v.y0) c.in_ok-list.list.items (omega arith);
    }

pub loop-y-preserved : goal.loop-y-preserved
loop-y-preserved c =
    let v = c.args.window in
    let s = c.args.sheet.now in
    let old : c.deref_mut.result.now ≡ c.loop-y.list.items = c.deref_mut.ensures.value in
    let count : length c.set_differences.new.list ≡ length c.loop-y.list.items = c.set_differences.ensures.count ∙ ap (λ (zs : List ℤ). length zs) old in
    let back = written_back c.loop-y.list.len c.set_differences.new.list c.loop-y.list.items (c.loop-y.list.ok.0 ∙ sym count) in
    let full : length c.deref-samples.result.now ≡ s.phase.now.width * s.phase.now.height = ap (λ (xs : List ℕ). length xs) c.deref-samples.ensures.value ∙ sym s.phase.now.samples.ok.0 ∙ s.phase.now.full in
    let inside = part_inside s.phase.now.width s.phase.now.height v.x0 c.loop-y.y (v.x1 - v.x0 + 1) (omega arith) (omega arith) in
    subst (λ (zs : List ℤ). record {
      count : length zs ≡ (v.x1 - v.x0 + 1) * (v.y1 - v.y0);
      told : AreTold (of_down_edges (sheet_raster s)) v.x0 v.y0 (v.x1 - v.x0 + 1) ((c.loop-y.y + 1 - v.y0) * (v.x1 - v.x0 + 1)) zs;
    }) (sym back)
    (record {
      count = count ∙ c.loop-y.invariant.count;
      told = down_row s c.deref-samples.result.now c.deref-samples.ensures.value (to_z w32 (of_z w32 s.terms.ramp_y)) (slope_plain s.terms.ramp_y s.terms.along) v.x0 v.y0 (v.x1 - v.x0 + 1) c.loop-y.y c.deref_mut.result.now c.set_differences.new.list (omega arith) (omega (arith, full, inside)) c.set_differences.ensures
          (subst (λ (zs : List ℤ). AreTold (of_down_edges (sheet_raster s)) v.x0 v.y0 (v.x1 - v.x0 + 1) ((c.loop-y.y - v.y0) * (v.x1 - v.x0 + 1)) zs) (sym old) c.loop-y.invariant.told);
    })

pub returns : goal.returns
returns c =
    let v = c.args.window in
    let last : c.loop-y.y - v.y0 ≡ v.y1 - v.y0 = omega arith in
    let all : (c.loop-y.y - v.y0) * (v.x1 - v.x0 + 1) ≡ (v.x1 - v.x0 + 1) * (v.y1 - v.y0) = rw last (omega arith) in
    let rows : v.y1 - v.y0 ≡ v.y1 - v.y0 + 1 - 1 = omega arith in
    subst (λ (m : ℕ). AreInRows (of_down_edges (sheet_raster c.args.sheet.now)) v.x0 v.y0 (v.x1 - v.x0 + 1) ((v.x1 - v.x0 + 1) * m) c.loop-y.list.items) rows
    (c.loop-y.invariant.count, subst (λ (n : ℕ). AreTold (of_down_edges (sheet_raster c.args.sheet.now)) v.x0 v.y0 (v.x1 - v.x0 + 1) n c.loop-y.list.items) all c.loop-y.invariant.told)
