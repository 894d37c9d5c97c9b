use Rattle.std.proofs.Common.{◌≡◌, ◌∙◌, ◌+◌, ◌-◌, ◌*◌, ◌≤◌, sym, ap, subst, refl, arith, ℕ, ℤ, length, to_z, of_z, w64, pos}
use Rattle.std.specs.Prelude.{◌+ℤ◌, map, unsigned_abs}
use Rattle.std.proofs.lemmas.List.{length-map}
use Rattle.raster_model.specs.declared.limits.TheConstants.{MAX_REACHED_CYCLES}
use Rattle.raster_model.specs.declared.tiling.Window.{Window}
use Rattle.raster_model.specs.Sheets.{sheet_raster}
use Rattle.raster_model.specs.Sums.{down_edge}
use Rattle.wrapped_gradient.specs.Corrections.{greatest_of}
use Rattle.raster_model.specs.Tiles.{width_of, height_of}
use Rattle.surface_integration.specs.Rows.{rise_of}
use Rattle.surface_integration.proofs.CycleLemmas.{they_depart, they_stay_small}
use Rattle.surface_integration.proofs.Filled.{new_first, filled_first, filled_next, filled_whole, none_before}
use Rattle.surface_integration.proofs.RiseLemmas.{rise_widened}
use Rattle.surface_integration.proofs.RowLemmas.{wide_room, fit_64, sum_fits, sum_plain, sum_near}
use Rattle.surface_integration.proofs.rows.integrated.Goals as goal

pub overflow_add-first : goal.overflow_add-first
overflow_add-first g c =
    let v = c.args.gradients.now.window in
    let wide = rise_widened c.args.corrections.now c.rise_down.result c.from-first.result c.requires.small c.rise_down.ensures.small c.from-first.ensures in
    let end = ap (λ (w : Window). w.y1) c.window-window.ensures.value in
    sum_fits w64 MAX_REACHED_CYCLES fit_64 (to_z w64 c.loop-y.first-bits) c.from-first.result (c.loop-y.y - v.y0) (width_of v) (height_of v) (greatest_of c.args.corrections.now + 1) c.loop-y.invariant.near wide.1 (omega (arith, end)) (wide_room c.args.sheet.now c.args.gradients.now c.args.corrections.now c.requires.gradients c.requires.small)

pub push_row-requires-in-loop-y-clause-near : goal.push_row-requires-in-loop-y-clause-near
push_row-requires-in-loop-y-clause-near g c =
    let v = c.args.gradients.now.window in
    let wide = rise_widened c.args.corrections.now c.rise_down.result c.from-first.result c.requires.small c.rise_down.ensures.small c.from-first.ensures in
    let end = ap (λ (w : Window). w.y1) c.window-window.ensures.value in
    let begin = ap (λ (w : Window). w.y0) c.window-window.ensures.value in
    let m = greatest_of c.args.corrections.now + 1 in
    let more : c.loop-y.y - v.y0 + 1 ≡ c.loop-y.y + 1 - v.y0 = omega (arith, begin) in
    subst (λ (i : ℕ). unsigned_abs (to_z w64 (of_z w64 (to_z w64 c.loop-y.first-bits +ℤ to_z w64 (of_z w64 c.from-first.result)))) ≤ i * m) more
    (sum_near w64 MAX_REACHED_CYCLES fit_64 (to_z w64 c.loop-y.first-bits) c.from-first.result (c.loop-y.y - v.y0) (width_of v) (height_of v) m c.loop-y.invariant.near wide.1 (omega (arith, end)) (wide_room c.args.sheet.now c.args.gradients.now c.args.corrections.now c.requires.gradients c.requires.small))

pub loop-y-init : goal.loop-y-init
loop-y-init g c =
    let v = c.args.gradients.now.window in
    let y = c.window-window.result.y0 in
    let begin : y ≡ v.y0 = ap (λ (w : Window). w.y0) c.window-window.ensures.value in
    let below : v.y0 ≤ y = omega (arith, begin) in
    let empty : length (map g.N.CycleNumber.value c.in_ok-cycles.cycles.items) ≡ 0 = length-map c.in_ok-cycles.cycles.items g.N.CycleNumber.value ∙ ap length c.in_ok-cycles.ensures.items in
    let full : length (map g.N.CycleNumber.value c.in_ok-cycles.cycles.items) ≡ (y - v.y0) * width_of v = none_before (length (map g.N.CycleNumber.value c.in_ok-cycles.cycles.items)) (y - v.y0) (width_of v) empty (omega (arith, begin)) in
    record {
      filled = filled_first (sheet_raster c.args.sheet.now) v c.args.corrections.now y (pos 0) (map g.N.CycleNumber.value c.in_ok-cycles.cycles.items) (map g.N.CycleNumber.value c.push_row.new.cycles.items) below c.requires.gradients.inside.across.0 full c.in_ok-push_row.ensures begin refl;
      begins = sym (new_first (sheet_raster c.args.sheet.now) v c.args.corrections.now y (pos 0) (map g.N.CycleNumber.value c.in_ok-cycles.cycles.items) (map g.N.CycleNumber.value c.push_row.new.cycles.items) below c.requires.gradients.inside.across.0 full c.in_ok-push_row.ensures);
      near = omega arith;
    }

pub loop-y-preserved : goal.loop-y-preserved
loop-y-preserved g c =
    let v = c.args.gradients.now.window in
    let wide = rise_widened c.args.corrections.now c.rise_down.result c.from-first.result c.requires.small c.rise_down.ensures.small c.from-first.ensures in
    let end = ap (λ (w : Window). w.y1) c.window-window.ensures.value in
    let begin = ap (λ (w : Window). w.y0) c.window-window.ensures.value in
    let start = ap (λ (w : Window). w.x0) c.window-window.ensures.value in
    let y = c.loop-y.y in
    let first = to_z w64 c.loop-y.first-bits in
    let d = c.from-first.result in
    let m = greatest_of c.args.corrections.now + 1 in
    let below : v.y0 ≤ y = omega (arith, begin) in
    let under : v.y0 ≤ y + 1 = omega (arith, below) in
    let plain = sum_plain w64 MAX_REACHED_CYCLES fit_64 first d (y - v.y0) (width_of v) (height_of v) m c.loop-y.invariant.near wide.1 (omega (arith, end)) (wide_room c.args.sheet.now c.args.gradients.now c.args.corrections.now c.requires.gradients c.requires.small) in
    let full : length (map g.N.CycleNumber.value c.loop-y.cycles.items) ≡ (y + 1 - v.y0) * width_of v = c.loop-y.invariant.filled.count ∙ ap (λ (i : ℕ). i * width_of v) (omega (arith, below)) in
    let rise : d ≡ rise_of (sheet_raster c.args.sheet.now) v c.args.corrections.now (down_edge v.x0 y) = (wide.0 ∙ c.rise_down.ensures.value) ∙ ap (λ (x : ℕ). rise_of (sheet_raster c.args.sheet.now) v c.args.corrections.now (down_edge x y)) start in
    let follows = plain ∙ sum_same c.loop-y.invariant.begins rise in
    record {
      filled = filled_next (sheet_raster c.args.sheet.now) v c.args.corrections.now (y + 1) _ (map g.N.CycleNumber.value c.loop-y.cycles.items) (map g.N.CycleNumber.value c.push_row-in-loop-y.new.cycles.items) under c.requires.gradients.inside.across.0 full c.in_ok-push_row-2.ensures y refl below follows c.loop-y.invariant.filled;
      begins = sym (new_first (sheet_raster c.args.sheet.now) v c.args.corrections.now (y + 1) _ (map g.N.CycleNumber.value c.loop-y.cycles.items) (map g.N.CycleNumber.value c.push_row-in-loop-y.new.cycles.items) under c.requires.gradients.inside.across.0 full c.in_ok-push_row-2.ensures);
      near = subst (λ (i : ℕ). unsigned_abs (to_z w64 (of_z w64 (first +ℤ to_z w64 (of_z w64 d)))) ≤ i * m) (row_after y v.y0 below)
          (sum_near w64 MAX_REACHED_CYCLES fit_64 first d (y - v.y0) (width_of v) (height_of v) m c.loop-y.invariant.near wide.1 (omega (arith, end)) (wide_room c.args.sheet.now c.args.gradients.now c.args.corrections.now c.requires.gradients c.requires.small));
    }
  where
    row_after : (y y0 : ℕ) → y0 ≤ y → y - y0 + 1 ≡ y + 1 - y0
    row_after y y0 l = omega arith

    sum_same : {a b d e : ℤ} → a ≡ b → d ≡ e → a +ℤ d ≡ b +ℤ e
    sum_same p q = cc

pub returns : goal.returns
returns g c =
    let v = c.args.gradients.now.window in
    let r = sheet_raster c.args.sheet.now in
    let zs = map g.N.CycleNumber.value c.loop-y.cycles.items in
    let end = ap (λ (w : Window). w.y1) c.window-window.ensures.value in
    let begin = ap (λ (w : Window). w.y0) c.window-window.ensures.value in
    let across = c.requires.gradients.inside.across.0 in
    let rows : (c.loop-y.y - v.y0 + 1) * width_of v ≡ width_of v * height_of v = ap (λ (i : ℕ). (i + 1) * width_of v) (omega (arith, end, begin)) ∙ turned (v.y1 - v.y0 + 1) (width_of v) in
    let filled = filled_whole r v c.args.corrections.now (c.loop-y.y - v.y0 + 1) (height_of v) zs (omega (arith, end, begin)) c.loop-y.invariant.filled in
    record {
      count = c.loop-y.invariant.filled.count ∙ rows;
      first = filled.begins;
      departs = they_depart r v c.args.corrections.now zs across filled c.requires.cancel;
      bounded = they_stay_small c.args.sheet.now v c.args.corrections.now zs across filled;
    }
  where
    turned : (m n : ℕ) → m * n ≡ n * m
    turned m n = omega arith
