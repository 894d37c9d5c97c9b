use Rattle.std.proofs.Common.{◌≡◌, ◌∙◌, ◌+◌, ◌-◌, ◌*◌, ◌≤◌, ap, subst, arith, ℕ, to_z, of_z, w64}
use Rattle.std.specs.Prelude.{◌+ℤ◌, map, unsigned_abs}
use Rattle.std.proofs.lemmas.Int.{to_z-of_z}
use Rattle.raster_model.specs.declared.limits.TheConstants.{MAX_REACHED_CYCLES}
use Rattle.raster_model.specs.declared.tiling.Window.{Window}
use Rattle.raster_model.specs.Sheets.{sheet_raster}
use Rattle.wrapped_gradient.specs.Corrections.{greatest_of}
use Rattle.raster_model.specs.Tiles.{width_of, height_of}
use Rattle.surface_integration.proofs.RiseLemmas.{rise_widened}
use Rattle.surface_integration.proofs.RowLemmas.{pushed_value, wide_room, steps_fit, fit_64, sum_fits, sum_plain, sum_near, row_begins, begun_last, row_more, more_last, row_whole}
use Rattle.surface_integration.proofs.rows.push_row.Goals as goal

pub overflow_add-here : goal.overflow_add-here
overflow_add-here g c =
    let v = c.args.gradients.now.window in
    let wide = rise_widened c.args.corrections.now c.rise_right.result c.from-here.result c.requires.small c.rise_right.ensures.small c.from-here.ensures in
    let end = ap (λ (w : Window). w.x1) c.window-window.ensures.value in
    sum_fits w64 MAX_REACHED_CYCLES fit_64 (to_z w64 c.loop-x.here-bits) c.from-here.result (c.loop-x.x - v.x0 + (c.args.y - v.y0)) (width_of v) (height_of v) (greatest_of c.args.corrections.now + 1) c.loop-x.invariant.near wide.1 (omega (arith, end, c.requires.row)) (wide_room c.args.sheet.now c.args.gradients.now c.args.corrections.now c.requires.gradients c.requires.small)

pub loop-x-init : goal.loop-x-init
loop-x-init g c =
    let v = c.args.gradients.now.window in
    let begin = ap (λ (w : Window). w.x0) c.window-window.ensures.value in
    let none : c.window-window.result.x0 - v.x0 ≡ 0 = omega (arith, begin) in
    let plain = to_z-of_z w64 c.args.first c.ranges.first in
    record {
      added = row_begins (sheet_raster c.args.sheet.now) v c.args.corrections.now c.args.y (c.window-window.result.x0 - v.x0) (to_z w64 (of_z w64 c.args.first)) (map g.N.CycleNumber.value c.args.cycles.now.items) (map g.N.CycleNumber.value c.push.new.self.items) none (pushed_value g.N.CycleNumber.value c.args.cycles.now.items c.push.new.self.items c.of.result (to_z w64 (of_z w64 c.args.first)) c.in_ok-push.ensures.items c.of.ensures);
      last = begun_last (sheet_raster c.args.sheet.now) v c.args.corrections.now c.args.y (c.window-window.result.x0 - v.x0) (to_z w64 (of_z w64 c.args.first)) (map g.N.CycleNumber.value c.args.cycles.now.items) (map g.N.CycleNumber.value c.push.new.self.items) none (pushed_value g.N.CycleNumber.value c.args.cycles.now.items c.push.new.self.items c.of.result (to_z w64 (of_z w64 c.args.first)) c.in_ok-push.ensures.items c.of.ensures);
      near = rw (plain, none) (let e : c.args.y - v.y0 ≡ 0 + (c.args.y - v.y0) = omega arith in subst (λ (n : ℕ). unsigned_abs c.args.first ≤ n * (greatest_of c.args.corrections.now + 1)) e c.requires.near);
    }

pub loop-x-preserved : goal.loop-x-preserved
loop-x-preserved g c =
    let v = c.args.gradients.now.window in
    let wide = rise_widened c.args.corrections.now c.rise_right.result c.from-here.result c.requires.small c.rise_right.ensures.small c.from-here.ensures in
    let end = ap (λ (w : Window). w.x1) c.window-window.ensures.value in
    let begin = ap (λ (w : Window). w.x0) c.window-window.ensures.value in
    let from : v.x0 ≤ c.loop-x.x = omega (arith, begin) in
    let here = to_z w64 c.loop-x.here-bits in
    let d = c.from-here.result in
    let n = c.loop-x.x - v.x0 + (c.args.y - v.y0) in
    let m = greatest_of c.args.corrections.now + 1 in
    let room : n + 1 ≤ width_of v + height_of v = omega (arith, end, c.requires.row) in
    let plain = sum_plain w64 MAX_REACHED_CYCLES fit_64 here d n (width_of v) (height_of v) m c.loop-x.invariant.near wide.1 room (wide_room c.args.sheet.now c.args.gradients.now c.args.corrections.now c.requires.gradients c.requires.small) in
    let near = sum_near w64 MAX_REACHED_CYCLES fit_64 here d n (width_of v) (height_of v) m c.loop-x.invariant.near wide.1 room (wide_room c.args.sheet.now c.args.gradients.now c.args.corrections.now c.requires.gradients c.requires.small) in
    let more : n + 1 ≡ c.loop-x.x + 1 - v.x0 + (c.args.y - v.y0) = omega arith in
    let pushed = pushed_value g.N.CycleNumber.value c.loop-x.cycles.items c.push-in-loop-x.new.self.items c.of-in-loop-x.result (to_z w64 (of_z w64 (here +ℤ to_z w64 (of_z w64 d)))) c.in_ok-push-2.ensures.items c.of-in-loop-x.ensures in
    record {
      added = row_more (sheet_raster c.args.sheet.now) v c.args.corrections.now c.args.y _ (map g.N.CycleNumber.value c.args.cycles.now.items) c.loop-x.x (map g.N.CycleNumber.value c.loop-x.cycles.items) (map g.N.CycleNumber.value c.push-in-loop-x.new.self.items) here (to_z w64 (of_z w64 (here +ℤ to_z w64 (of_z w64 d)))) d from c.loop-x.invariant.added pushed c.loop-x.invariant.last plain (wide.0 ∙ c.rise_right.ensures.value);
      last = more_last (sheet_raster c.args.sheet.now) v c.args.corrections.now c.args.y (to_z w64 (of_z w64 c.args.first)) (map g.N.CycleNumber.value c.args.cycles.now.items) c.loop-x.x (map g.N.CycleNumber.value c.loop-x.cycles.items) (map g.N.CycleNumber.value c.push-in-loop-x.new.self.items) here (to_z w64 (of_z w64 (here +ℤ to_z w64 (of_z w64 d)))) d from c.loop-x.invariant.added pushed;
      near = subst (λ (i : ℕ). unsigned_abs (to_z w64 (of_z w64 (here +ℤ to_z w64 (of_z w64 d)))) ≤ i * m) more near;
    }

pub returns : goal.returns
returns g c =
    let v = c.args.gradients.now.window in
    let end = ap (λ (w : Window). w.x1) c.window-window.ensures.value in
    row_whole (sheet_raster c.args.sheet.now) v c.args.corrections.now c.args.y (c.loop-x.x - v.x0) (v.x1 - v.x0) _ c.args.first (map g.N.CycleNumber.value c.args.cycles.now.items) (map g.N.CycleNumber.value c.loop-x.cycles.items) (omega (arith, end)) (to_z-of_z w64 c.args.first c.ranges.first) c.loop-x.invariant.added

pub of-requires : goal.of-requires
of-requires g c =
    let v = c.args.gradients.now.window in
    let plain = to_z-of_z w64 c.args.first c.ranges.first in
    rw plain (steps_fit c.args.first (c.args.y - v.y0) (width_of v) (height_of v) (greatest_of c.args.corrections.now + 1) g.N.CycleNumber.limit c.requires.near (omega (arith, c.requires.row)) c.requires.room)

pub of-requires-in-loop-x : goal.of-requires-in-loop-x
of-requires-in-loop-x g c =
    let v = c.args.gradients.now.window in
    let wide = rise_widened c.args.corrections.now c.rise_right.result c.from-here.result c.requires.small c.rise_right.ensures.small c.from-here.ensures in
    let end = ap (λ (w : Window). w.x1) c.window-window.ensures.value in
    let here = to_z w64 c.loop-x.here-bits in
    let d = c.from-here.result in
    let n = c.loop-x.x - v.x0 + (c.args.y - v.y0) in
    let m = greatest_of c.args.corrections.now + 1 in
    let room : n + 1 ≤ width_of v + height_of v = omega (arith, end, c.requires.row) in
    let near = sum_near w64 MAX_REACHED_CYCLES fit_64 here d n (width_of v) (height_of v) m c.loop-x.invariant.near wide.1 room (wide_room c.args.sheet.now c.args.gradients.now c.args.corrections.now c.requires.gradients c.requires.small) in
    steps_fit (to_z w64 (of_z w64 (here +ℤ to_z w64 (of_z w64 d)))) (n + 1) (width_of v) (height_of v) m g.N.CycleNumber.limit near room c.requires.room
