use Rattle.std.proofs.Common.{◌≡◌, ◌+◌, ◌-◌, ◌*◌, ◌≤◌, ℕ, arith, rules, subst}
use Rattle.raster_model.specs.Masks.{open_at}
use Rattle.raster_model.specs.Tiles.{width_of}
use Rattle.mask_revisions.specs.Windows.{AreListedBefore}
use Rattle.mask_revisions.proofs.WindowLists.{none_listed, window_listed}
use Rattle.mask_revisions.proofs.revisions.Revisions.window_mask.Goals as goal

pub loop-y-init : goal.loop-y-init
loop-y-init c = none_listed c.window-window.result (open_at c.self.inside.mask) c.in_ok-list.list.items c.in_ok-list.ensures.items

pub returns : goal.returns
returns c =
    let v = c.window-window.result in
    let mask = open_at c.self.inside.mask in
    let order : v.y0 ≤ v.y1 = search rules in
    let end : c.loop-y.y ≡ v.y1 + 1 = omega (arith, c.loop-y-test.false, c.loop-y.auto.y-end, order) in
    let all = subst (λ (y : ℕ). AreListedBefore v mask ((y - v.y0) * width_of v) c.loop-y.list.items) end c.loop-y.invariant in
    rw (← c.self.view_is, ← c.window-window.ensures.value) (window_listed v mask c.loop-y.list.items all order)
