use Rattle.std.proofs.Common.{◌≡◌, ◌+◌, ◌-◌, ◌*◌, ℕ, arith, subst}
use Rattle.raster_model.specs.Masks.{open_at}
use Rattle.raster_model.specs.Tiles.{width_of}
use Rattle.mask_revisions.specs.Windows.{AreListedBefore}
use Rattle.mask_revisions.proofs.WindowLists.{listed_more}
use Rattle.mask_revisions.proofs.revisions.add_row.Goals as goal

pub loop-x-init : goal.loop-x-init
loop-x-init c =
    let v = c.args.window in
    let none : (c.args.y - v.y0) * width_of v ≡ (c.args.y - v.y0) * width_of v + (v.x0 - v.x0) = omega arith in
    subst (λ (n : ℕ). AreListedBefore v (open_at c.args.mask.now) n c.args.list.now.items) none c.requires.listed

pub loop-x-preserved : goal.loop-x-preserved
loop-x-preserved c =
    let v = c.args.window in
    rw c.in_ok-push.ensures.items (listed_more v (open_at c.args.mask.now) c.loop-x.x c.args.y c.loop-x.list.items c.is_open.result c.loop-x.auto.x (omega (arith, c.loop-x-test.true)) c.requires.row.0 c.is_open.ensures c.loop-x.invariant)

pub returns : goal.returns
returns c =
    let v = c.args.window in
    let next : c.args.y + 1 - v.y0 ≡ c.args.y - v.y0 + 1 = omega (arith, c.requires.row) in
    let all : c.loop-x.x - v.x0 ≡ width_of v = omega (arith, c.loop-x-test.false, c.loop-x.auto.x-end, c.requires.across) in
    let end : (c.args.y - v.y0) * width_of v + (c.loop-x.x - v.x0) ≡ (c.args.y + 1 - v.y0) * width_of v = rw (all, next) (omega arith) in
    subst (λ (n : ℕ). AreListedBefore v (open_at c.args.mask.now) n c.loop-x.list.items) end c.loop-x.invariant
