use Rattle.std.proofs.Common.{◌≡◌, ◌+◌, ◌*◌, ◌∙◌, ℕ, arith, subst, sym, List, Bool}
use Rattle.raster_model.specs.Masks.{open_at}
use Rattle.whole_solver.proofs.WholeLemmas.{AreListed, all_listed, none_listed, one_listed}
use Rattle.whole_solver.proofs.network.open_pixels.Goals as goal

pub loop-place-init : goal.loop-place-init
loop-place-init c = none_listed c.args.sheet.now.phase.now.width (open_at c.args.mask.now) c.in_ok-list.list.items c.in_ok-list.ensures.items

pub loop-place-preserved : goal.loop-place-preserved
loop-place-preserved c =
    let w = c.args.sheet.now.phase.now.width in
    let mask = open_at c.args.mask.now in
    subst (λ (list : List Bool). AreListed w (c.loop-place.place + 1) mask list) (sym c.in_ok-push.ensures.items)
    (one_listed w c.loop-place.place mask c.loop-place.list.items c.is_open.result c.is_open.ensures c.loop-place.invariant)

pub returns-clause-count : goal.returns-clause-count
returns-clause-count c = c.loop-place.invariant.count ∙ omega (arith, c.loop-place-test.false, c.loop-place.auto.place-end)

pub returns-clause-told : goal.returns-clause-told
returns-clause-told c =
    let w = c.args.sheet.now.phase.now.width in
    let mask = open_at c.args.mask.now in
    let end : c.loop-place.place ≡ w * c.args.sheet.now.phase.now.height = omega (arith, c.loop-place-test.false, c.loop-place.auto.place-end) in
    all_listed c.args.sheet.now mask c.loop-place.list.items (subst (λ (n : ℕ). AreListed w n mask c.loop-place.list.items) end c.loop-place.invariant)
