use Rattle.std.proofs.Common.{◌≡◌, ◌∙◌, ℕ, ◌+◌, ◌-◌, ◌*◌, ◌<◌, ◌≤◌, arith, drop, length, subst, sym, take, List}
use Rattle.std.proofs.lemmas.List.{get_or-drop, get_or-take, length-drop, length-take-le}
use Rattle.std.proofs.lemmas.Nat.{mul-add-lt}
use Rattle.raster_model.specs.Tiles.{width_of}
use Rattle.surface_snapshots.specs.Packing.{AreLabelsBefore}
use Rattle.surface_snapshots.proofs.PackingLemmas.{row_added}
use Rattle.surface_snapshots.proofs.packing.list_labels.Goals as goal

pub loop-y-preserved : goal.loop-y-preserved
loop-y-preserved c =
    let all = c.args.all.now in
    let w = c.args.window in
    let y = c.loop-y.y in
    let from = y * c.args.width + w.x0 in
    let n = y * c.args.width + w.x1 + 1 - from in
    let count : n ≡ width_of w = omega (arith, c.requires.across) in
    let rows : y * c.args.width + w.x1 < c.args.width * (w.y1 + 1) = mul-add-lt y c.args.width w.x1 (w.y1 + 1) c.loop-y-test.true (omega (arith, c.requires.across)) in
    let room : n ≤ length (drop from all) = omega (arith, length-drop from all, rows, c.requires.size, c.requires.across) in
    subst (AreLabelsBefore all c.args.width w (y + 1)) (sym {A = List ℕ} c.in_ok-extend_from_slice.ensures.items)
    (row_added all c.args.width w y c.loop-y.list.items (take n (drop from all)) c.requires.across.0 (omega (arith, c.loop-y.auto)) c.loop-y.invariant
    (length-take-le n (drop from all) room ∙ count)
    (λ i below. get_or-take n (drop from all) i 0 (omega (arith, below, count)) ∙ get_or-drop from all i 0))
