use Rattle.std.proofs.Common.{◌≡◌, ◌∙◌, ◌+◌, ◌-◌, ℕ, List, ap, arith, length, pos, slice_index, w32}
use Rattle.std.proofs.lemmas.Int.{to_z-of_z}
use Rattle.std.proofs.lemmas.List.Edits.{get_or-between}
use Rattle.surface_snapshots.proofs.MarkLemmas.{same_edge}
use Rattle.surface_snapshots.proofs.blocks.mark_edges.Goals as goal

pub returns-clause-still : goal.returns-clause-still
returns-clause-still c i below none =
    let b = c.args.block.now in
    let list = b.cycles.now in
    let here = c.args.place - b.start in
    let n = length c.args.marks.now in
    let place = c.args.place in
    let step = c.args.step in
    let samples = c.deref-samples.result.now in
    let same : samples ≡ b.surface.scene.now.phase.samples.items = c.deref-samples.ensures.value in
    same_edge c.args.slope _ _ _ _ _ _ _ _
    (get_or-between list here (here + n) i (pos 0) (omega (arith, below)))
    (get_or-between list (here + step) (here + step + n) i (pos 0) (omega (arith, below)))
    (get_or-between samples place (place + n) i 0 (omega (arith, below)) ∙ ap (λ (xs : List ℕ). slice_index xs (place + i)) same)
    (get_or-between samples (place + step) (place + step + n) i 0 (omega (arith, below)) ∙ ap (λ (xs : List ℕ). slice_index xs (place + step + i)) same)
    (rw (to_z-of_z w32 c.args.slope c.ranges.slope) at (c.mark_departures.ensures.still i below none))
