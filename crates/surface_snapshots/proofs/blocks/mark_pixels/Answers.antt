use Rattle.std.proofs.Common.{◌≡◌, ◌∙◌, ◌+◌, ◌-◌, ◌<◌, ◌≤◌, arith, drop, false, length, slice_index_or, sym, take, w32}
use Rattle.std.specs.Prelude.{FitsSigned}
use Rattle.std.proofs.Math.Nat.{mul-le-mul_right}
use Rattle.std.proofs.lemmas.Int.{ints, to_z-of_z}
use Rattle.std.proofs.lemmas.List.{get_or_append_left, length-take-le}
use Rattle.surface_snapshots.proofs.MarkLemmas.{both_still, down_still, right_still}
use Rattle.surface_snapshots.proofs.blocks.mark_pixels.Goals as goal

pub mark_edges-requires-then-y-scene-clause-within : goal.mark_edges-requires-then-y-scene-clause-within
mark_edges-requires-then-y-scene-clause-within c =
    let p = c.args.block.now.surface.scene.now.phase in
    let below : c.args.y + 2 ≤ p.height = omega (arith, c.if-y-scene.true) in
    let rights = c.min-rights.result in
    let part = length-take-le rights c.args.marks.now (omega (arith, c.min-rights.ensures)) in
    omega (arith, mul-le-mul_right p.width below, c.requires.piece, c.mark_edges.ensures.same, part, c.min-rights.ensures)

pub returns-then-y-scene-clause-still : goal.returns-then-y-scene-clause-still
returns-then-y-scene-clause-still c x from upto none =
    let b = c.args.block.now in
    let s = b.surface in
    let t = s.scene.now.terms in
    let across_fits : FitsSigned w32 t.ramp_x = record { sfits = omega (arith, ints, t.across) } in
    let down_fits : FitsSigned w32 t.ramp_y = record { sfits = omega (arith, ints, t.along) } in
    let y = c.args.y in
    let x0 = c.args.x0 in
    let list = b.cycles.now in
    let i = x - x0 in
    let rights = c.min-rights.result in
    let marks = c.args.marks.now in
    let part = c.mark_edges.new.marks in
    let across : x < s.scene.now.phase.width = omega (arith, upto, c.requires.piece) in
    let size : length (take rights marks) ≡ rights = length-take-le rights marks (omega (arith, c.min-rights.ensures)) in
    let kept = c.mark_edges-then-y-scene.ensures.kept i none in
    both_still s x y
    (λ l. (let few : i < rights = omega (arith, l, from, upto, c.min-rights.ensures) in
    let here : slice_index_or part i false ≡ false = sym (get_or_append_left part (drop rights marks) false i (omega (arith, few, size, c.mark_edges.ensures.same))) ∙ kept in
    right_still s b.start list b.levels x0 x y across c.requires.row from c.requires.listed l (rw (to_z-of_z w32 t.ramp_x across_fits) at (c.mark_edges.ensures.still i (omega (arith, few, size)) here))))
    (λ l. down_still s b.start list b.levels x0 x y across c.requires.row from c.requires.listed l (rw (to_z-of_z w32 t.ramp_y down_fits) at (c.mark_edges-then-y-scene.ensures.still i (omega (arith, upto, from, size, c.mark_edges.ensures.same, c.min-rights.ensures)) none)))

pub returns-else-y-scene-clause-still : goal.returns-else-y-scene-clause-still
returns-else-y-scene-clause-still c x from upto none =
    let b = c.args.block.now in
    let s = b.surface in
    let t = s.scene.now.terms in
    let across_fits : FitsSigned w32 t.ramp_x = record { sfits = omega (arith, ints, t.across) } in
    let y = c.args.y in
    let x0 = c.args.x0 in
    let list = b.cycles.now in
    let i = x - x0 in
    let rights = c.min-rights.result in
    let marks = c.args.marks.now in
    let part = c.mark_edges.new.marks in
    let across : x < s.scene.now.phase.width = omega (arith, upto, c.requires.piece) in
    let size : length (take rights marks) ≡ rights = length-take-le rights marks (omega (arith, c.min-rights.ensures)) in
    both_still s x y
    (λ l. (let few : i < rights = omega (arith, l, from, upto, c.min-rights.ensures) in
    let here : slice_index_or part i false ≡ false = sym (get_or_append_left part (drop rights marks) false i (omega (arith, few, size, c.mark_edges.ensures.same))) ∙ none in
    right_still s b.start list b.levels x0 x y across c.requires.row from c.requires.listed l (rw (to_z-of_z w32 t.ramp_x across_fits) at (c.mark_edges.ensures.still i (omega (arith, few, size)) here))))
    (λ l. absurd (omega (arith, l, c.if-y-scene.false)))
