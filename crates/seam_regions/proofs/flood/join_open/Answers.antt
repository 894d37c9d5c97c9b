use Rattle.std.proofs.Common.{ℕ, ◌≡◌, ◌∙◌, ◌+◌, ◌-◌, ◌*◌, ◌<◌, ◌≤◌, arith, subst, ap, length}
use Rattle.std.specs.Prelude.{slice_index, slice_set}
use Rattle.std.proofs.lemmas.List.{get_or-set_same}
use Rattle.raster_model.specs.Masks.{open_at}
use Rattle.seam_regions.specs.Flood.{HasJoined}
use Rattle.seam_regions.proofs.PieceLemmas.{open_step, place_inside}
use Rattle.seam_regions.proofs.flood.join_open.Goals as goal

pub loop-x-init : goal.loop-x-init
loop-x-init c =
    let g = c.args.tiling.now in
    let p = c.args.piece in
    let ps = c.join_first.new.parents in
    let here : p.y * g.width + (p.first + 1) - 1 ≡ p.y * g.width + p.first = omega arith in
    record {
      flood = subst (λ (n : ℕ). HasJoined g (open_at c.args.mask.now) n ps) (omega arith) c.join_first.ensures;
      before = ap (λ (n : ℕ). slice_index ps n) here;
    }

pub loop-x-preserved : goal.loop-x-preserved
loop-x-preserved c =
    let g = c.args.tiling.now in
    let mask = c.args.mask.now in
    let p = c.args.piece in
    let x = c.loop-x.x in
    let ps = c.loop-x.parents in
    let flood = c.loop-x.invariant.flood in
    let first : p.first < x = omega (arith, c.loop-x.auto.x) in
    let last : x ≤ p.last = omega arith in
    let place = p.y * g.width + x in
    let parent = slice_index c.join_first.new.parents (p.y * g.width + p.first) in
    let before : slice_index ps (place - 1) ≡ parent = c.loop-x.invariant.before in
    let step = open_step g p c.requires.piece x last mask c.requires.open first ps flood in
    let inside : place < length ps = place_inside g p c.requires.piece x last mask c.requires.open first ps flood in
    let here : p.y * g.width + (x + 1) - 1 ≡ place = omega arith in
    let qs = slice_set ps place parent in
    record {
      flood = subst (λ (n : ℕ). HasJoined g (open_at mask) n qs) (omega arith) (rw before at step);
      before = ap (λ (n : ℕ). slice_index qs n) here ∙ get_or-set_same ps place parent 0 inside;
    }
