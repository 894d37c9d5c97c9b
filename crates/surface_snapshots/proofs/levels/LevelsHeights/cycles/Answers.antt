use Rattle.std.proofs.Common.{◌≡◌, ◌∙◌, ◌+◌, ◌*◌, ◌<◌, ◌≤◌, ◌^◌, arith, pos, to_z, of_z, w64, SFits}
use Rattle.std.specs.Prelude.{unsigned_abs}
use Rattle.std.proofs.lemmas.Int.{ints, to_z-of_z}
use Rattle.std.proofs.lemmas.Nat.{mul-add-lt}
use Rattle.std.proofs.lemmas.List.{get_or_read_under}
use Rattle.surface_snapshots.specs.Shifted.{cycles_under, open_under}
use Rattle.surface_snapshots.proofs.LevelLemmas.{small_there}
use Rattle.surface_snapshots.proofs.ShiftedLemmas.{open_pixel}
use Rattle.surface_snapshots.proofs.levels.LevelsHeights.cycles.Goals as goal

pub index-requires : goal.index-requires
index-requires c =
    let s = c.args.self.now in
    let w = s.surface.scene.now.phase.width in
    let h = s.surface.scene.now.phase.height in
    let o = open_pixel w h c.args.x c.args.y (open_under s.surface c.args.x c.args.y) c.requires in
    omega (arith, s.cycles.ok.0, s.listed.count, mul-add-lt c.args.y w c.args.x h o.1 o.0)

both : (c : goal.After-result-1) → (to_z w64 (of_z w64 c.index.result.now) ≡ cycles_under c.args.self.now.surface c.args.x c.args.y) × (unsigned_abs (cycles_under c.args.self.now.surface c.args.x c.args.y) ≤ 2 ^ 46 + 8388608)
both c =
    let s = c.args.self.now in
    let w = s.surface.scene.now.phase.width in
    let h = s.surface.scene.now.phase.height in
    let o = open_pixel w h c.args.x c.args.y (open_under s.surface c.args.x c.args.y) c.requires in
    let below : c.args.y * w + c.args.x < h * w = omega (arith, mul-add-lt c.args.y w c.args.x h o.1 o.0) in
    let small = small_there s.surface c.args.x c.args.y o.0 o.1 o.2 in
    let read : c.index.result.now ≡ cycles_under s.surface c.args.x c.args.y =
    get_or_read_under s.cycles.items (c.args.y * w + c.args.x) s.cycles.len c.index.result.now (pos 0) c.index.ensures (omega (arith, s.cycles.ok.0, s.listed.count, below)) s.cycles.ok.0
    ∙ s.listed.at c.args.x c.args.y o.0 o.1 o.2 below in
    let fits : SFits w64 (cycles_under s.surface c.args.x c.args.y) = omega (arith, ints, small) in
    (rw read (to_z-of_z w64 (cycles_under s.surface c.args.x c.args.y) fits), small)

pub returns-clause-value : goal.returns-clause-value
returns-clause-value c = (both c).0

pub returns-clause-small : goal.returns-clause-small
returns-clause-small c = rw (both c).0 (omega (arith, (both c).1))
