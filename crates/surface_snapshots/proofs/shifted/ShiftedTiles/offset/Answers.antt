use Rattle.std.proofs.Common.{◌∙◌, arith, pos, refl, rules, slice_index_or}
use Rattle.std.specs.Prelude.{FitsSigned}
use Rattle.std.specs.Int.{w64}
use Rattle.std.proofs.lemmas.Int.{to_z-of_z}
use Rattle.seam_regions.specs.Regions.{offset_at}
use Rattle.surface_snapshots.specs.Shifted.{open_under}
use Rattle.surface_snapshots.proofs.ShiftedLemmas.{open_pixel}
use Rattle.surface_snapshots.proofs.shifted.ShiftedTiles.offset.Goals as goal

pub label-region-requires-clause-across : goal.label-region-requires-clause-across
label-region-requires-clause-across c =
    let s = c.args.self.now in
    let o = open_pixel s.scene.now.phase.width s.scene.now.phase.height c.args.x c.args.y (open_under s c.args.x c.args.y) c.requires.open_pixel in
    rw s.places (omega (arith, o.0, s.scene.now.same_width))

pub label-region-requires-clause-along : goal.label-region-requires-clause-along
label-region-requires-clause-along c =
    let s = c.args.self.now in
    let o = open_pixel s.scene.now.phase.width s.scene.now.phase.height c.args.x c.args.y (open_under s c.args.x c.args.y) c.requires.open_pixel in
    rw s.places (omega (arith, o.1, s.scene.now.same_height))

pub returns-clause-value : goal.returns-clause-value
unfolding offset_at
returns-clause-value c =
    let s = c.args.self.now in
    let fits : FitsSigned w64 (slice_index_or s.offsets.now c.label-region.result (pos 0)) = search rules in
    to_z-of_z w64 (slice_index_or s.offsets.now c.label-region.result (pos 0)) fits ∙ rw c.label-region.ensures refl
