use Rattle.std.proofs.Common.{◌≡◌, pos, ◌*◌, ◌+◌, ◌≤◌, ◌^◌, ◌+ℤ◌}
use Rattle.raster_model.specs.Sums.{sum_row, sum_grid}
use Rattle.raster_model.specs.Plain.{part_cost_from}
use Rattle.raster_model.specs.Masks.{open_at}
use Rattle.raster_model.specs.Scene.{raster_of}
use Rattle.raster_model.specs.Raster.{lifted}
use Rattle.raster_model.proofs.plain.cost_of.Given as goal

abbrev pub invariant-loop-x : goal.invariant-loop-x
invariant-loop-x g l =
    (pos l.cost ≡ sum_grid l.scene.phase.width l.y (part_cost_from (raster_of l.scene) (open_at l.mask) l.part (lifted (raster_of l.scene) (g.H.Heights.cycles_at l.heights))) +ℤ sum_row l.x (part_cost_from (raster_of l.scene) (open_at l.mask) l.part (lifted (raster_of l.scene) (g.H.Heights.cycles_at l.heights))) l.y)
    × (l.cost ≤ 2 * 1048560 * (2 ^ 49 + 1) * (4096 * l.y + l.x))

abbrev pub invariant-loop-y : goal.invariant-loop-y
invariant-loop-y g l =
    (pos l.cost ≡ sum_grid l.scene.phase.width l.y (part_cost_from (raster_of l.scene) (open_at l.mask) l.part (lifted (raster_of l.scene) (g.H.Heights.cycles_at l.heights))))
    × (l.cost ≤ 2 * 1048560 * (2 ^ 49 + 1) * (4096 * l.y))
