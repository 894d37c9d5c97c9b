use Rattle.std.proofs.Common.{◌≡◌, false}
use Rattle.raster_model.specs.Raster.{lifted}
use Rattle.raster_model.specs.Scene.{raster_of}
use Rattle.surface_snapshots.specs.Loops.{FollowsDown}
use Rattle.surface_snapshots.proofs.counting.follows_down.Given as goal

abbrev pub invariant-loop-x : goal.invariant-loop-x
invariant-loop-x g l = l.departs ≡ false → FollowsDown (raster_of l.scene) (lifted (raster_of l.scene) (g.H.Heights.cycles_at l.heights)) l.y l.x0 l.x
