use Rattle.std.proofs.Common.{◌<◌}
use Rattle.tile_workers.specs.Watching.{HasCurated, HasPlaced}
use Rattle.tile_workers.proofs.curator.Curator.curate.Given as goal

abbrev pub invariant-loop-read : goal.invariant-loop-read
invariant-loop-read g l = HasCurated l.initial.self l.self × (0 < l._read → HasPlaced l.self)
