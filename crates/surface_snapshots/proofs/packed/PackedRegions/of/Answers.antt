use Rattle.std.proofs.Common.{refl}
use Rattle.surface_snapshots.proofs.packed.PackedRegions.of.Goals as goal

pub returns : goal.returns
returns c = λ mask are. record { tiling = refl; regions = are }
