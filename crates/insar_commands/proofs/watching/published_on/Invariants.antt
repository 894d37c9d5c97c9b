use Rattle.std.proofs.Common.{◌≡◌, map, take}
use Rattle.surface_snapshots.specs.Views.{parts_of}
use Rattle.insar_commands.proofs.watching.published_on.Given as goal

abbrev pub invariant-loop-snapshot : goal.invariant-loop-snapshot
invariant-loop-snapshot l = l.revisions.items ≡ map (λ s. (parts_of s).seams.revision) (take l.snapshot-index l.snapshots)
