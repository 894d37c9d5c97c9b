-- A snapshot as contracts see it: the parts that it is made of.
use Rattle.std.specs.Arc.{arc_value}
use Rattle.surface_snapshots.specs.declared.snapshot.Snapshot.{Snapshot}
use Rattle.surface_snapshots.specs.Parts.{Parts}
use Rattle.surface_snapshots.specs.Surfaces.{parts_in}

abbrev pub parts_of : Snapshot → Parts
parts_of snapshot = parts_in (arc_value snapshot.surface)
