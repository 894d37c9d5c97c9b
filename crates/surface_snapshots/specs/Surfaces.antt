-- The parts of what snapshots share. Clauses cite it only through `parts_of`, which unfolds into it.
use Rattle.std.specs.Arc.{arc_value}
use Rattle.surface_snapshots.specs.declared.surface.Surface.{Surface}
use Rattle.surface_snapshots.specs.Kept.{parts_kept}
use Rattle.surface_snapshots.specs.Parts.{Parts}
use Rattle.surface_snapshots.specs.Tiled.{regions_in}

abbrev pub parts_in : Surface → Parts
parts_in surface = parts_kept (arc_value surface.session) (regions_in surface.regions) surface.tiles surface.revision surface.offsets.items (arc_value surface.flows).items
