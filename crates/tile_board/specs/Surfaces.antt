-- The last published surface.
use Rattle.std.specs.Prelude.{◌≡◌, ◌-◌, List, Option, Some, None, length, slice_get}
use Rattle.raster_model.specs.declared.session.Session.{Session}
use Rattle.surface_snapshots.specs.Parts.{Parts}
use Rattle.surface_snapshots.specs.Views.{parts_of}
use Rattle.surface_snapshots.specs.declared.snapshot.Snapshot.{Snapshot}
use Rattle.tile_board.specs.declared.entry.Entry.{Entry}
use Rattle.tile_board.specs.BoardView.{BoardView}
use Rattle.tile_board.specs.Boards.{IsSurfaceOf}
use Rattle.tile_board.specs.Histories.{newest_of}

-- None if nothing is published
abbrev pub last_surface : BoardView → Option Parts
last_surface board = slice_get board.surfaces (length board.surfaces - 1)

-- the surface of the newest published revision of a history, certified over the mask at that revision; None if nothing is published
abbrev pub IsNewestIn : Session → List Entry → Option Snapshot → Type 0
IsNewestIn session H None = newest_of H ≡ None
IsNewestIn session H (Some n) = IsSurfaceOf session H (parts_of n) × (newest_of H ≡ Some (parts_of n).seams.revision)
