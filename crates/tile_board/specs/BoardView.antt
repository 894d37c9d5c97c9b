-- A board as contracts see it: the session, the entries of its history, the kept result of each tile if there is one, and the published surfaces in order.
use Rattle.std.specs.Prelude.{Option, List}
use Rattle.raster_model.specs.declared.session.Session.{Session}
use Rattle.certificates.specs.declared.results.TileResult.{TileResult}
use Rattle.surface_snapshots.specs.Parts.{Parts}
use Rattle.tile_board.specs.declared.entry.Entry.{Entry}

pub record BoardView : Type 0 where
  pub session : Session
  pub entries : List Entry
  pub kept : List (Option TileResult)
  pub surfaces : List Parts
