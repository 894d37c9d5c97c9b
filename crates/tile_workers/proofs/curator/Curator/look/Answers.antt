use Rattle.std.proofs.Common.{◌≡◌, None, Some, rules}
use Rattle.surface_snapshots.specs.Views.{parts_of}
use Rattle.tile_board.specs.Histories.{newest_of}
use Rattle.tile_workers.specs.Watching.{curator_view}
use Rattle.tile_workers.proofs.WatchLemmas.{has_placed, none_placed}
use Rattle.tile_workers.proofs.curator.Curator.look.Goals as goal

pub returns-in-Some-clause-placed : goal.returns-in-Some-clause-placed
returns-in-Some-clause-placed g c =
    let newest : newest_of c.newest.new.pass.seen ≡ Some (parts_of c.in-Some.surface).seams.revision = search rules in
    has_placed c.place.result (curator_view c.newest.new.pass c.place.new.writer) c.self.inside.writer (parts_of c.in-Some.surface) newest c.place.ensures.placed

pub returns-in-None-clause-placed : goal.returns-in-None-clause-placed
returns-in-None-clause-placed g c =
    let none : newest_of c.newest.new.pass.seen ≡ None = search rules in
    none_placed (curator_view c.newest.new.pass c.self.inside.writer) none
