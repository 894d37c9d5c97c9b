use Rattle.std.proofs.Common.{rules}
use Rattle.board_desk.specs.Passes.{IsLaterPass}
use Rattle.tile_workers.specs.Watching.{Became, HasWatched}
use Rattle.tile_workers.proofs.watching.run_watched.Goals as goal

pub returns-in_err-ran-clause-watched : goal.returns-in_err-ran-clause-watched
returns-in_err-ran-clause-watched g c = (let watched : Became HasWatched c.args.watchers.now _ = search rules in watched.each)

pub returns-clause-later : goal.returns-clause-later
returns-clause-later g c = (let later : Became IsLaterPass c.args.passes.now _ = search rules in later.each)

pub returns-clause-watched : goal.returns-clause-watched
returns-clause-watched g c = (let watched : Became HasWatched c.args.watchers.now _ = search rules in watched.each)
