use Rattle.std.proofs.Common.{◌∙◌, ap}
use Rattle.tile_board.specs.States.{held_results}
use Rattle.tile_board.proofs.SharedLemmas.{none_held}
use Rattle.tile_board.proofs.kept.KeptResults.none.Goals as goal

pub returns : goal.returns
returns c = ap held_results c.in_ok-no_items.ensures ∙ none_held c.args.tiles
