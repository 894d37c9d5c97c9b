use Rattle.std.proofs.Common.{◌∙◌, ap, List}
use Rattle.std.specs.Prelude.{Option, Some, option_map, set}
use Rattle.std.specs.Arc.{arc_value}
use Rattle.std.proofs.lemmas.List.{map-set}
use Rattle.certificates.specs.declared.results.TileResult.{TileResult}
use Rattle.tile_board.proofs.kept.KeptResults.keep.Goals as goal

pub returns : goal.returns
returns c = map-set (option_map arc_value) c.self.inside.results.items c.args.tile (Some c.args.solved) ∙ ap (λ (ks : List (Option TileResult)). set ks c.args.tile (Some (arc_value c.args.solved))) c.self.view_is
