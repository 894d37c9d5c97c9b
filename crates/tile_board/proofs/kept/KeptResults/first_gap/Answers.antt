use Rattle.tile_board.proofs.SharedLemmas.{first_found}
use Rattle.tile_board.proofs.kept.KeptResults.first_gap.Goals as goal

pub returns : goal.returns
returns c = rw (← c.self.view_is) (first_found c.self.inside.results.items c.first_gap.result (rw c.deref.ensures.value at c.first_gap.ensures))
