use Rattle.tile_board.proofs.SharedLemmas.{have_results}
use Rattle.tile_board.proofs.kept.KeptResults.shared.Goals as goal

pub share_all-requires : goal.share_all-requires
share_all-requires c =
    let all = rw (← c.self.view_is) at c.requires in
    rw c.deref.ensures.value (have_results c.self.inside.results.items all)

pub returns : goal.returns
returns c = rw (← c.self.view_is) (rw c.deref.ensures.value at c.share_all.ensures)
