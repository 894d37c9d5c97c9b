use Rattle.tile_board.specs.Lacking.{lacks_in}
use Rattle.tile_board.proofs.LackingLemmas.{results_lack}
use Rattle.tile_board.proofs.StateFacts.{all_kept}
use Rattle.tile_board.proofs.board.Board.claim.Goals as goal

pub returns-in_default-clause-refused : goal.returns-in_default-clause-refused
returns-in_default-clause-refused c =
    let none = results_lack c.self.inside.kept (c.in_default.ensures (lacks_in c.self.inside.kept) c.self.invariant.lacking.keys) in
    rw (← c.self.view_is) (all_kept c.self.invariant none)

pub claim_tile-requires : goal.claim_tile-requires
claim_tile-requires c = rw (← c.self.view_is) (c.in-Some.ensures (lacks_in c.self.inside.kept) c.self.invariant.lacking.keys).lacking
