use Rattle.std.proofs.lemmas.Bool.{false≢true}
use Rattle.tile_board.proofs.KeyLemmas.{first_is, no_key, none_lacks}
use Rattle.tile_board.proofs.lacking.LackingTiles.first.Goals as goal

pub returns-in-Some : goal.returns-in-Some
returns-in-Some c =
    let i = c.self.inside in
    rw (← c.self.view_is) (λ lacks are. first_is lacks i.claims.items i.keys c.in-Some.key.now are c.in-Some.ensures.member c.in-Some.ensures.least)

pub returns-in-None : goal.returns-in-None
returns-in-None c =
    let i = c.self.inside in
    rw (← c.self.view_is) (λ lacks are. none_lacks lacks i.claims.items i.keys are (no_key i.keys (λ l. false≢true (c.in-None.ensures.variant.1 l))))
