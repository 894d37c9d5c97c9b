use Rattle.std.proofs.Common.{◌∙◌}
use Rattle.std.proofs.lemmas.List.{with_items_is}
use Rattle.tile_board.proofs.lacking.LackingTiles.restart.Goals as goal

pub restart-requires : goal.restart-requires
restart-requires c = rw c.deref_mut.ensures.value (rw (← c.self.view_is) at c.requires)

pub returns-clause-count : goal.returns-clause-count
returns-clause-count c =
    let i = c.self.inside in
    let claims = with_items_is i.claims c.restart.new.claims (c.restart.auto.claims ∙ c.deref_mut.ensures.len) in
    rw (← c.self.view_is, claims) (c.restart.auto.claims ∙ c.deref_mut.ensures.len ∙ i.claims.ok.0)

pub returns-clause-keys : goal.returns-clause-keys
returns-clause-keys c =
    let i = c.self.inside in
    let claims = with_items_is i.claims c.restart.new.claims (c.restart.auto.claims ∙ c.deref_mut.ensures.len) in
    rw (← c.self.view_is, claims) (rw c.deref_mut.ensures.value at c.restart.ensures)
