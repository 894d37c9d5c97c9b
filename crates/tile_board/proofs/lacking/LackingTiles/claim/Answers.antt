use Rattle.std.proofs.Common.{◌∙◌, arith, refl}
use Rattle.std.proofs.lemmas.List.{get_or_read, length-set}
use Rattle.tile_board.proofs.KeyLemmas.{lacking_claimed}
use Rattle.tile_board.proofs.lacking.LackingTiles.claim.Goals as goal

pub index-claims-requires : goal.index-claims-requires
index-claims-requires c = omega (arith, rw (← c.self.view_is) at c.requires, c.self.inside.claims.ok.0)

pub returns-in_default-clause-count : goal.returns-in_default-clause-count
returns-in_default-clause-count c = rw (← c.self.view_is) refl

pub returns-in_default-clause-keys : goal.returns-in_default-clause-keys
returns-in_default-clause-keys c = rw (← c.self.view_is) (λ lacks lack are. are)

pub returns-in_err-add_key-clause-count : goal.returns-in_err-add_key-clause-count
returns-in_err-add_key-clause-count c = rw (← c.self.view_is) refl

pub returns-in_err-add_key-clause-keys : goal.returns-in_err-add_key-clause-keys
returns-in_err-add_key-clause-keys c = rw (← c.self.view_is) (λ lacks lack are a b. c.in_err-add_key.ensures.refused a b ∙ are a b)

pub index_mut-requires : goal.index_mut-requires
index_mut-requires c = omega (arith, rw (← c.self.view_is) at c.requires, c.self.inside.claims.ok.0)

pub returns-clause-count : goal.returns-clause-count
returns-clause-count c = rw (← c.self.view_is) (length-set c.self.inside.claims.items c.args.tile c.in-Some.more)

pub returns-clause-keys : goal.returns-clause-keys
returns-clause-keys c =
    let i = c.self.inside in
    let k = c.index-claims.result.now in
    let inside = rw (← c.self.view_is) at c.requires in
    let is = get_or_read i.claims.items c.args.tile k inside c.index-claims.ensures 0 in
    rw (← c.self.view_is) (λ lacks lack are. lacking_claimed lacks i.claims.items i.keys c.add_key.new.keys c.take_key.new.keys c.args.tile k c.in-Some.more inside is c.in-Some.ensures.1 lack are c.in_ok-add_key.ensures.added c.take_key.ensures)
