use Rattle.std.proofs.Common.{arith, refl}
use Rattle.std.proofs.lemmas.List.{get_or_read}
use Rattle.tile_board.proofs.KeyLemmas.{lacking_kept}
use Rattle.tile_board.proofs.lacking.LackingTiles.take_out.Goals as goal

pub index-claims-requires : goal.index-claims-requires
index-claims-requires c = omega (arith, rw (← c.self.view_is) at c.requires, c.self.inside.claims.ok.0)

pub returns-clause-count : goal.returns-clause-count
returns-clause-count c = rw (← c.self.view_is) refl

pub returns-clause-keys : goal.returns-clause-keys
returns-clause-keys c =
    let i = c.self.inside in
    let k = c.index-claims.result.now in
    let is = get_or_read i.claims.items c.args.tile k (rw (← c.self.view_is) at c.requires) c.index-claims.ensures 0 in
    rw (← c.self.view_is) (λ lacks are. lacking_kept lacks i.claims.items i.keys c.take_key.new.keys c.args.tile k is are c.take_key.ensures)
