use Rattle.std.proofs.Common.{refl, length}
use Rattle.tile_board.specs.Lacking.{lacks_in}
use Rattle.tile_board.proofs.KeyLemmas.{tidy_all}
use Rattle.tile_board.proofs.lacking.LackingTiles.tidy.Goals as goal

pub tidy-requires-clause-count : goal.tidy-requires-clause-count
tidy-requires-clause-count c = rw c.deref.ensures.value (rw (← c.self.view_is) at c.requires.count)

pub returns-clause-claims : goal.returns-clause-claims
returns-clause-claims c = rw (← c.self.view_is) refl

pub returns-clause-keys : goal.returns-clause-keys
returns-clause-keys c =
    let i = c.self.inside in
    let tiles = c.args.tiles.now in
    let told = rw c.deref.ensures.value at c.tidy.ensures in
    rw (← c.self.view_is) (λ fresh all are. tidy_all (lacks_in c.args.kept.now) fresh i.claims.items c.tidy.new.keys tiles (length tiles) all (told fresh are))
