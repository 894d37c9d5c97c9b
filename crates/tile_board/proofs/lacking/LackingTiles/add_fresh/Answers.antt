use Rattle.std.proofs.Common.{refl, length}
use Rattle.tile_board.specs.Lacking.{is_listed, lacks_in}
use Rattle.tile_board.proofs.KeyLemmas.{lacking_fresh, tidy_all}
use Rattle.tile_board.proofs.LackingLemmas.{listed_longer}
use Rattle.tile_board.proofs.lacking.LackingTiles.add_fresh.Goals as goal

pub tidy-requires-clause-count : goal.tidy-requires-clause-count
tidy-requires-clause-count c = rw c.deref.ensures.value (rw (← c.self.view_is) at c.requires.count)

pub returns-in-Err-clause-claims : goal.returns-in-Err-clause-claims
returns-in-Err-clause-claims c = rw (← c.self.view_is) refl

pub returns-in-Err-clause-refused : goal.returns-in-Err-clause-refused
returns-in-Err-clause-refused c =
    let i = c.self.inside in
    let tiles = c.args.tiles.now in
    let lacks = lacks_in c.args.kept.now in
    let begun = c.in-Err.ensures.begun in
    let told = rw c.deref.ensures.value at c.tidy.ensures in
    rw (← c.self.view_is) (λ are. tidy_all lacks (is_listed tiles begun.0) i.claims.items c.tidy.new.keys tiles (length tiles) (λ t. listed_longer tiles begun.0 (length tiles) t begun.1) (told (is_listed tiles begun.0) (lacking_fresh lacks i.claims.items i.keys c.add_fresh.new.keys tiles begun.0 begun.2 are)))

pub returns-clause-claims : goal.returns-clause-claims
returns-clause-claims c = rw (← c.self.view_is) refl

pub returns-clause-added : goal.returns-clause-added
returns-clause-added c =
    let i = c.self.inside in
    let tiles = c.args.tiles.now in
    rw (← c.self.view_is) (λ lacks are. lacking_fresh lacks i.claims.items i.keys c.add_fresh.new.keys tiles (length tiles) c.in_default.ensures.added are)
