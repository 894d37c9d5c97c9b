use Rattle.std.proofs.Common.{◌∙◌, length}
use Rattle.std.proofs.lemmas.List.{with_items_is}
use Rattle.tile_board.proofs.SharedLemmas.{emptied}
use Rattle.tile_board.proofs.kept.KeptResults.empty.Goals as goal

pub returns : goal.returns
returns c =
    let held = c.self.inside.results in
    let set = rw c.deref_mut.ensures.value at c.empty.ensures in
    let now = with_items_is held c.empty.new.kept (c.empty.auto.kept ∙ c.deref_mut.ensures.len) in
    rw (← c.self.view_is, now) (emptied held.items c.empty.new.kept c.args.tiles.now (length c.args.tiles.now) set)
