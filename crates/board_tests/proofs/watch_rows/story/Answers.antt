use Rattle.std.proofs.Common.{◌≡◌, ◌∙◌, ◌≤◌, ◌++◌, ap, drop, length, rules, subst, sym, take}
use Rattle.std.specs.List.{All}
use Rattle.std.proofs.lemmas.List.{take_at}
use Rattle.tile_workers.specs.Watching.{CuratorView, WatcherView}
use Rattle.board_tests.proofs.watch_rows.story.Goals as goal

pub finished-text-requires : goal.finished-text-requires
finished-text-requires g c =
    let same : c.place_last-placed.new.writer.shelf ≡ c.watched-ran.new.curator.shelf.shelf = c.place_last-placed.ensures ∙ ap (λ (v : CuratorView). v.shelf.shelf) c.into_parts-pass.ensures in
    let fit : WatcherView → Type 0 = λ (w : WatcherView). (1 ≤ w.room) × (w.reader.shelf ≡ c.place_last-placed.new.writer.shelf) in
    let count : length c.watched-ran.new.watchers ≡ c.args.watchers.len = search rules in
    let whole : take c.args.watchers.len (c.watched-ran.new.watchers ++ drop (length c.watched-ran.new.watchers) c.args.watchers.items) ≡ c.watched-ran.new.watchers
    = take_at c.watched-ran.new.watchers (drop (length c.watched-ran.new.watchers) c.args.watchers.items) c.args.watchers.len count in
    subst (All fit) (sym whole) (λ k d l. (let r = c.watched-ran.ensures.ready k d l in (r.0, r.1 ∙ sym same)))
