use Rattle.std.proofs.Common.{◌≡◌, ◌∙◌, ap, Some}
use Rattle.std.proofs.lemmas.List.Elements.{All-pop, All-push}
use Rattle.reader_desk.specs.Fronts.{ShelfView}
use Rattle.tile_workers.specs.Watching.{HasRoom, WatcherView}
use Rattle.board_tests.proofs.watch_rows.watchers_of.Goals as goal

pub loop-reader-preserved : goal.loop-reader-preserved
loop-reader-preserved c =
    let i = c.loop-reader.invariant in
    let popped = All-pop (λ (reader : ShelfView). reader ≡ c.args._writer.now) c.loop-reader.readers.items c.pop.new.self.items (Some c.in-Some.reader) c.in-Some.ensures.items i.0 in
    let made = c.in_ok-new.ensures.made in (
      popped.0,
      rw c.in_ok-push.ensures.items (All-push HasRoom c.loop-reader.watchers.items c.in_ok-new.field-0 i.1 c.in_ok-new.ensures.room),
      rw c.in_ok-push.ensures.items (All-push (λ (w : WatcherView). w.reader.shelf ≡ c.args._writer.now.shelf) c.loop-reader.watchers.items c.in_ok-new.field-0 i.2 (ap (λ (s : ShelfView). s.shelf) (made.0 ∙ popped.1))),
    )
