use Rattle.std.proofs.Common.{◌≡◌, ◌∙◌, ◌+◌, [], ◌∷◌, Some, ap, arith, length, length-append}
use Rattle.std.proofs.lemmas.List.Elements.{All-pop, All-push}
use Rattle.reader_desk.specs.Fronts.{ShelfView}
use Rattle.insar_commands.specs.Watch.{IsFresh}
use Rattle.insar_commands.proofs.watching.hired.Goals as goal

pub loop-reader-preserved : goal.loop-reader-preserved
loop-reader-preserved c =
    let at = c.loop-reader in
    let shelf = c.args.writer.now.shelf in
    let reader = c.in-Some.reader in
    let watcher = c.in_ok-new.field-0 in
    let two = All-pop (λ (r : ShelfView). r ≡ c.args.writer.now) at.readers.items c.pop.new.self.items (Some reader) c.in-Some.ensures.items at.invariant.own in
    let fresh : IsFresh shelf c.args.reads watcher = record { own = ap (λ (r : ShelfView). r.shelf) (c.in_ok-new.ensures.made.0 ∙ two.1); left = c.in_ok-new.ensures.made.2; room = c.in_ok-new.ensures.room } in
    let pushed : length c.push.new.self.items ≡ length at.watchers.items + 1 = ap length c.in_ok-push.ensures.items ∙ length-append at.watchers.items (watcher ∷ []) in
    let popped : length at.readers.items ≡ length c.pop.new.self.items + 1 = ap length c.in-Some.ensures.items ∙ length-append c.pop.new.self.items (reader ∷ []) in
    let count = at.invariant.count in
    record {
      fresh = rw c.in_ok-push.ensures.items (All-push (IsFresh shelf c.args.reads) at.watchers.items watcher at.invariant.fresh fresh);
      own = two.0;
      count = omega (arith, pushed, popped, count);
    }
