use Rattle.std.proofs.Common.{◌≡◌, ◌∙◌, ap, arith, length}
use Rattle.insar_commands.proofs.BoardLemmas.{all_written}
use Rattle.insar_commands.proofs.WatchLemmas.{told_watch}
use Rattle.insar_commands.proofs.watching.told.Goals as goal

pub returns : goal.returns
returns g c =
    let watchers = c.args.watchers in
    let ws = c.tell_last-told.new.watchers in
    let long : length ws ≡ length watchers.items = c.tell_last-told.auto.watchers ∙ ap length c.as_mut_slice-2.ensures.value in
    let sized = watchers.ok.0 in
    told_watch c.args.desk.session c.closed-board.result c.closed-board.ensures.session c.published_on.ensures.legal c.closed-board.ensures.complete c.in_ok-published_on.field-0.items c.in_ok-published_on.ensures.published (length watchers.items) ws _
    (all_written ws watchers.items watchers.len (omega (arith, sized)) long) long c.in_ok-told.ensures
