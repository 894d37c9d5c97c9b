use Rattle.std.proofs.Common.{◌≡◌, ◌∙◌, ◌++◌, ℕ, List, ap, arith, drop, length, subst, sym, take}
use Rattle.std.specs.Prelude.{All, IfOk}
use Rattle.board_desk.specs.Passes.{HaveAnalysts, PassView}
use Rattle.tile_workers.specs.Watching.{CuratorView, HasRoom}
use Rattle.reader_desk.specs.Fronts.{ShelfView}
use Rattle.insar_commands.specs.Desks.{HaveRun}
use Rattle.insar_commands.specs.Watch.{IsReady, IsWatchOf, all_seen}
use Rattle.insar_commands.proofs.BoardLemmas.{all_written, have_run, later_from}
use Rattle.insar_commands.proofs.WatchLemmas.{watched_ready}
use Rattle.insar_commands.proofs.watching.watched.Goals as goal

pub run_watched-run-requires-clause-analysts : goal.run_watched-run-requires-clause-analysts
run_watched-run-requires-clause-analysts g c κs within =
    let xs = c.args.passes.items in
    let ys = c.curator_of-curator.new.passes in
    let same : ys ≡ xs = c.curator_of-curator.ensures.same ∙ c.as_mut_slice.ensures.value in
    let sized = c.args.passes.ok.0 in
    subst HaveAnalysts (sym (c.as_mut_slice-2.ensures.value ∙ all_written ys xs c.args.passes.len (omega (arith, sized)) (ap length same) ∙ same)) c.requires.passes.analysts

pub run_watched-run-requires-clause-rooms : goal.run_watched-run-requires-clause-rooms
run_watched-run-requires-clause-rooms g c κs within = subst (All HasRoom) (sym c.as_mut_slice-3.ensures.value) (λ k d l. (c.requires.watchers k d l).room)

pub told-requires-clause-run : goal.told-requires-clause-run
told-requires-clause-run g c =
    let d = c.args.desk in
    let xs = c.args.passes.items in
    let ys = c.curator_of-curator.new.passes in
    let zs = c.run_watched-run.new.passes in
    let same : ys ≡ xs = c.curator_of-curator.ensures.same ∙ c.as_mut_slice.ensures.value in
    let sized = c.args.passes.ok.0 in
    let first = all_written ys xs c.args.passes.len (omega (arith, sized)) (ap length same) ∙ same in
    let held : List PassView = take c.args.passes.len (ys ++ drop (length ys) xs) in
    let kept : held ≡ xs = first in
    let began = c.as_mut_slice-2.ensures.value ∙ first in
    let long : length zs ≡ length held = c.run_watched-run.auto.passes ∙ ap length c.as_mut_slice-2.ensures.value in
    let whole : length held ≡ length xs = ap length kept in
    let count : length zs ≡ length xs = long ∙ whole in
    let own = c.requires.passes.own in
    subst (HaveRun d) (sym (all_written zs held c.args.passes.len (omega (arith, sized, whole)) long))
    (have_run d xs zs c.requires.passes.first count (later_from c.as_mut_slice-2.result.now zs xs began c.run_watched-run.ensures.later) own c.in-Ok.ensures.ended)

pub told-requires-clause-watchers : goal.told-requires-clause-watchers
told-requires-clause-watchers g c =
    let before = c.args.watchers.items in
    let after = c.run_watched-run.new.watchers in
    let value = c.as_mut_slice-3.ensures.value in
    let long : length after ≡ length before = c.run_watched-run.auto.watchers ∙ ap length value in
    let sized = c.args.watchers.ok.0 in
    let writer : c.into_parts-pass.result.1.shelf ≡ c.args.writer.shelf = ap (λ (v : CuratorView). v.shelf.shelf) c.into_parts-pass.ensures ∙ c.run_watched-run.ensures.curated.shelf.same ∙ ap (λ (v : ShelfView). v.shelf) c.curator_of-curator.ensures.shelf in
    subst (All (IsReady c.into_parts-pass.result.1.shelf)) (sym (all_written after before c.args.watchers.len (omega (arith, sized)) long))
    (watched_ready c.args.writer.shelf c.into_parts-pass.result.1.shelf c.args.watching.reads writer c.as_mut_slice-3.result.now before after value long c.requires.watchers c.run_watched-run.ensures.watched)

pub returns-in-Ok : goal.returns-in-Ok
returns-in-Ok g c =
    let before = c.args.watchers.items in
    let after = c.run_watched-run.new.watchers in
    let long : length after ≡ length before = c.run_watched-run.auto.watchers ∙ ap length c.as_mut_slice-3.ensures.value in
    let sized = c.args.watchers.ok.0 in
    let same : length (take c.args.watchers.len (after ++ drop (length after) before)) ≡ length before = ap length (all_written after before c.args.watchers.len (omega (arith, sized)) long) ∙ long in
    subst (λ (n : ℕ). IfOk c.told.result (λ made. IsWatchOf c.args.desk.session n made.0.items (all_seen made.0.items made.1.items))) same c.told.ensures
