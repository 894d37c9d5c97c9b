use Rattle.std.proofs.Common.{◌≡◌, ◌∙◌, ap, arith, length, subst, sym}
use Rattle.raster_model.specs.declared.session.Session.{Session}
use Rattle.board_desk.specs.Passes.{IsPassOf, first_passes}
use Rattle.insar_commands.specs.Desks.{HaveRun}
use Rattle.insar_commands.proofs.BoardLemmas.{all_at, all_written, have_run, later_from}
use Rattle.insar_commands.proofs.board.finished.Goals as goal

pub run_scripts-requires-clause-passes : goal.run_scripts-requires-clause-passes
run_scripts-requires-clause-passes g c κs within =
    all_at (IsPassOf c.in_ok-desk.desk) c.as_mut_slice.result.now c.in_ok-desk.passes.items c.as_mut_slice.ensures.value c.in_ok-desk.ensures.own

pub closed-requires : goal.closed-requires
closed-requires g c =
    let d = c.in_ok-desk.desk in
    let xs = c.in_ok-desk.passes.items in
    let ys = c.run_scripts.new.passes in
    let long : length ys ≡ length xs = c.run_scripts.auto.passes ∙ ap length c.as_mut_slice.ensures.value in
    let later = later_from c.as_mut_slice.result.now ys xs c.as_mut_slice.ensures.value c.run_scripts.ensures.later in
    let first = c.in_ok-desk.ensures.passes ∙ ap (λ (s : Session). first_passes d (length s.scripts.items)) (sym c.in_ok-desk.ensures.session) in
    subst (HaveRun d) (sym (all_written ys xs c.in_ok-desk.passes.len (omega (arith, c.in_ok-desk.passes.ok.0)) long)) (have_run d xs ys first long later c.in_ok-desk.ensures.own c.in_ok-run_scripts.ensures.ended)
