use Rattle.std.proofs.Common.{◌≡◌, ◌∙◌, ◌-◌, ◌*◌, List, ap, length, refl, subst, sym}
use Rattle.std.specs.Prelude.{ℤ}
use Rattle.std.proofs.lemmas.Result.{err_from_is_err_and}
use Rattle.raster_model.specs.Heights.{KnowsOpen}
use Rattle.raster_model.specs.Masks.{open_at}
use Rattle.raster_model.specs.Raster.{Raster}
use Rattle.raster_model.specs.Sheets.{sheet_raster}
use Rattle.insar_words.specs.declared.request.Request.TheVariants.{Whole}
use Rattle.insar_commands.specs.Run.{Run, run_of}
use Rattle.insar_commands.specs.Whole.{IsWholeOf, raster_laid, whole_task}
use Rattle.insar_commands.proofs.AnswerLemmas.{put_ends, read_cause}
use Rattle.insar_commands.proofs.WholeLemmas.{few, is_whole, knows_all, laid_raster, laid_task, one_each, whole_ready}
use Rattle.whole_solver.specs.Cycles.{has_cycles, whole_cycles}
use Rattle.whole_solver.specs.Results.{IsGoodWhole}
use Rattle.text_lines.specs.Adding.{Puts}
use Rattle.whole_text.specs.Text.{IsWhole, WholeOf, whole_text}
use Rattle.whole_text.specs.Told.{AreFewCycles, WholeTask, told_whole}
use Rattle.insar_commands.proofs.whole.run_whole.Goals as goal

pub returns-in_err-session : goal.returns-in_err-session
returns-in_err-session g c =
    let p = err_from_is_err_and c.from_residual.result c.from_residual.ensures.1 in
    let run : Run = run_of g.S.Source.left g.S.Source.faults c.args.source.now c.read_given_whole.new.source g.K.Sink.held g.K.Sink.faults c.args.sink.now c.args.sink.now in
    rw (p.1, p.2) (tt, read_cause (Whole c.args.settings) run c.in_err-session.field-0.0 refl c.in_err-session.ensures.refused)

pub solve_whole-requires-clause-same_size : goal.solve_whole-requires-clause-same_size
solve_whole-requires-clause-same_size g c =
    let session = c.in_ok-session.session in
    let m = session.first_mask in
    λ κs l. subst (λ (r : Raster). (m.width ≡ r.width) × (m.height ≡ r.height)) (sym (laid_raster session.scene c.sheet-sheet.result c.sheet-sheet.ensures)) session.same_size

pub write_whole-put-requires-clause-same_size : goal.write_whole-put-requires-clause-same_size
write_whole-put-requires-clause-same_size g c =
    let session = c.in_ok-session.session in
    let m = session.first_mask in
    λ κs l. subst (λ (r : Raster). (m.width ≡ r.width) × (m.height ≡ r.height)) (sym (laid_raster session.scene c.sheet-sheet.result c.sheet-sheet.ensures)) session.same_size

pub write_whole-put-requires-clause-known : goal.write_whole-put-requires-clause-known
write_whole-put-requires-clause-known g c =
    let session = c.in_ok-session.session in
    let solved = c.in_ok-solved.solved in
    let mask = open_at session.first_mask in
    let laid = laid_raster session.scene c.sheet-sheet.result c.sheet-sheet.ensures in
    let good = subst (λ (r : Raster). IsGoodWhole r mask solved) laid c.in_ok-solved.ensures.good in
    λ κs l. subst (λ (r : Raster). KnowsOpen r mask (has_cycles solved.width solved.cycles.items)) (sym laid) (knows_all session.scene mask solved good)

pub write_whole-put-requires-clause-few : goal.write_whole-put-requires-clause-few
write_whole-put-requires-clause-few g c =
    let session = c.in_ok-session.session in
    let solved = c.in_ok-solved.solved in
    let mask = open_at session.first_mask in
    let laid = laid_raster session.scene c.sheet-sheet.result c.sheet-sheet.ensures in
    let good = subst (λ (r : Raster). IsGoodWhole r mask solved) laid c.in_ok-solved.ensures.good in
    λ κs l. subst (λ (r : Raster). AreFewCycles r mask (whole_cycles solved.width solved.cycles.items)) (sym laid) (few session.scene mask solved good)

pub write_whole-put-requires-clause-one_each : goal.write_whole-put-requires-clause-one_each
write_whole-put-requires-clause-one_each g c =
    let session = c.in_ok-session.session in
    let solved = c.in_ok-solved.solved in
    let mask = open_at session.first_mask in
    let laid = laid_raster session.scene c.sheet-sheet.result c.sheet-sheet.ensures in
    let good = subst (λ (r : Raster). IsGoodWhole r mask solved) laid c.in_ok-solved.ensures.good in
    λ κs l. subst (λ (r : Raster). length c.deref.result.now ≡ (r.width - 1) * (r.height - 1)) (sym laid) (ap length c.deref.ensures.value ∙ one_each session.scene mask solved good)

pub returns : goal.returns
returns g c =
    let session = c.in_ok-session.session in
    let solved = c.in_ok-solved.solved in
    let mask = open_at session.first_mask in
    let laid = laid_raster session.scene c.sheet-sheet.result c.sheet-sheet.ensures in
    let good = subst (λ (r : Raster). IsGoodWhole r mask solved) laid c.in_ok-solved.ensures.good in
    let told : WholeTask → List ℤ → WholeOf = λ task faces. told_whole task (whole_cycles solved.width solved.cycles.items) faces solved.cost in
    let faces = c.deref.result.now in
    let task = whole_task session in
    let same = laid_task session c.sheet-sheet.result c.sheet-sheet.ensures in
    let is : IsWholeOf task (told task faces) = subst (λ (f : List ℤ). IsWholeOf task (told task f)) (sym c.deref.ensures.value) (is_whole session solved good) in
    let run : Run = run_of g.S.Source.left g.S.Source.faults c.args.source.now c.read_given_whole.new.source g.K.Sink.held g.K.Sink.faults c.args.sink.now c.write_whole-put.new.sink in
    let ranges : IsWhole (told task faces) = subst (λ (t : WholeTask). IsWhole (told t faces)) same c.write_whole-put.ensures.ranges in
    let ready = whole_ready c.args.settings run session (told task faces) c.in_ok-session.ensures.given is ranges in
    rw c.end_of.ensures (tt, put_ends (Whole c.args.settings) run 0 (whole_text (told task faces)) ready c.write_whole-put.result refl (subst (λ (t : WholeTask). Puts run.held run.sink_before run.held_now run.sink_after (whole_text (told t faces)) c.write_whole-put.result) same c.write_whole-put.ensures.put))
