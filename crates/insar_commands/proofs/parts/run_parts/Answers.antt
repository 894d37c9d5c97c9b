use Rattle.std.proofs.Common.{arith, subst}
use Rattle.raster_model.specs.Masks.{open_at}
use Rattle.certain_parts.specs.Labels.{ArePartsOf}
use Rattle.certain_parts.specs.PartsText.{parts_text}
use Rattle.certain_parts.specs.Told.{faced_told}
use Rattle.whole_text.specs.Reading.{whole_told}
use Rattle.whole_text.specs.Told.{WholeTask}
use Rattle.answer_lines.specs.WholeLines.{whole_verdict_line}
use Rattle.insar_words.specs.declared.request.Request.TheVariants.{Parts}
use Rattle.insar_commands.specs.Run.{Run, run_of}
use Rattle.insar_commands.proofs.AnswerLemmas.{put_ends}
use Rattle.insar_commands.proofs.PartsLemmas.{parts_ready, refused_ready}
use Rattle.insar_commands.proofs.WholeLemmas.{laid_task}
use Rattle.insar_commands.proofs.parts.run_parts.Goals as goal

pub returns-in-Accepted : goal.returns-in-Accepted
returns-in-Accepted g c =
    let parting = c.args.parting in
    let both = c.in_ok-session in
    let told = whole_told both.whole in
    let parts = c.in_ok-parts-in-Accepted.parts in
    let run : Run = run_of g.S.Source.left g.S.Source.faults c.args.source.now c.read_both_whole.new.source g.K.Sink.held g.K.Sink.faults c.args.sink.now c.write_parts.new.sink in
    let found = subst (λ (t : WholeTask). ArePartsOf (faced_told t told) parting.margin parting.least parts) (laid_task both.session c.sheet.result c.sheet.ensures) c.in_ok-parts-in-Accepted.ensures in
    let ready = parts_ready parting run both.session told both.ensures.read both.ensures.in_range parts c.in-Accepted.ensures found in
    rw c.end_of.ensures (tt, put_ends (Parts parting) run 0 (parts_text parts (open_at both.session.first_mask) parting.margin parting.least) ready c.write_parts.result (omega arith) c.write_parts.ensures)

pub returns : goal.returns
returns g c =
    let parting = c.args.parting in
    let both = c.in_ok-session in
    let verdict = c.judge.result in
    let run : Run = run_of g.S.Source.left g.S.Source.faults c.args.source.now c.read_both_whole.new.source g.K.Sink.held g.K.Sink.faults c.args.sink.now c.put_whole_verdict.new.sink in
    let ready = refused_ready parting run both.session (whole_told both.whole) both.ensures.read both.ensures.in_range verdict c.judge.ensures c.in_default.not-Accepted in
    rw c.end_of-in_default.ensures (tt, put_ends (Parts parting) run 1 (whole_verdict_line verdict) ready c.put_whole_verdict.result (omega arith) c.put_whole_verdict.ensures)
