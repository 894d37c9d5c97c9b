use Rattle.std.proofs.Common.{subst}
use Rattle.whole_check.specs.Verdicts.{IsWholeVerdict}
use Rattle.whole_text.specs.Reading.{whole_told}
use Rattle.whole_text.specs.Told.{WholeTask}
use Rattle.insar_commands.proofs.WholeLemmas.{laid_task}
use Rattle.insar_commands.proofs.check_whole.judge.Goals as goal

pub returns : goal.returns
returns c = subst (λ (t : WholeTask). IsWholeVerdict t (whole_told c.args.whole.now) c.check_whole_text.result) (laid_task c.args.session.now c.sheet.result c.sheet.ensures) c.check_whole_text.ensures.verdict
