use Rattle.report_check.proofs.EqualVerdicts.{verdict_is_of_texts}
use Rattle.report_check.proofs.laws.verdict_is_of_texts.Goals as goal

pub returns : goal.returns
returns c = verdict_is_of_texts
