use Rattle.report_check.proofs.EqualSessions.{acceptance_is_of_texts}
use Rattle.report_check.proofs.laws.acceptance_is_of_texts.Goals as goal

pub returns : goal.returns
returns c = acceptance_is_of_texts
