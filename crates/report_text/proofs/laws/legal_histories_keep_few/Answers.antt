use Rattle.report_text.proofs.EntryCounts.{legal_histories_keep_few}
use Rattle.report_text.proofs.laws.legal_histories_keep_few.Goals as goal

pub returns : goal.returns
returns c = legal_histories_keep_few
