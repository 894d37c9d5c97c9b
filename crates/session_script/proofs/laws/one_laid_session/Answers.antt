use Rattle.session_script.proofs.SessionAgain.{one_laid}
use Rattle.session_script.proofs.laws.one_laid_session.Goals as goal

pub returns : goal.returns
returns c = one_laid
