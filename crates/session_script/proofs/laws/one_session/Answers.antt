use Rattle.session_script.proofs.SessionAgain.{one_session}
use Rattle.session_script.proofs.laws.one_session.Goals as goal

pub returns : goal.returns
returns c = one_session
