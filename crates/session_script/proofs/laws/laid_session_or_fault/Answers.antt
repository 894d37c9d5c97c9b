use Rattle.session_script.proofs.AskSession.{session_or_fault}
use Rattle.session_script.proofs.SessionAgain.{no_break_of_session, one_break}
use Rattle.session_script.proofs.laws.laid_session_or_fault.Goals as goal

pub returns-clause-either : goal.returns-clause-either
returns-clause-either c = session_or_fault

pub returns-clause-not_both : goal.returns-clause-not_both
returns-clause-not_both c = no_break_of_session

pub returns-clause-one_break : goal.returns-clause-one_break
returns-clause-one_break c = one_break
