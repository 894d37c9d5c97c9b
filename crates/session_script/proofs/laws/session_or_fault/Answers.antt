use Rattle.session_script.specs.Layouts.{in_tiles}
use Rattle.session_script.proofs.AskSession.{session_or_fault}
use Rattle.session_script.proofs.SessionAgain.{no_break_of_session, one_break}
use Rattle.session_script.proofs.laws.session_or_fault.Goals as goal

pub returns-clause-either : goal.returns-clause-either
returns-clause-either c usage side = session_or_fault usage (in_tiles side)

pub returns-clause-not_both : goal.returns-clause-not_both
returns-clause-not_both c usage side = no_break_of_session usage (in_tiles side)

pub returns-clause-one_break : goal.returns-clause-one_break
returns-clause-one_break c usage side = one_break usage (in_tiles side)
