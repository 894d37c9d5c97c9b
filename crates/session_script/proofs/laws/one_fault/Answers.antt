use Rattle.session_script.specs.Layouts.{in_tiles}
use Rattle.session_script.proofs.AskSession.{one_fault, no_fault_of_session}
use Rattle.session_script.proofs.laws.one_fault.Goals as goal

pub returns-clause-not_both : goal.returns-clause-not_both
returns-clause-not_both c = no_fault_of_session

pub returns-clause-one_fault : goal.returns-clause-one_fault
returns-clause-one_fault c usage side = one_fault usage (in_tiles side)
