use Rattle.session_script.proofs.AskSession.{one_fault, no_fault_of_laid}
use Rattle.session_script.proofs.laws.one_laid_fault.Goals as goal

pub returns-clause-not_both : goal.returns-clause-not_both
returns-clause-not_both c = no_fault_of_laid

pub returns-clause-one_fault : goal.returns-clause-one_fault
returns-clause-one_fault c = one_fault
