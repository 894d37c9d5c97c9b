use Rattle.session_script.proofs.CallLemmas.{goes, fails, makes}
use Rattle.session_script.proofs.script.read_scripts.Goals as goal

pub returns-in_err-sections-in-BeforeReport-clause-parses : goal.returns-in_err-sections-in-BeforeReport-clause-parses
returns-in_err-sections-in-BeforeReport-clause-parses g c = rw c.in-BeforeReport.is (fails _ _ c.from_residual.ensures.1 c.in_err-sections-in-BeforeReport.ensures.parses)

pub returns-in_ok-sections-in-BeforeReport-clause-parses : goal.returns-in_ok-sections-in-BeforeReport-clause-parses
returns-in_ok-sections-in-BeforeReport-clause-parses g c =
    rw c.in-BeforeReport.is (goes _ _ c.in_ok-sections-in-BeforeReport.ensures.parses c.in_ok-sections-in-BeforeReport.ensures.limit (makes _ _ c.meant_scripts.ensures.made c.meant_scripts.ensures.starved))
