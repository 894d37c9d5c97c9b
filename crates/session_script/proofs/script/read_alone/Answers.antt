use Rattle.pgm_planes.specs.declared.fault.InputFault.TheVariants.{AfterEnd}
use Rattle.session_script.proofs.CallLemmas.{goes, fails, makes, refuses}
use Rattle.session_script.proofs.script.read_alone.Goals as goal

pub returns-in_err-see_byte-clause-parses : goal.returns-in_err-see_byte-clause-parses
returns-in_err-see_byte-clause-parses g c = fails _ _ c.from_residual.ensures.1 c.in_err-see_byte.ensures.parses

pub returns-in_default-clause-parses : goal.returns-in_default-clause-parses
returns-in_default-clause-parses g c = goes _ _ c.in_ok-see_byte.ensures.parses c.in_ok-see_byte.ensures.limit (rw c.in_default.is (makes _ _ c.usual_scripts.ensures.made c.usual_scripts.ensures.starved))

pub returns-in_err-sections-clause-parses : goal.returns-in_err-sections-clause-parses
returns-in_err-sections-clause-parses g c = goes _ _ c.in_ok-see_byte.ensures.parses c.in_ok-see_byte.ensures.limit (rw c.in-Some.is (fails _ _ c.from_residual-in_err-sections.ensures.1 c.in_err-sections.ensures.parses))

pub returns-in_err-see_byte-2-clause-parses : goal.returns-in_err-see_byte-2-clause-parses
returns-in_err-see_byte-2-clause-parses g c =
    goes _ _ c.in_ok-see_byte.ensures.parses c.in_ok-see_byte.ensures.limit
    (rw c.in-Some.is (goes _ _ c.in_ok-sections.ensures.parses c.in_ok-sections.ensures.limit (fails _ _ c.from_residual-in_err-see_byte-2.ensures.1 c.in_err-see_byte-2.ensures.parses)))

pub returns-in-None-clause-parses : goal.returns-in-None-clause-parses
returns-in-None-clause-parses g c =
    goes _ _ c.in_ok-see_byte.ensures.parses c.in_ok-see_byte.ensures.limit
    (rw c.in-Some.is (goes _ _ c.in_ok-sections.ensures.parses c.in_ok-sections.ensures.limit
    (goes _ _ c.in_ok-see_byte-2.ensures.parses c.in_ok-see_byte-2.ensures.limit (rw c.in-None.is (makes _ _ c.meant_scripts.ensures.made c.meant_scripts.ensures.starved)))))

pub returns-in-Some-2-clause-parses : goal.returns-in-Some-2-clause-parses
returns-in-Some-2-clause-parses g c =
    goes _ _ c.in_ok-see_byte.ensures.parses c.in_ok-see_byte.ensures.limit
    (rw c.in-Some.is (goes _ _ c.in_ok-sections.ensures.parses c.in_ok-sections.ensures.limit
    (goes _ _ c.in_ok-see_byte-2.ensures.parses c.in_ok-see_byte-2.ensures.limit (rw (c.in-Some-2.is, c.handed-place.ensures, ← c.in_ok-see_byte-2.ensures.stays) (refuses AfterEnd (λ e. cc))))))
