use Rattle.std.proofs.Common.{arith, refl, subst}
use Rattle.raster_model.specs.Scripts.{CommandsFit}
use Rattle.session_script.specs.Building.{scripts_in}
use Rattle.session_script.specs.Layouts.{as_whole}
use Rattle.session_script.specs.Sections.{AreComplete, Frame, whole_frame}
use Rattle.session_script.specs.Sessions.{whole_session_of}
use Rattle.session_script.proofs.AskSession.{each_script, made_of_parts, unread}
use Rattle.session_script.proofs.CallLemmas.{fails, gives, goes}
use Rattle.session_script.proofs.whole.read_by.Goals as goal

pub returns-in_err-planes-clause-outcome : goal.returns-in_err-planes-clause-outcome
returns-in_err-planes-clause-outcome g c =
    let f = c.read_planes.new.feed in
    let o = c.in_err-planes.ensures in
    unread whole_session_of c.args.use_as as_whole _ c.requires.start c.requires.limit (omega (arith, f.limited, f.counted, f.ordered, o.limit)) _ c.from_residual.result c.from_residual.ensures.1
    (fails _ _ refl o.parses)

pub returns-in_err-scripts-clause-outcome : goal.returns-in_err-scripts-clause-outcome
returns-in_err-scripts-clause-outcome g c =
    let f = c.read_scripts.new.feed in
    let o = c.in_ok-planes.ensures in
    let p = c.in_err-scripts.ensures in
    unread whole_session_of c.args.use_as as_whole _ c.requires.start c.requires.limit (omega (arith, f.limited, f.counted, f.ordered, o.limit, p.limit)) _ c.from_residual-in_err-scripts.result c.from_residual-in_err-scripts.ensures.1
    (goes _ _ o.parses o.limit (fails _ _ refl (rw c.of_whole-frame.ensures at p.parses)))

pub invariant_of-parts : goal.invariant_of-parts
invariant_of-parts g c =
    let p = c.in_ok-planes.planes in
    let scripts = c.in_ok-scripts.scripts in
    let complete : AreComplete (whole_frame p.phase.width p.phase.height) (scripts_in scripts) = subst (λ (f : Frame). AreComplete f (scripts_in scripts)) c.of_whole-frame.ensures c.in_ok-scripts.ensures.within in
    record {
      cycle = p.cycle;
      same_width = p.same_width;
      same_height = p.same_height;
      inside = each_script (CommandsFit p.phase.width p.phase.height) scripts.items complete.1.inside;
    }

pub returns-clause-outcome : goal.returns-clause-outcome
returns-clause-outcome g c =
    let f = c.read_scripts.new.feed in
    let o = c.in_ok-planes.ensures in
    let p = c.in_ok-scripts.ensures in
    let made = c.made_of.ensures in
    made_of_parts whole_session_of c.args.use_as as_whole _ c.requires.start c.requires.limit (omega (arith, f.limited, f.counted, f.ordered, o.limit, p.limit)) _ c.made_of.result made.made made.starved
    (goes _ _ o.parses o.limit (goes _ _ (rw c.of_whole-frame.ensures at p.parses) p.limit (gives _)))
