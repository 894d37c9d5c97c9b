use Rattle.std.proofs.Common.{◌≡◌, ◌∙◌, ◌≤◌, length, arith, refl, subst}
use Rattle.pgm_planes.specs.Planes.{plane_of}
use Rattle.raster_model.specs.Scripts.{is_settle, is_change, CommandsFit}
use Rattle.session_script.specs.Building.{scripts_in}
use Rattle.session_script.specs.Layouts.{in_tiles}
use Rattle.session_script.specs.Sections.{AreComplete, Frame, frame_of, frame_of_tiling}
use Rattle.session_script.specs.Sessions.{frame_in, session_of}
use Rattle.session_script.proofs.AskSession.{each_script, frame_is, made_of_parts, same_counts, unread}
use Rattle.session_script.proofs.CallLemmas.{fails, gives, goes}
use Rattle.session_script.proofs.WithinLemmas.{length_is}
use Rattle.session_script.proofs.SizeLemmas.{size_fits}
use Rattle.session_script.proofs.session.read_by.Goals as goal

pub returns-in_err-planes-clause-outcome : goal.returns-in_err-planes-clause-outcome
returns-in_err-planes-clause-outcome g c =
    let f = c.read_planes.new.feed in
    let o = c.in_err-planes.ensures in
    unread session_of c.args.use_as (in_tiles c.args.settings.side) _ c.requires.start c.requires.limit (omega (arith, f.limited, f.counted, f.ordered, o.limit)) _ c.from_residual.result c.from_residual.ensures.1
    (fails _ _ refl o.parses)

pub new-tiling-requires-clause-size : goal.new-tiling-requires-clause-size
new-tiling-requires-clause-size g c = size_fits _ _ c.in_ok-planes.ensures.sized

pub returns-in_err-scripts-clause-outcome : goal.returns-in_err-scripts-clause-outcome
returns-in_err-scripts-clause-outcome g c =
    let frame : frame_of c.of_tiling-frame.result ≡ frame_in c.args.settings.side (plane_of c.in_ok-planes.planes.phase) = c.of_tiling-frame.ensures ∙ frame_is c.new-tiling.result (plane_of c.in_ok-planes.planes.phase) c.args.settings.side c.new-tiling.ensures.0 c.new-tiling.ensures.1 c.new-tiling.ensures.2 in
    let f = c.read_scripts.new.feed in
    let o = c.in_ok-planes.ensures in
    let p = c.in_err-scripts.ensures in
    unread session_of c.args.use_as (in_tiles c.args.settings.side) _ c.requires.start c.requires.limit (omega (arith, f.limited, f.counted, f.ordered, o.limit, p.limit)) _ c.from_residual-in_err-scripts.result c.from_residual-in_err-scripts.ensures.1
    (goes _ _ o.parses o.limit (fails _ _ refl (rw frame at p.parses)))

pub invariant_of-parts : goal.invariant_of-parts
invariant_of-parts g c =
    let p = c.in_ok-planes.planes in
    let t = c.new-tiling.ensures in
    let scripts = c.in_ok-scripts.scripts in
    let complete : AreComplete (frame_of_tiling c.new-tiling.result) (scripts_in scripts) = subst (λ (f : Frame). AreComplete f (scripts_in scripts)) c.of_tiling-frame.ensures c.in_ok-scripts.ensures.within in
    let within = complete.1 in
    record {
      cycle = p.cycle;
      same_width = (p.same_width.0, (p.same_width.1, t.0));
      same_height = (p.same_height.0, (p.same_height.1, t.1));
      analysts = (omega (arith, complete.0, length_is scripts.items, scripts.ok.0), omega (arith, within.analysts, length_is scripts.items, scripts.ok.0));
      short = λ k s e. (let short = each_script (λ commands. length commands ≤ 4096) scripts.items within.short k s e in omega (arith, short, s.commands.ok.0));
      settles = rw (same_counts is_settle scripts.items, ← t.0, ← t.1) within.settles;
      changes = rw (same_counts is_change scripts.items) within.changes;
      inside = each_script (CommandsFit p.phase.width p.phase.height) scripts.items (rw (← t.0, ← t.1) within.inside);
    }

pub returns-clause-outcome : goal.returns-clause-outcome
returns-clause-outcome g c =
    let frame : frame_of c.of_tiling-frame.result ≡ frame_in c.args.settings.side (plane_of c.in_ok-planes.planes.phase) = c.of_tiling-frame.ensures ∙ frame_is c.new-tiling.result (plane_of c.in_ok-planes.planes.phase) c.args.settings.side c.new-tiling.ensures.0 c.new-tiling.ensures.1 c.new-tiling.ensures.2 in
    let f = c.read_scripts.new.feed in
    let o = c.in_ok-planes.ensures in
    let p = c.in_ok-scripts.ensures in
    let made = c.made_of.ensures in
    made_of_parts session_of c.args.use_as (in_tiles c.args.settings.side) _ c.requires.start c.requires.limit (omega (arith, f.limited, f.counted, f.ordered, o.limit, p.limit)) _ c.made_of.result made.made made.starved
    (goes _ _ o.parses o.limit (goes _ _ (rw frame at p.parses) p.limit (gives _)))
