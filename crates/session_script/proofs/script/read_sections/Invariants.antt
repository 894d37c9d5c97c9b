use Rattle.std.proofs.Common.{◌≡◌, ◌≤◌, ◌-◌}
use Rattle.insar_ports.specs.Calls.{call_of}
use Rattle.insar_ports.specs.Feeding.{handed_of, limit_of, source_name}
use Rattle.session_script.specs.Building.{sections_in}
use Rattle.session_script.specs.Parsing.{lines_parser}
use Rattle.session_script.specs.Sections.{AreWithinLimits, frame_of, line_count}
use Rattle.session_script.proofs.CallLemmas.{Leads}
use Rattle.session_script.proofs.SectionsAgain.{lines_after}
use Rattle.session_script.proofs.script.read_sections.Given as goal

abbrev pub invariant-loop-sections : goal.invariant-loop-sections
invariant-loop-sections g l = record {
  same_source : source_name l.feed ≡ source_name l.fn.feed;
  limit : limit_of l.feed ≡ limit_of l.fn.feed;
  leads : Leads (call_of g.S.Source.left g.S.Source.faults l.fn.feed l.feed) (lines_parser (frame_of l.fn.frame)) (lines_after (frame_of l.fn.frame) (sections_in l.sections));
  within : AreWithinLimits (frame_of l.fn.frame) (sections_in l.sections);
  few : line_count (sections_in l.sections) ≤ 32776;
}

abbrev pub decreases-loop-sections : goal.decreases-loop-sections
decreases-loop-sections g l = limit_of l.feed - handed_of l.feed
