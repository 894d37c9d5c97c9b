use Rattle.text_lines.proofs.AddLemmas.{adds_then}
use Rattle.report_text.proofs.report.add_head.Goals as goal

pub returns : goal.returns
returns g c =
    rw c.version_for-version.ensures at (adds_then c.add_version.ensures (adds_then c.add_size.ensures (adds_then c.add_side.ensures (adds_then c.add_rule.ensures c.add_terms.ensures))))
