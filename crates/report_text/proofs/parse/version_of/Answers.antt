use Rattle.std.proofs.Common.{refl}
use Rattle.std.specs.Prelude.{codes}
use Rattle.report_text.specs.Terms.{IsVersion}
use Rattle.report_text.proofs.LineLemmas.{version_in, version_small}
use Rattle.report_text.specs.Text.{version_line}
use Rattle.text_parts.proofs.ParseLemmas.{labelled}
use Rattle.text_lines.specs.Text.{field_text}
use Rattle.report_text.proofs.parse.version_of.Goals as goal

pub returns : goal.returns
unfolding field_text
returns c = let e = c.labelled_count.ensures in labelled IsVersion version_line (codes "insar-report ") c.args.line.now 1 2 version_small version_in (λ n. refl) c.labelled_count.result e.within e.found e.none
