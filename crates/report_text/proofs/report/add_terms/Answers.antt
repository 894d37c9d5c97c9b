use Rattle.text_lines.proofs.AddLemmas.{adds_nothing, adds_then}
use Rattle.text_parts.specs.Terms.{terms_of}
use Rattle.text_parts.proofs.LineLemmas.{slope_is}
use Rattle.report_text.proofs.PartForms.{all_told, none_told}
use Rattle.report_text.proofs.report.add_terms.Goals as goal

pub returns-then-version-eq1 : goal.returns-then-version-eq1
returns-then-version-eq1 g c = rw (none_told c.args.version c.if-version-eq1.true (terms_of c.args.terms)) (adds_nothing _)

pub returns : goal.returns
returns g c =
    let t = c.args.terms in
    rw (all_told c.args.version c.if-version-eq1.false (terms_of t)) (adds_then (rw (slope_is t.ramp_x t.across, slope_is t.ramp_y t.along) at c.add_ramp.ensures) c.add_steepness.ensures)
