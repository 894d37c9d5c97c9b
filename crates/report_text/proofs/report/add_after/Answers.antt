use Rattle.std.proofs.Common.{◌≡◌, true, false, ◌∙◌, sym}
use Rattle.surface_snapshots.specs.Views.{parts_of}
use Rattle.report_text.specs.Reports.{is_published}
use Rattle.report_text.proofs.ItemLemmas.{none_either, range_over, text_over}
use Rattle.text_lines.proofs.AddLemmas.{adds_nothing}
use Rattle.report_text.proofs.report.add_after.Goals as goal

pub returns-in_default-clause-text : goal.returns-in_default-clause-text
returns-in_default-clause-text g c = rw (c.in_default.is, none_either (is_published c.args.entry)) (adds_nothing _)

pub returns-in_default-clause-small : goal.returns-in_default-clause-small
returns-in_default-clause-small g c = rw (c.in_default.is, none_either (is_published c.args.entry)) tt

pub returns-then-is_publication-clause-text : goal.returns-then-is_publication-clause-text
returns-then-is_publication-clause-text g c =
    let over : (parts_of c.in-Some.snapshot.now).session ≡ c.args.session.now = rw c.in-Some.is at c.requires.over in
    let published : is_published c.args.entry ≡ true = sym c.is_publication.ensures ∙ c.if-is_publication.true in
    rw (c.in-Some.is, published, ← text_over c.args.session.now c.args.tiles (parts_of c.in-Some.snapshot.now) over) c.add_surface.ensures.text

pub returns-then-is_publication-clause-small : goal.returns-then-is_publication-clause-small
returns-then-is_publication-clause-small g c =
    let over : (parts_of c.in-Some.snapshot.now).session ≡ c.args.session.now = rw c.in-Some.is at c.requires.over in
    let published : is_published c.args.entry ≡ true = sym c.is_publication.ensures ∙ c.if-is_publication.true in
    rw (c.in-Some.is, published) (range_over c.args.session.now c.args.tiles (parts_of c.in-Some.snapshot.now) over c.add_surface.ensures.ranges)

pub returns-else-is_publication-clause-text : goal.returns-else-is_publication-clause-text
returns-else-is_publication-clause-text g c =
    let other : is_published c.args.entry ≡ false = sym c.is_publication.ensures ∙ c.if-is_publication.false in
    rw other (adds_nothing _)

pub returns-else-is_publication-clause-small : goal.returns-else-is_publication-clause-small
returns-else-is_publication-clause-small g c =
    let other : is_published c.args.entry ≡ false = sym c.is_publication.ensures ∙ c.if-is_publication.false in
    rw other tt
