use Rattle.std.proofs.Common.{of_z, refl, subst, sym, to_z}
use mir.Syntax.{w32}
use Rattle.report_text.specs.Terms.{AreTermsIn, plain_terms}
use Rattle.text_parts.specs.Terms.{terms_of}
use Rattle.text_parts.proofs.LineLemmas.{slope_is}
use Rattle.report_text.proofs.PartForms.{none_told, plain_in, ramp_after, ramp_first, told_terms}
use Rattle.text_parts.proofs.ReadsLemmas.{reads_first, reads_second, reads_ok, took, took_none, took_then}
use Rattle.text_parts.proofs.UniqueLemmas.{same_terms}
use Rattle.report_text.proofs.read.read_terms.Goals as goal

pub returns-then-version-eq1 : goal.returns-then-version-eq1
returns-then-version-eq1 g c =
    let t = terms_of c.plain.result in
    let e = c.plain.ensures in
    reads_ok (took_none _) (subst (AreTermsIn c.args.version) (sym (same_terms t plain_terms e.across e.along e.steepness)) (plain_in c.args.version)) (sym (none_told c.args.version c.if-version-eq1.true t))

pub returns-in_err-ramp_x : goal.returns-in_err-ramp_x
returns-in_err-ramp_x g c = reads_first c.from_residual.result c.from_residual.ensures.1 (ramp_first c.args.version c.if-version-eq1.false) c.in_err-ramp_x.ensures

pub returns-in_err-steep : goal.returns-in_err-steep
returns-in_err-steep g c =
    let a = c.in_ok-ramp_x.ensures in
    reads_second c.from_residual-in_err-steep.result c.from_residual-in_err-steep.ensures.1 (ramp_after c.args.version c.if-version-eq1.false (c.in_ok-ramp_x.ramp_x, c.in_ok-ramp_x.ramp_y) a.read.0) (took a) c.in_err-steep.ensures

pub returns : goal.returns
returns g c =
    let x = c.in_ok-ramp_x.ramp_x in
    let y = c.in_ok-ramp_x.ramp_y in
    let a = c.in_ok-ramp_x.ensures in
    let b = c.in_ok-steep.ensures in
    let r = a.read.0 in
    let h = told_terms c.args.version c.if-version-eq1.false (x, y) c.in_ok-steep.steep r b.read.0 (record { ramp_x = to_z w32 (of_z w32 x); ramp_y = to_z w32 (of_z w32 y); steep = c.in_ok-steep.steep }) (slope_is x r.0) (slope_is y r.1) refl in
    reads_ok (took_then (took a) (took b)) h.0 h.1
