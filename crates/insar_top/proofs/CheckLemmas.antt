-- A session and then a report: that what `unwrap` writes is accepted, and that bytes have one verdict.
use Rattle.std.proofs.Common.{◌≡◌, ℕ, ◌^◌, ◌≤◌, ◌<◌, List, length, inl, inr, refl, sym, ap, subst, arith}
use Rattle.pgm_planes.specs.declared.fault.Role.TheVariants.{Weight}
use Rattle.pgm_planes.specs.Planes.{PlaneOf, plane_of}
use Rattle.insar_words.specs.Asked.{Options}
use Rattle.session_script.specs.Layouts.{in_tiles}
use Rattle.session_script.specs.Sessions.{IsLaterPlane, session_of}
use Rattle.report_text.specs.Text.{report_text}
use Rattle.report_text.proofs.SameReports.{reports_unique}
use Rattle.report_text.proofs.ShortReports.{certified_reports_are_short}
use Rattle.report_check.proofs.EqualVerdicts.{verdict_is_of_texts}
use Rattle.report_check.proofs.UniqueLemmas.{reports_have_one_verdict}
use Rattle.insar_commands.specs.Both.{most_of_text}
use Rattle.insar_commands.specs.Check.{AnswersAreAccepted, BytesHaveOneVerdict}
use Rattle.insar_commands.specs.Options.{HasOptions}
use Rattle.insar_commands.specs.Unwrap.{IsReportAnswer}
use Rattle.insar_commands.proofs.BothLemmas.{judged_after, same_both}

-- no weight of a session that was read has more than 16 bits
small_weights : (maxval : ℕ) (phase weights : PlaneOf) (bytes rest : List ℕ) → maxval ≡ weights.maxval → IsLaterPlane Weight phase bytes weights rest → maxval < 2 ^ 16
small_weights maxval phase weights bytes rest e (inl ((text, whole, (spelling, plane)), size)) = let most = plane.plane.maxval.1 in omega (arith, e, most)
small_weights maxval phase weights bytes rest e (inr (none, ones, same)) = omega (arith, e, ap (λ (plane : PlaneOf). plane.maxval) ones)

-- no report is too long
short_answer : (options : Options) (bytes text : List ℕ) (answer : IsReportAnswer options bytes text) → length text ≤ most_of_text (in_tiles options.side)
short_answer options bytes text answer =
    let s = answer.session in
    let planes = answer.given.spelled.planes in
    let small = small_weights s.scene.weights.maxval (plane_of s.scene.phase) (plane_of s.scene.weights) planes.behind_phase planes.behind_weights refl planes.second in
    subst (λ (t : List ℕ). length t ≤ most_of_text (in_tiles options.side)) (sym answer.written) (certified_reports_are_short s answer.report small answer.in_range answer.reported.certified)

pub answers_are_accepted : AnswersAreAccepted
answers_are_accepted options bytes text both answer spelled =
    judged_after (in_tiles options.side) session_of (HasOptions options) both answer.session answer.report text answer.written spelled answer.given.options_are (short_answer options bytes text answer) answer.in_range answer.reported.certified

pub bytes_have_one_verdict : BytesHaveOneVerdict
bytes_have_one_verdict options bytes one other a j =
    let same = same_both options bytes a.session j.session (report_text a.told) (report_text j.told) a.both j.both in
    let reports = reports_unique a.told j.told a.in_range j.in_range same.1 in
    reports_have_one_verdict j.session j.told one other (verdict_is_of_texts a.session j.session a.told j.told one same.0 reports a.verdict_is) j.verdict_is
