-- What a run of `unwrap` or of `grid` promises.
use Rattle.std.proofs.Common.{refl}
use Rattle.std.specs.Prelude.{IfSome}
use Rattle.insar_ports.proofs.CallLemmas.{at_told, if_told}
use Rattle.insar_words.specs.declared.request.Request.TheVariants.{Unwrap, Grid}
use Rattle.insar_words.specs.Requests.{options_of}
use Rattle.insar_words.specs.declared.settings.Settings.{Settings}
use Rattle.raster_model.specs.declared.session.Session.{Session}
use Rattle.report_text.specs.Certified.{IsCertifiedReport, history_of}
use Rattle.report_text.specs.Contents.{IsReport}
use Rattle.report_text.specs.Reports.{HasItsVersion, ReportOf, report_of}
use Rattle.report_text.specs.Text.{report_text}
use Rattle.report_text.proofs.CertifiedLemmas.{certified_reports_are_best}
use Rattle.tile_board.specs.BoardView.{BoardView}
use Rattle.tile_board.proofs.LawLemmas.{legal_histories_move_on}
use Rattle.insar_commands.specs.Answers.{IsAnswerTo, IsUsedUp}
use Rattle.insar_commands.specs.Grid.{IsSurfaceGrid, last_grid, last_surface}
use Rattle.insar_commands.specs.Run.{ReadsAll, Run}
use Rattle.insar_commands.specs.Unwrap.{IsGiven, IsReportOf}

-- the report of a complete board
pub is_report : (v : BoardView) → IsCertifiedReport v.session (report_of v.session v.entries v.surfaces) → HasItsVersion (report_of v.session v.entries v.surfaces) → IsReportOf v.session (report_of v.session v.entries v.surfaces)
is_report v c versioned =
    let moves = legal_histories_move_on v.session (history_of (report_of v.session v.entries v.surfaces)) c.legal in
    record { certified = c; best = certified_reports_are_best v.session (report_of v.session v.entries v.surfaces) c; newest = moves.0; rising = moves.1; versioned = versioned }

module _ (settings : Settings) (r : Run) (s : Session) (v : ReportOf) (read : ReadsAll r.told r.left (λ bytes. IsGiven (options_of settings) bytes s)) (reported : IsReportOf s v) where
  pub report_ready : IsReport v → IfSome r.told (λ bytes. IsAnswerTo (Unwrap settings) bytes 0 (report_text v) × IsUsedUp (Unwrap settings) r)
  report_ready ranges = if_told r.told _ (λ bytes t.
      let k = at_told r.told _ bytes t read in
      ((refl, record { session = s; report = v; given = k.0; reported = reported; in_range = ranges; written = refl }), k.1))

  pub grid_ready : IsSurfaceGrid v.width v.height (last_surface v) → IfSome r.told (λ bytes. IsAnswerTo (Grid settings) bytes 0 (last_grid v) × IsUsedUp (Grid settings) r)
  grid_ready ranges = if_told r.told _ (λ bytes t.
      let k = at_told r.told _ bytes t read in
      ((refl, record { session = s; report = v; given = k.0; reported = reported; in_range = ranges; written = refl }), k.1))
