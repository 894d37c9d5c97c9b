-- What `whole` writes for a session: a surface than which none costs less over the whole raster, with its certificate.
use Rattle.std.specs.Prelude.{◌≡◌, ◌+◌, ◌<◌, ◌≤◌, ℕ, Bool, List, [], Some, IfSome, slice_get}
use Rattle.edge_weights.specs.declared.whole.WholeScene.{WholeScene}
use Rattle.edge_weights.specs.declared.whole.WholeSession.{WholeSession}
use Rattle.insar_ports.specs.Bytes.{with_end}
use Rattle.raster_model.specs.declared.session.Session.{Session}
use Rattle.raster_model.specs.Masks.{open_at}
use Rattle.raster_model.specs.Planes.{plane_sample}
use Rattle.raster_model.specs.Raster.{Raster}
use Rattle.raster_model.specs.Scene.{raster_of}
use Rattle.raster_model.specs.Sums.{Field}
use Rattle.raster_model.specs.Terms.{slope_of}
use Rattle.raster_model.specs.Weights.{edge_weight}
use Rattle.raster_model.specs.Whole.{IsLeastOfAll}
use Rattle.session_script.specs.declared.session_use.SessionUse.TheVariants.{Alone}
use Rattle.session_script.specs.Sessions.{HasWholeFault, IsWholeSessionIn, SessionOf, whole_session_of}
use Rattle.text_parts.specs.Terms.{terms_of}
use Rattle.whole_text.specs.Text.{IsWhole, WholeOf, whole_text}
use Rattle.whole_text.specs.Told.{WholeTask}
use Rattle.whole_check.specs.Verdicts.{IsCertifiedText, surface_told}
use Rattle.tile_board.specs.Histories.{mask_in}
use Rattle.tile_board.specs.declared.entry.Entry.TheVariants.{Published}
use Rattle.report_text.specs.Certified.{history_of}
use Rattle.report_text.specs.Reports.{ItemOf, ReportOf, SurfaceOf}
use Rattle.insar_words.specs.Asked.{Options}
use Rattle.insar_commands.specs.Options.{HasWholeOptions}
use Rattle.insar_commands.specs.Run.{Run}
use Rattle.insar_commands.specs.Unwrap.{IsGiven, IsReportOf}
use Rattle.answer_lines.specs.declared.refusal.Refusal.{Refusal}
use Rattle.answer_lines.specs.declared.refusal.Refusal.TheVariants as refusals

-- the raster of a scene without tiles, as one tile; what is unwrapped of a session: that raster, its rule and its terms, under the first mask
abbrev pub raster_laid : WholeScene → Raster
raster_laid scene = record { width = scene.phase.width; height = scene.phase.height; phase = plane_sample scene.phase; slope = slope_of scene.terms; weight = edge_weight scene.rule scene.weights; tile = λ x y. 0; tile_count = 1; steep = scene.terms.steep }

abbrev pub whole_task : WholeSession → WholeTask
whole_task s = record { raster = raster_laid s.scene; rule = s.scene.rule; terms = terms_of s.scene.terms; mask = open_at s.first_mask }

-- the bytes are the text of a session without tiles that stands alone; they are that of some session
abbrev pub IsWholeInput : List ℕ → SessionOf → Type 0
IsWholeInput bytes s = IsWholeSessionIn Alone bytes s []

abbrev pub IsSomeWholeInput : List ℕ → Type 0
IsSomeWholeInput bytes = (s : SessionOf) × IsWholeInput bytes s

-- they are the text of this session, which is on these options
pub record IsWholeGiven (options : Options) (bytes : List ℕ) (s : WholeSession) : Type 0 where
  pub spelled : IsWholeInput bytes (whole_session_of s)
  pub options_are : HasWholeOptions options s

-- the break of the bytes for which such a session is refused
abbrev pub BreaksWhole : List ℕ → Refusal → Type 0
BreaksWhole bytes (refusals.Input fault) = HasWholeFault Alone bytes fault
BreaksWhole bytes refusal = ⊥

-- the text of a task: its surface is certified, so no congruent surface costs less
pub record IsWholeOf (task : WholeTask) (w : WholeOf) : Type 0 where
  pub certified : IsCertifiedText task w
  pub least : IsLeastOfAll task.raster task.mask (surface_told task w)

-- the text is that of such a surface of the session that the bytes spell, and its numbers are in their ranges
pub record IsWholeAnswer (options : Options) (bytes text : List ℕ) : Type 0 where
  pub session : WholeSession
  pub whole : WholeOf
  pub given : IsWholeGiven options bytes session
  pub told : IsWholeOf (whole_task session) whole
  pub in_range : IsWhole whole
  pub written : text ≡ whole_text whole

-- where the bytes are told, they are a session, nothing of it is left, and the sink gained exactly the text of such a surface
abbrev pub IsLeastDone : Options → Run → Type 0
IsLeastDone options run = IfSome run.told (λ bytes. (text : List ℕ) × (IsWholeAnswer options bytes text × ((run.left ≡ Some []) × (run.held_now ≡ with_end run.held text))))

-- two masks agree on the pixels of a raster
abbrev pub MasksAgree : Raster → Field Bool → Field Bool → Type 0
MasksAgree raster one other = (x y : ℕ) → x < raster.width → y < raster.height → one x y ≡ other x y

-- of bytes that are a session in tiles and one without: the least of all costs no less than the tiles of a surface that a report publishes for a revision whose mask is the first, and no more than its tiles and its seams
abbrev pub ReportsBoundTheLeast : Type 0
ReportsBoundTheLeast = (options : Options) (bytes : List ℕ) (s : Session) (whole : WholeSession) (report : ReportOf) (w : WholeOf) (at analyst revision : ℕ) (i : ItemOf) (surface : SurfaceOf) → IsGiven options bytes s → IsWholeGiven options bytes whole → IsReportOf s report
    → slice_get report.items at ≡ Some i → i.entry ≡ Published analyst revision → i.surface ≡ Some surface
    → MasksAgree (raster_of s.scene) (mask_in s (history_of report) revision) (open_at s.first_mask) → IsWholeOf (whole_task whole) w → (surface.tile_cost ≤ w.cost) × (w.cost ≤ surface.tile_cost + surface.seam_cost)

-- revision 0 has the first mask
abbrev pub TheFirstMaskIsThatOfRevision0 : Type 0
TheFirstMaskIsThatOfRevision0 = (s : Session) (report : ReportOf) → MasksAgree (raster_of s.scene) (mask_in s (history_of report) 0) (open_at s.first_mask)
