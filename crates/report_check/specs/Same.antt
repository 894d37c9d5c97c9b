-- The verdict on a report depends on what a session and the report tell, and on nothing else.
use Rattle.std.specs.Prelude.{◌≡◌, ℕ, ◌<◌, List, map}
use Rattle.raster_model.specs.declared.plane.Plane.{Plane}
use Rattle.raster_model.specs.declared.script.Command.{Command}
use Rattle.raster_model.specs.declared.script.Script.{Script}
use Rattle.raster_model.specs.declared.session.Session.{Session}
use Rattle.raster_model.specs.Masks.{open_at}
use Rattle.report_text.specs.Certified.{IsCertifiedReport}
use Rattle.report_text.specs.Reports.{ReportOf}
use Rattle.report_text.specs.Same.{IsSameReport}
use Rattle.text_parts.specs.Terms.{terms_of}
use Rattle.report_check.specs.declared.verdict.CheckVerdict.{CheckVerdict}
use Rattle.report_check.specs.Verdicts.{IsCheckVerdict}

-- two planes have one size, one maxval and the same samples
pub record IsSamePlane (p q : Plane) : Type 0 where
  pub width : p.width ≡ q.width
  pub height : p.height ≡ q.height
  pub maxval : p.maxval ≡ q.maxval
  pub samples : p.samples.items ≡ q.samples.items

-- the commands of each analyst
abbrev pub commands_in : List Script → List (List Command)
commands_in scripts = map (λ script. script.commands.items) scripts

-- two sessions tell the same: equal planes, rule, side, terms and commands, and the same pixels open at first
pub record IsSameInput (s t : Session) : Type 0 where
  pub phase : IsSamePlane s.scene.phase t.scene.phase
  pub weights : IsSamePlane s.scene.weights t.scene.weights
  pub rule : s.scene.rule ≡ t.scene.rule
  pub side : s.scene.tiling.side ≡ t.scene.tiling.side
  pub terms : terms_of s.scene.terms ≡ terms_of t.scene.terms
  pub commands : commands_in s.scripts.items ≡ commands_in t.scripts.items
  pub unmasked : (x y : ℕ) → x < s.scene.phase.width → y < s.scene.phase.height → open_at s.first_mask x y ≡ open_at t.first_mask x y

-- a report that equals one that is certified for a session is certified for it
abbrev pub EqualReportsAreCertifiedAlike : Type 0
EqualReportsAreCertifiedAlike = (session : Session) (v w : ReportOf) → IsSameReport v w → IsCertifiedReport session v → IsCertifiedReport session w

-- where a report is certified for a session, each report that tells the same is certified for each session that tells the same
abbrev pub AcceptanceIsOfTexts : Type 0
AcceptanceIsOfTexts = (s t : Session) (v w : ReportOf) → IsSameInput s t → IsSameReport v w → IsCertifiedReport s v → IsCertifiedReport t w

-- the verdict on a report is the same for all that tells the same
abbrev pub VerdictIsOfTexts : Type 0
VerdictIsOfTexts = (s t : Session) (v w : ReportOf) (verdict : CheckVerdict) → IsSameInput s t → IsSameReport v w → IsCheckVerdict s v verdict → IsCheckVerdict t w verdict
