-- A session that was read, and the same with a screened first mask.
use Rattle.std.proofs.Common.{◌≡◌, ℕ, refl, subst}
use Rattle.std.specs.Prelude.{IfSome}
use Rattle.insar_ports.proofs.CallLemmas.{at_told, if_told}
use Rattle.raster_model.specs.declared.session.Session.{Session}
use Rattle.session_script.specs.Sessions.{session_of}
use Rattle.session_script.specs.Text.{session_text}
use Rattle.insar_words.specs.declared.screening.Screening.{Screening}
use Rattle.insar_words.specs.declared.settings.Settings.{Settings}
use Rattle.insar_words.specs.Requests.{options_of}
use Rattle.insar_words.specs.declared.request.Request.TheVariants.{Screen}
use Rattle.insar_commands.specs.Answers.{IsAnswerTo, IsUsedUp}
use Rattle.insar_commands.specs.Run.{ReadsAll, Run}
use Rattle.insar_commands.specs.Screen.{HasScreenedMask, screen_terms}
use Rattle.insar_commands.specs.Unwrap.{IsGiven, IsInput}

-- it answers
pub screen_ready : (s : Screening) (settings : Settings) (r : Run) (session screened : Session) → settings.side ≡ s.side → ReadsAll r.told r.left (λ bytes. IsGiven (options_of settings) bytes session) → HasScreenedMask (screen_terms s) session screened
    → IfSome r.told (λ bytes. IsAnswerTo (Screen s) bytes 0 (session_text (session_of screened)) × IsUsedUp (Screen s) r)
screen_ready s settings r session screened is read changed = if_told r.told _ (λ bytes t. let h = at_told r.told _ bytes t read in ((refl, record { session = session; screened = screened; spelled = subst (λ (side : ℕ). IsInput side bytes (session_of session)) is h.0.spelled; changed = changed; written = refl }), h.1))
