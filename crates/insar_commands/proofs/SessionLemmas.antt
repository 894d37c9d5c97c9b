-- A session that stands alone was read, and nothing is left.
use Rattle.std.proofs.Common.{◌≡◌, ℕ, ◌+◌, ◌∙◌, List, [], ◌∷◌, length, Option, Some, None, ap, sym, subst}
use Rattle.std.specs.Prelude.{IfSome}
use Rattle.edge_weights.specs.declared.settings.SceneSettings.{SceneSettings}
use Rattle.edge_weights.specs.Sessions.{HasSettings}
use Rattle.edge_weights.specs.declared.whole.WholeSession.{WholeSession}
use Rattle.insar_ports.specs.Bytes.{with_front}
use Rattle.insar_ports.specs.Calls.{Call}
use Rattle.insar_ports.proofs.CallLemmas.{at_told, if_told}
use Rattle.raster_model.specs.declared.session.Session.{Session}
use Rattle.raster_model.specs.declared.terms.Terms.{Terms}
use Rattle.raster_model.specs.declared.weights.RuleKind.{RuleKind}
use Rattle.insar_words.specs.Asked.{Options}
use Rattle.insar_words.specs.Requests.{options_of}
use Rattle.insar_words.specs.declared.settings.Settings.{Settings}
use Rattle.pgm_planes.specs.declared.fault.InputFault.{InputFault}
use Rattle.session_script.specs.declared.fault.SessionFault.{SessionFault}
use Rattle.session_script.specs.declared.fault.SessionFault.TheVariants as session_faults
use Rattle.session_script.specs.declared.session_use.SessionUse.{SessionUse}
use Rattle.session_script.specs.declared.session_use.SessionUse.TheVariants.{Alone}
use Rattle.session_script.specs.Causes.{HasLaidCause}
use Rattle.session_script.specs.Layouts.{Layout}
use Rattle.session_script.specs.Reaching.{Reaches}
use Rattle.session_script.specs.Sessions.{HasLaidFault, IsSessionLaid, SessionOf, session_of, whole_session_of}
use Rattle.session_script.proofs.ScriptAgain.{alone_ends}
use Rattle.text_parts.specs.Terms.{terms_of}
use Rattle.answer_lines.specs.Refusals.{session_refusal}
use Rattle.answer_lines.specs.declared.refusal.Refusal.{Refusal}
use Rattle.answer_lines.specs.declared.refusal.Refusal.TheVariants as refusals
use Rattle.insar_commands.specs.Causes.{HasReadCause}
use Rattle.insar_commands.specs.Options.{HasOptions, HasWholeOptions}
use Rattle.insar_commands.specs.Run.{ReadsAll}
use Rattle.insar_commands.specs.Unwrap.{IsGiven, IsInput}
use Rattle.insar_commands.specs.Whole.{IsWholeGiven, IsWholeInput}

pub nothing_left : (pending : List ℕ) (left : Option (List ℕ)) → with_front pending left ≡ Some [] → left ≡ Some []
nothing_left pending None e = absurd (cc)
nothing_left [] (Some rest) e = e
nothing_left (b ∷ pending) (Some rest) e = absurd (cc)

-- on a scene that the settings have made, a session is on their options
pub on_options : (settings : Settings) (scene : SceneSettings) (s : Session) → (scene.side ≡ settings.side) × ((scene.rule ≡ settings.rule) × (scene.terms ≡ settings.terms)) → HasSettings scene s.scene → HasOptions (options_of settings) s
on_options settings scene s is has =
    let terms = has.terms ∙ is.1.1 in
    record {
      rule = has.rule ∙ is.1.0;
      side = has.side ∙ is.0;
      ramp_x = ap (λ (t : Terms). t.ramp_x) terms;
      ramp_y = ap (λ (t : Terms). t.ramp_y) terms;
      steepness = ap (λ (t : Terms). t.steep) terms;
    }

-- read by the rule and on the terms of the settings, a session without tiles is on their options
pub on_whole_options : (settings : Settings) (s : WholeSession) → s.scene.rule ≡ settings.rule → s.scene.terms ≡ settings.terms → HasWholeOptions (options_of settings) s
on_whole_options settings s rule terms = record {
  rule = rule;
  ramp_x = ap (λ (t : Terms). t.ramp_x) terms;
  ramp_y = ap (λ (t : Terms). t.ramp_y) terms;
  steepness = ap (λ (t : Terms). t.steep) terms;
}

-- sessions on the same options have the same terms
pub same_terms : (options : Options) (s t : Session) → HasOptions options s → HasOptions options t → terms_of s.scene.terms ≡ terms_of t.scene.terms
same_terms options s t one other = λ i. record { ramp_x = (one.ramp_x ∙ sym other.ramp_x) i; ramp_y = (one.ramp_y ∙ sym other.ramp_y) i; steep = (one.steepness ∙ sym other.steepness) i }

-- a session that was read from a call is all that was told
module _ (c : Call) (pending : List ℕ) (left : Option (List ℕ)) (layout : Layout) (s : SessionOf) (is : c.left ≡ with_front pending left) where
  alone : (bytes rest : List ℕ) → c.left ≡ Some rest → IsSessionLaid Alone layout bytes s rest → IsSessionLaid Alone layout bytes s [] × (left ≡ Some [])
  alone bytes rest there spelled =
      let end : rest ≡ [] = alone_ends _ _ _ rest spelled.script in
      (subst (λ (r : List ℕ). IsSessionLaid Alone layout bytes s r) end spelled, nothing_left pending left (sym is ∙ there ∙ ap Some end))

  pub read_alone : Reaches c (λ bytes rest. IsSessionLaid Alone layout bytes s rest) → ReadsAll c.told left (λ bytes. IsSessionLaid Alone layout bytes s [])
  read_alone r = if_told c.told _ (λ bytes t. let h = at_told c.told _ bytes t r in alone bytes h.0 h.1.0 h.1.1.1)

-- and is on the options of the settings
pub given_alone : (settings : Settings) (scene : SceneSettings) (s : Session) → (scene.side ≡ settings.side) × ((scene.rule ≡ settings.rule) × (scene.terms ≡ settings.terms)) → HasSettings scene s.scene → (told left : Option (List ℕ)) → ReadsAll told left (λ bytes. IsInput scene.side bytes (session_of s)) → ReadsAll told left (λ bytes. IsGiven (options_of settings) bytes s)
given_alone settings scene s is has told left read = if_told told _ (λ bytes t.
    let h = at_told told _ bytes t read in
    (record { spelled = subst (λ (side : ℕ). IsInput side bytes (session_of s)) is.0 h.0; options_are = on_options settings scene s is has }, h.1))

pub given_whole : (settings : Settings) (s : WholeSession) → s.scene.rule ≡ settings.rule → s.scene.terms ≡ settings.terms → (told left : Option (List ℕ)) → ReadsAll told left (λ bytes. IsWholeInput bytes (whole_session_of s)) → ReadsAll told left (λ bytes. IsWholeGiven (options_of settings) bytes s)
given_whole settings s rule terms told left read = if_told told _ (λ bytes t.
    let h = at_told told _ bytes t read in
    (record { spelled = h.0; options_are = on_whole_options settings s rule terms }, h.1))

-- why a session was not read
pub session_cause : (usage : SessionUse) (layout : Layout) (Breaks : List ℕ → Refusal → Type 0) → ((bytes : List ℕ) (fault : InputFault) → HasLaidFault usage layout bytes fault → Breaks bytes (refusals.Input fault)) → (c : Call) (fault : SessionFault) → HasLaidCause usage layout c fault → HasReadCause Breaks c.told c.before c.after (session_refusal fault)
session_cause usage layout Breaks same c (session_faults.Input fault) h = if_told c.told _ (λ bytes t. same bytes fault (at_told c.told _ bytes t h))
session_cause usage layout Breaks same c session_faults.ReadFault h = h
session_cause usage layout Breaks same c session_faults.Memory h = tt

-- what a call reaches is reached where no more is taken
pub reaches_after : (a : Call) (left : Option (List ℕ)) (end : ℕ) (P : List ℕ → List ℕ → Type 0) → left ≡ a.left → end ≡ a.end → Reaches a P → IfSome a.told (λ bytes. (rest : List ℕ) × ((left ≡ Some rest) × ((end + length rest ≡ a.at + length bytes) × P bytes rest)))
reaches_after a left end P l e r = if_told a.told _ (λ bytes t. let h = at_told a.told _ bytes t r in (h.0, (l ∙ h.1.0, (ap (λ (n : ℕ). n + length h.0) e ∙ h.1.1.0, h.1.1.1))))
