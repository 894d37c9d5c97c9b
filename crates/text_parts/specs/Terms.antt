-- The terms as a text tells them.
use Rattle.std.specs.Prelude.{◌≡◌, ℕ, ℤ}
use Rattle.raster_model.specs.declared.session.Session.{Session}
use Rattle.raster_model.specs.declared.terms.Terms.{Terms}
use Rattle.raster_model.specs.declared.weights.RuleKind.{RuleKind}

-- what an expected ramp rises along a right and along a down edge, and the steepness of costs
pub record TermsOf : Type 0 where
  pub ramp_x : ℤ
  pub ramp_y : ℤ
  pub steep : ℕ

abbrev pub terms_of : Terms → TermsOf
terms_of terms = record { ramp_x = terms.ramp_x; ramp_y = terms.ramp_y; steep = terms.steep }

-- they are a session's: its rule, its ramp, its steepness
abbrev pub HasRuleOf : Session → RuleKind → Type 0
HasRuleOf session rule = rule ≡ session.scene.rule

abbrev pub HasRampOf : Session → TermsOf → Type 0
HasRampOf session told = (told.ramp_x ≡ session.scene.terms.ramp_x) × (told.ramp_y ≡ session.scene.terms.ramp_y)

abbrev pub HasSteepnessOf : Session → TermsOf → Type 0
HasSteepnessOf session told = told.steep ≡ session.scene.terms.steep
