-- The head of a report: its terms by their numbers, and the one line of it that is the first to differ.
use Rattle.std.proofs.Common.{◌≡◌, ℕ, refl, ap, arith}
use Rattle.raster_model.specs.declared.session.Session.{Session}
use Rattle.report_text.specs.Certified.{IsCertifiedReport}
use Rattle.report_text.specs.Reports.{ReportOf}
use Rattle.text_parts.specs.Terms.{TermsOf, terms_of}
use Rattle.report_check.specs.Verdicts.{DiffersAt, HasHeadOf}

-- ---- terms are equal exactly if their numbers are
pub terms_alike : {t u : TermsOf} → t.ramp_x ≡ u.ramp_x → t.ramp_y ≡ u.ramp_y → t.steep ≡ u.steep → t ≡ u
terms_alike {t} {u} x y steep = rw (x, y, steep) refl

pub numbers_alike : {t u : TermsOf} → t ≡ u → (t.ramp_x ≡ u.ramp_x) × (t.ramp_y ≡ u.ramp_y) × (t.steep ≡ u.steep)
numbers_alike e = (ap (λ (t : TermsOf). t.ramp_x) e, ap (λ (t : TermsOf). t.ramp_y) e, ap (λ (t : TermsOf). t.steep) e)

module _ (s : Session) (v : ReportOf) where
  pub terms_of_head : HasHeadOf s v → v.terms ≡ terms_of s.scene.terms
  terms_of_head h = terms_alike h.ramp.0 h.ramp.1 h.steepness

  pub head_of : IsCertifiedReport s v → HasHeadOf s v
  head_of c = (let numbers = numbers_alike c.terms in record { size = (c.width, c.height); side = c.side; rule = c.rule; ramp = (numbers.0, numbers.1); steepness = numbers.2 })

  -- ---- the first line that differs
  pub no_difference : (n : ℕ) → HasHeadOf s v → DiffersAt s v n → ⊥
  no_difference n h d = grind arith

  pub one_difference : (m n : ℕ) → DiffersAt s v m → DiffersAt s v n → m ≡ n
  one_difference m n d e = grind arith
