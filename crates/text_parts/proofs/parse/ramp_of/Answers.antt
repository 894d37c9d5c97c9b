use Rattle.std.specs.Fmt.{signed_decimal}
use Rattle.std.specs.Prelude.{◌∷◌, ◌++◌, ℕ, ℤ, List, codes}
use Rattle.std.proofs.Common.{ap, ap₂, sym, ◌∙◌}
use Rattle.std.proofs.lemmas.List.Elements.{recursion_from_All}
use Rattle.text_lines.specs.Numbers.{number_text}
use Rattle.text_lines.proofs.FieldLemmas.{IsNoSpace}
use Rattle.text_lines.proofs.ParseLemmas.{none_behind, none_in_front, not_stripped, stripped}
use Rattle.text_parts.specs.Parts.{IsRamp}
use Rattle.text_parts.proofs.UniqueLemmas.{ramp_parts}
use Rattle.text_parts.proofs.LineLemmas.{slope_is}
use Rattle.text_parts.proofs.parse.ramp_of.Goals as goal

-- the slopes behind their word
abbrev slopes_text : ℤ × ℤ → List ℕ
slopes_text ramp = number_text ramp.0 ++ number_text ramp.1

pub returns-in_err-strip_prefix : goal.returns-in_err-strip_prefix
returns-in_err-strip_prefix c =
    rw c.from_residual.ensures (none_in_front IsRamp slopes_text (codes "ramp") c.args.line.now (not_stripped c.args.line.now (codes "ramp") c.in_err-strip_prefix.ensures.cases))

pub returns-in_err-across : goal.returns-in_err-across
unfolding number_text
returns-in_err-across c =
    let line = stripped c.args.line.now (codes "ramp") c.in_ok-strip_prefix.field-0 c.in_ok-strip_prefix.ensures.cases in
    rw c.from_residual-in_err-across.ensures (none_behind IsRamp slopes_text (codes "ramp") c.args.line.now _ line (λ p w e. c.in_err-across.ensures (signed_decimal p.0 ++ number_text p.1) e))

pub returns-in_err-slope_of : goal.returns-in_err-slope_of
returns-in_err-slope_of c =
    let line = stripped c.args.line.now (codes "ramp") c.in_ok-strip_prefix.field-0 c.in_ok-strip_prefix.ensures.cases in
    let s = c.in_ok-across.ensures in
    let token = c.in_ok-across.across.now in
    rw c.from_residual-in_err-slope_of.ensures (none_behind IsRamp slopes_text (codes "ramp") c.args.line.now _ line (λ p w e. c.in_err-slope_of.ensures p.0 w.0 (ramp_parts token c.in_ok-across.along.now p w (recursion_from_All IsNoSpace token s.0) s.1 (sym s.2 ∙ e)).0))

pub returns-in_err-last_slope : goal.returns-in_err-last_slope
returns-in_err-last_slope c =
    let line = stripped c.args.line.now (codes "ramp") c.in_ok-strip_prefix.field-0 c.in_ok-strip_prefix.ensures.cases in
    let s = c.in_ok-across.ensures in
    let token = c.in_ok-across.across.now in
    rw c.from_residual-in_err-last_slope.ensures (none_behind IsRamp slopes_text (codes "ramp") c.args.line.now _ line (λ p w e. c.in_err-last_slope.ensures p.1 w.1 (ramp_parts token c.in_ok-across.along.now p w (recursion_from_All IsNoSpace token s.0) s.1 (sym s.2 ∙ e)).1))

pub returns : goal.returns
unfolding number_text
returns c =
    let line = stripped c.args.line.now (codes "ramp") c.in_ok-strip_prefix.field-0 c.in_ok-strip_prefix.ensures.cases in
    let s = c.in_ok-across.ensures in
    let a = c.in_ok-slope_of.ensures in
    let b = c.in_ok-last_slope.ensures in
    rw (slope_is c.in_ok-slope_of.field-0 a.0, slope_is c.in_ok-last_slope.field-0 b.0) ((a.0, b.0), line ∙ ap (λ (l : List ℕ). codes "ramp" ++ l) (s.2 ∙ ap₂ (λ (l m : List ℕ). 32 ∷ (l ++ m)) a.1 b.1))
