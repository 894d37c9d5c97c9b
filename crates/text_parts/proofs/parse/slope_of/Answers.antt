use Rattle.std.specs.Prelude.{◌≡◌, FitsSigned}
use Rattle.std.proofs.Common.{rules, sym, ◌∙◌}
use Rattle.std.proofs.lemmas.Fmt.{signed_decimal_injective}
use Rattle.std.proofs.lemmas.Int.{to_z-of_z}
use mir.Syntax.{w64}
use Rattle.text_lines.proofs.DigitLemmas.{not_in_range}
use Rattle.text_lines.proofs.NumberLemmas.{magnitude}
use Rattle.text_parts.proofs.LineLemmas.{slope_long, slope_short}
use Rattle.text_parts.proofs.parse.slope_of.Goals as goal

pub returns-in_err-slope : goal.returns-in_err-slope
returns-in_err-slope c =
    let m = c.in_ok-number_of.field-0 in
    let long : FitsSigned w64 m = search rules in
    rw c.from_residual-in_err-slope.ensures (λ n s e.
    let same : n ≡ m = signed_decimal_injective n m (magnitude n (slope_long n s)) (magnitude m long) (sym e ∙ c.in_ok-number_of.ensures.found) in
    not_in_range c.try_from.result _ _ c.in_err-slope.ensures.value c.try_from.ensures (rw (to_z-of_z w64 m long, ← same) (slope_short n s)))
