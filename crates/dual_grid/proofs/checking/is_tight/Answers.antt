use Rattle.std.proofs.Common.{refl, ◌≡◌, ◌∙◌, ◌*◌, sym, ap, arith, w32, w64, to_z, of_z, rules}
use Rattle.std.specs.Prelude.{ℤ, unsigned_abs}
use Rattle.std.proofs.lemmas.Bool.{eqb-true}
use Rattle.std.proofs.lemmas.Int.{to_z-of_z}
use Rattle.dual_grid.proofs.CheckLemmas.{more_tight}
use Rattle.dual_grid.proofs.checking.is_tight.Goals as goal

-- more than one cycle, and the whole of the steepness times the weight
pub returns-else-unsigned_abs-eq1-clause-tight : goal.returns-else-unsigned_abs-eq1-clause-tight
returns-else-unsigned_abs-eq1-clause-tight c =
    λ same.
    let d = c.args.difference in
    let k = c.args.correction in
    let difference : to_z w64 (of_z w64 d) ≡ d = to_z-of_z w64 d (search rules) in
    let correction : to_z w32 (of_z w32 k) ≡ k = to_z-of_z w32 k (search rules) in
    let size : c.unsigned_abs-size.result ≡ unsigned_abs d = c.unsigned_abs-size.ensures.value ∙ ap unsigned_abs difference in
    let most : unsigned_abs d ≡ c.args.steep * c.args.weight = sym size ∙ eqb-true _ _ same ∙ rw (c.from.ensures, c.from-weight.ensures) refl in
    more_tight c.args.steep c.args.weight d k (λ e. c.if-correction-eq0.false (ap (λ (z : ℤ). of_z w32 z) e)) (omega (arith, size, c.from-weight.ensures, c.if-size-weight.false)) most (rw (correction, difference) at (c.goes_along.ensures.product c.if-not-goes_along.false))
