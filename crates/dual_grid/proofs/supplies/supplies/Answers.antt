use Rattle.std.proofs.Common.{◌≡◌, ◌∙◌, ap, subst, sym, arith, rules, List, length, ℤ, to_z, of_z, w64, SFits}
use Rattle.std.specs.Prelude.{neg_ℤ}
use Rattle.std.proofs.lemmas.Int.{to_z-of_z}
use Rattle.wrapped_gradient.specs.Gradients.{residue_at}
use Rattle.dual_grid.specs.Building.{AreCellSupplies, sum_of_first}
use Rattle.dual_grid.proofs.EdgeLemmas.{few_cells}
use Rattle.dual_grid.proofs.SupplyLemmas.{listed_supplies}
use Rattle.dual_grid.proofs.supplies.supplies.Goals as goal

pub minus_sum-rest-requires-clause-few : goal.minus_sum-rest-requires-clause-few
minus_sum-rest-requires-clause-few c =
    let count = c.in_ok-supplies.ensures.rows.0 in
    omega (arith, ap (λ (zs : List ℤ). length zs) c.deref.ensures.value, count, few_cells c.args.gradients.now.window c.requires)

pub returns : goal.returns
returns c =
    let zs = c.in_ok-supplies.supplies.items in
    let fits : SFits w64 c.minus_sum-rest.result = search rules in
    let same : c.deref.result.now ≡ zs = c.deref.ensures.value in
    let rest : c.minus_sum-rest.result ≡ neg_ℤ (sum_of_first zs (length zs)) = rw same at c.minus_sum-rest.ensures in
    subst (AreCellSupplies (residue_at c.args.gradients.now) c.args.gradients.now.window) (sym {A = List ℤ} c.in_ok-push.ensures.items)
    (listed_supplies (residue_at c.args.gradients.now) c.args.gradients.now.window zs (to_z w64 (of_z w64 c.minus_sum-rest.result)) c.in_ok-supplies.ensures.rows (to_z-of_z w64 c.minus_sum-rest.result fits ∙ rest))
