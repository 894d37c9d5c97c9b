use Rattle.std.proofs.Common.{◌≡◌, ◌<◌, ◌≤◌, ◌^◌, ◌∙◌, arith, rules, FitsSigned, to_z, of_z, w64}
use Rattle.std.specs.Prelude.{ℤ, ◌-ℤ◌, unsigned_abs}
use Rattle.std.proofs.lemmas.Int.{ints, to_z-of_z}
use Rattle.dual_grid.specs.Layout.{number_or_zero}
use Rattle.dual_grid.proofs.ReadLemmas.{read_64}
use Rattle.network_solver.proofs.leveling.LeveledGridFlowNet.potential.Goals as goal

-- a difference in code at 64 bits
less_is : (p b k i : ℤ) → k ≡ p → i ≡ b → unsigned_abs p < 2 ^ 62 → unsigned_abs b ≤ 2 ^ 30 → to_z w64 (of_z w64 (k -ℤ i)) ≡ p -ℤ b
less_is p b k i e f l m = let all = to_z-of_z w64 (k -ℤ i) (omega (arith, ints, e, f, l, m)) in omega (arith, ints, all, e, f)

pub returns : goal.returns
returns c =
    let x = c.args.self.now in
    let fits : FitsSigned w64 c.potential.result = search rules in
    let read : FitsSigned w64 c.index.result.now = search rules in
    less_is (number_or_zero x.grid.potentials.items c.args.node) (number_or_zero x.base.items c.args.node) _ _ (to_z-of_z w64 c.potential.result fits ∙ c.potential.ensures)
    (read_64 x.base.items c.args.node c.index.result.now read (omega (arith, c.requires, x.count)) c.index.ensures) (x.grid.reach c.args.node) (x.low c.args.node)
