use Rattle.std.proofs.Common.{◌≡◌, ◌≤◌, ◌∙◌, ap, arith, ℕ, to_z, of_z, w32}
use Rattle.std.specs.Prelude.{ℤ, pos, ◌-ℤ◌, unsigned_abs}
use Rattle.std.proofs.lemmas.Int.{ints}
use Rattle.dual_grid.specs.Grids.{along, amount_of}
use Rattle.dual_grid.proofs.arcs.residual_at.Goals as goal

-- a difference in code at 32 bits
plain : (most : ℕ) (a : ℤ) → most ≤ 268435456 → unsigned_abs a ≤ 268435457 → to_z w32 (of_z w32 (to_z w32 most -ℤ to_z w32 (of_z w32 a))) ≡ pos most -ℤ a
plain most a few small = omega (arith, ints, few, small)

pub returns-then-weight-eq0 : goal.returns-then-weight-eq0
returns-then-weight-eq0 c =
    let flow : to_z w32 (of_z w32 c.args.flow) ≡ c.args.flow = omega (arith, ints, c.requires.flow) in
    let along_is = c.along.ensures.value ∙ ap (λ (q : ℤ). along q c.args.place) flow in
    rw c.if-weight-eq0.true
    (c.from.ensures ∙ c.amount.ensures ∙ ap amount_of (plain c.args.most c.along.result c.requires.most c.along.ensures.within ∙ ap (λ (a : ℤ). pos c.args.most -ℤ a) along_is))
