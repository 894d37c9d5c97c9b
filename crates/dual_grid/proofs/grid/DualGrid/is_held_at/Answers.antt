use Rattle.std.proofs.Common.{◌≡◌, ◌≤◌, ◌∙◌, ℕ, ap₂, sym, arith, w32, w64, to_z, of_z}
use Rattle.std.specs.Prelude.{ℤ, ◌-ℤ◌, unsigned_abs}
use Rattle.std.proofs.lemmas.Int.{ints, to_z-of_z}
use Rattle.dual_grid.specs.Building.{IsHeldBy}
use Rattle.dual_grid.specs.Layout.{number_or_zero}
use Rattle.dual_grid.specs.Nodes.{edge_of}
use Rattle.dual_grid.proofs.NodeLemmas.{first_below, other_below}
use Rattle.dual_grid.proofs.grid.DualGrid.is_held_at.Goals as goal

pub bounds-potentials-first_at : goal.bounds-potentials-first_at
bounds-potentials-first_at c = let l = first_below c.args.self.now.window (edge_of c.args.self.now.window c.args.edge) in omega (arith, l, c.first_at.ensures, c.requires.nodes)

pub bounds-potentials-other_at : goal.bounds-potentials-other_at
bounds-potentials-other_at c = let l = other_below c.args.self.now.window (edge_of c.args.self.now.window c.args.edge) in omega (arith, l, c.other_at.ensures, c.requires.nodes)

-- a difference of low potentials in code at 64 bits
difference : (m n : ℤ) → unsigned_abs m ≤ 1073741824 → unsigned_abs n ≤ 1073741824 → to_z w64 (of_z w64 (to_z w64 (of_z w64 m) -ℤ to_z w64 (of_z w64 n))) ≡ m -ℤ n
difference m n k l = omega (arith, ints, k, l)

same : (s n m : ℕ) (d e k i : ℤ) → n ≡ m → d ≡ e → k ≡ i → IsHeldBy s n d k → IsHeldBy s m e i
same s n m d e k i p q r h = rw (p, q, r) at h

pub returns-clause-held : goal.returns-clause-held
returns-clause-held c =
    λ yes.
    let p = c.args.potentials.now in
    let read = difference (number_or_zero p c.other_at.result) (number_or_zero p c.first_at.result) (c.requires.low c.other_at.result) (c.requires.low c.first_at.result) in
    let sides = ap₂ (λ (i j : ℕ). number_or_zero p i -ℤ number_or_zero p j) c.other_at.ensures c.first_at.ensures in
    same c.args.self.now.steep _ _ _ _ _ _ c.weight.ensures (read ∙ sides) (to_z-of_z w32 c.args.flow c.ranges.flow) (c.is_tight.ensures.held c.args.self.now.steepness.0 yes)

pub returns-clause-told : goal.returns-clause-told
returns-clause-told c =
    λ held.
    let p = c.args.potentials.now in
    let read = difference (number_or_zero p c.other_at.result) (number_or_zero p c.first_at.result) (c.requires.low c.other_at.result) (c.requires.low c.first_at.result) in
    let sides = ap₂ (λ (i j : ℕ). number_or_zero p i -ℤ number_or_zero p j) c.other_at.ensures c.first_at.ensures in
    c.is_tight.ensures.told (same c.args.self.now.steep _ _ _ _ _ _ (sym c.weight.ensures) (sym (read ∙ sides)) (sym (to_z-of_z w32 c.args.flow c.ranges.flow)) held)
