use Rattle.std.proofs.Common.{◌≡◌, ◌*◌, ◌/◌, ◌%◌, ◌∙◌, subst, sym, arith, refl, ℕ, true, false}
use Rattle.std.specs.Prelude.{Option, Some, None}
use Rattle.std.specs.Option.{is_some}
use Rattle.std.proofs.lemmas.Nat.{div-add-mod'}
use Rattle.flow_network.specs.Nets.{IsNextBelow, NoneBetween}
use Rattle.dual_grid.specs.Views.{grid_shape}
use Rattle.dual_grid.proofs.OutLemmas.{next_here, next_over}
use Rattle.dual_grid.proofs.grid.DualGrid.out_below.Goals as goal

is_none : (o : Option ℕ) → is_some o ≡ true → o ≡ None → ⊥
is_none (Some a) t e = cc
is_none None t e = cc

none_is : (o : Option ℕ) → is_some o ≡ false → o ≡ None
none_is (Some a) t = absurd cc
none_is None t = refl

pub returns-then-high-eq0 : goal.returns-then-high-eq0
returns-then-high-eq0 c =
    let e : c.args.high / 8 * 8 ≡ c.args.high = omega arith in
    subst (λ (k : ℕ). IsNextBelow (grid_shape c.args.self.now) c.args.node k c.out_before.result) e c.out_before.ensures

pub returns-then-is_some : goal.returns-then-is_some
returns-then-is_some c =
    subst (λ (k : ℕ). IsNextBelow (grid_shape c.args.self.now) c.args.node k c.out_across-here.result) (div-add-mod' c.args.high 8)
    (next_here (grid_shape c.args.self.now) c.args.node (c.args.high / 8) (c.args.high % 8) c.out_across-here.result c.out_across-here.ensures
    (λ e. is_none c.out_across-here.result (sym c.is_some.ensures ∙ c.if-is_some.true) e))

pub returns-else-is_some : goal.returns-else-is_some
returns-else-is_some c =
    let s = grid_shape c.args.self.now in
    let split = div-add-mod' c.args.high 8 in
    next_over s c.args.node (c.args.high / 8 * 8) c.args.high c.out_before-else-is_some.result (omega arith)
    (subst (λ (k : ℕ). NoneBetween s c.args.node (c.args.high / 8 * 8) k) split (c.out_across-here.ensures.ended (none_is c.out_across-here.result (sym c.is_some.ensures ∙ c.if-is_some.false))))
    c.out_before-else-is_some.ensures
