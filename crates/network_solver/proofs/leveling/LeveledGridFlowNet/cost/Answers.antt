use Rattle.std.proofs.Common.{◌≡◌, ◌≤◌, ◌^◌, ◌∙◌, ℕ, ap, arith, rules, FitsSigned, to_z, of_z, w64}
use Rattle.std.specs.Prelude.{ℤ, ◌+ℤ◌, ◌-ℤ◌, unsigned_abs}
use Rattle.std.proofs.lemmas.Int.{ints, to_z-of_z}
use Rattle.flow_network.specs.Nets.{tail_of}
use Rattle.dual_grid.specs.Layout.{number_or_zero}
use Rattle.dual_grid.specs.Views.{grid_shape}
use Rattle.dual_grid.proofs.ReadLemmas.{read_64}
use Rattle.network_solver.proofs.leveling.LeveledGridFlowNet.cost.Goals as goal
use Rattle.network_solver.proofs.leveling.LeveledGridFlowNet.cost.Goals.{After-cost}

pub index-tail-requires : goal.index-tail-requires
index-tail-requires c =
    let x = c.args.self.now in
    let net = x.grid.is_network in
    let below = net.ends ((grid_shape x.grid).twin c.args.arc) (net.has_twin c.args.arc c.requires) in
    omega (arith, below, c.tail.ensures, x.count, x.base.ok.0)

-- what code reads and adds up
tail_read : (c : After-cost) → to_z w64 (of_z w64 c.index-tail.result.now) ≡ number_or_zero c.args.self.now.base.items (tail_of (grid_shape c.args.self.now.grid) c.args.arc)
tail_read c =
    let x = c.args.self.now in
    let net = x.grid.is_network in
    let below = net.ends ((grid_shape x.grid).twin c.args.arc) (net.has_twin c.args.arc c.requires) in
    let fits : FitsSigned w64 c.index-tail.result.now = search rules in
    read_64 x.base.items c.tail.result c.index-tail.result.now fits (omega (arith, below, c.tail.ensures, x.count)) c.index-tail.ensures ∙ ap (λ (u : ℕ). number_or_zero x.base.items u) c.tail.ensures

head_read : (c : After-cost) → to_z w64 (of_z w64 c.index-head.result.now) ≡ number_or_zero c.args.self.now.base.items ((grid_shape c.args.self.now.grid).head c.args.arc)
head_read c =
    let x = c.args.self.now in
    let below = x.grid.is_network.ends c.args.arc c.requires in
    let fits : FitsSigned w64 c.index-head.result.now = search rules in
    read_64 x.base.items c.head.result c.index-head.result.now fits (omega (arith, below, c.head.ensures, x.count)) c.index-head.ensures ∙ ap (λ (u : ℕ). number_or_zero x.base.items u) c.head.ensures

cost_read : (c : After-cost) → to_z w64 (of_z w64 c.cost.result) ≡ (grid_shape c.args.self.now.grid).cost c.args.arc
cost_read c = let fits : FitsSigned w64 c.cost.result = search rules in to_z-of_z w64 c.cost.result fits ∙ c.cost.ensures

cost_small : (c : After-cost) → unsigned_abs ((grid_shape c.args.self.now.grid).cost c.args.arc) ≤ 2 ^ 40
cost_small c = let g = c.args.self.now.grid in g.room.costs c.args.arc (g.is_network.below c.args.arc c.requires)

sum_fits : (c t k i : ℤ) → k ≡ c → i ≡ t → unsigned_abs c ≤ 2 ^ 40 → unsigned_abs t ≤ 2 ^ 30 → FitsSigned w64 (k +ℤ i)
sum_fits c t k i p q l m = omega (arith, ints, p, q, l, m)

rest_fits : (c t h k i j : ℤ) → k ≡ c → i ≡ t → j ≡ h → unsigned_abs c ≤ 2 ^ 40 → unsigned_abs t ≤ 2 ^ 30 → unsigned_abs h ≤ 2 ^ 30 → FitsSigned w64 (to_z w64 (of_z w64 (k +ℤ i)) -ℤ j)
rest_fits c t h k i j p q r l m n = let sum = to_z-of_z w64 (k +ℤ i) (sum_fits c t k i p q l m) in omega (arith, ints, sum, p, q, r, l, m, n)

all_is : (c t h k i j : ℤ) → k ≡ c → i ≡ t → j ≡ h → unsigned_abs c ≤ 2 ^ 40 → unsigned_abs t ≤ 2 ^ 30 → unsigned_abs h ≤ 2 ^ 30 → to_z w64 (of_z w64 (to_z w64 (of_z w64 (k +ℤ i)) -ℤ j)) ≡ c +ℤ t -ℤ h
all_is c t h k i j p q r l m n =
    let sum = to_z-of_z w64 (k +ℤ i) (sum_fits c t k i p q l m) in
    let all = to_z-of_z w64 (to_z w64 (of_z w64 (k +ℤ i)) -ℤ j) (rest_fits c t h k i j p q r l m n) in
    omega (arith, ints, all, sum, p, q, r)

pub overflow_add-result : goal.overflow_add-result
overflow_add-result c =
    let p = (goal.at.overflow_add-result c).After-cost in
    let x = c.args.self.now in
    sum_fits _ _ _ _ (cost_read p) (tail_read p) (cost_small p) (x.low (tail_of (grid_shape x.grid) c.args.arc))

pub overflow_sub-result : goal.overflow_sub-result
overflow_sub-result c =
    let p = (goal.at.overflow_sub-result c).After-cost in
    let x = c.args.self.now in
    rest_fits _ _ _ _ _ _ (cost_read p) (tail_read p) (head_read p) (cost_small p) (x.low (tail_of (grid_shape x.grid) c.args.arc)) (x.low ((grid_shape x.grid).head c.args.arc))

pub returns : goal.returns
returns c =
    let p = (goal.at.returns c).After-cost in
    let x = c.args.self.now in
    all_is _ _ _ _ _ _ (cost_read p) (tail_read p) (head_read p) (cost_small p) (x.low (tail_of (grid_shape x.grid) c.args.arc)) (x.low ((grid_shape x.grid).head c.args.arc))
