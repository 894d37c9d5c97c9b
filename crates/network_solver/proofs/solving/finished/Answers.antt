use Rattle.std.proofs.Common.{ℕ, subst, sym}
use Rattle.std.proofs.lemmas.Result.{IfOk-weaker}
use Rattle.dual_grid.specs.declared.grid.DualGrid.{DualGrid}
use Rattle.dual_grid.specs.Answers.{IsNearStart, StaysNearStart}
use Rattle.dual_grid.specs.Grids.{HasSmallCosts, IsConnected}
use Rattle.dual_grid.specs.Layout.{number_or_zero}
use Rattle.dual_grid.specs.Views.{IsGridOf, grid_shape, grid_start, grid_state}
use Rattle.dual_grid.proofs.CallerLemmas.{grid_stays, start_stays}
use Rattle.flow_network.specs.Nets.{Shape, HasNoExcess}
use Rattle.network_solver.specs.Fresh.{CanBeBalanced}
use Rattle.network_solver.specs.Views.{shape_from, state_from}
use Rattle.network_solver.proofs.LevelLemmas.{leveled_bounded, leveled_near}
use Rattle.network_solver.proofs.solving.finished.Goals as goal
use Rattle.network_solver.proofs.solving.finished.Goals.{In_ok-leveled}

-- the grid, seen from where it stands, can be balanced
ready : (c : In_ok-leveled) → CanBeBalanced (grid_start c.in_ok-leveled.leveled.grid) (shape_from c.in_ok-leveled.leveled) (state_from c.in_ok-leveled.leveled)
ready c =
    let x = c.in_ok-leveled.leveled in
    let back = sym c.in_ok-leveled.ensures.grid in
    let base = number_or_zero x.base.items in
    let small = subst (λ (g : DualGrid). HasSmallCosts (grid_shape g)) back c.requires.small in
    record {
      flat = c.in_ok-leveled.ensures.flat;
      bounded = (2148532208, leveled_bounded (grid_shape x.grid) base small x.low);
      near = leveled_near (grid_shape x.grid) base (grid_start x.grid) (grid_state x.grid) (subst (λ (g : DualGrid). StaysNearStart (grid_start g) (grid_shape g) (grid_state g)) back c.requires.near);
      joined = subst (λ (g : DualGrid). IsConnected (grid_start g) (grid_shape g)) back c.requires.joined;
    }

pub empty-requires : goal.empty-requires
empty-requires c = (grid_start c.in_ok-leveled.leveled.grid, ready (goal.at.empty-requires c).In_ok-leveled)

pub answer-requires-clause-balanced : goal.answer-requires-clause-balanced
answer-requires-clause-balanced c = subst (λ (z : Shape). HasNoExcess z (grid_state c.empty.new.net.grid)) (sym c.empty.ensures.origin.shape) c.in_ok-empty.ensures.balanced

pub answer-requires-clause-near : goal.answer-requires-clause-near
answer-requires-clause-near c =
    let x = c.in_ok-leveled.leveled in
    let after = c.empty.new.net.grid in
    let near = c.empty.ensures.near (grid_start x.grid) (ready (goal.at.answer-requires-clause-near c).In_ok-leveled) in
    let start = start_stays x.grid after c.empty.ensures.origin in
    subst (λ (b : ℕ → ℕ). IsNearStart b (grid_shape after) (grid_state after)) (sym start) (subst (λ (z : Shape). IsNearStart (grid_start x.grid) z (grid_state after)) (sym c.empty.ensures.origin.shape) near)

pub returns : goal.returns
returns c =
    let x = c.in_ok-leveled.leveled in
    IfOk-weaker c.answer.result _ _ (λ made answers r v unmasked mask grid told. (
    let before = subst (λ (g : DualGrid). IsGridOf r v unmasked g) (sym c.in_ok-leveled.ensures.grid) grid in
    answers r v unmasked mask (grid_stays r v unmasked x.grid c.empty.new.net.grid c.empty.ensures.origin before) told)) c.answer.ensures
