use Rattle.std.proofs.Common.{ℕ, subst, sym}
use Rattle.std.proofs.lemmas.Result.{IfOk-weaker}
use Rattle.raster_model.specs.Sheets.{sheet_raster}
use Rattle.dual_grid.specs.Answers.{IsNearStart}
use Rattle.dual_grid.specs.Views.{grid_shape, grid_start, grid_state}
use Rattle.dual_grid.proofs.CallerLemmas.{grid_stays, start_stays}
use Rattle.flow_network.specs.Nets.{Shape, HasNoExcess}
use Rattle.network_solver.specs.Fresh.{CanBeBalanced}
use Rattle.network_solver.proofs.BlockLemmas.{fresh_near, small_bounded}
use Rattle.network_solver.proofs.solving.network_corrections.Goals as goal
use Rattle.network_solver.proofs.solving.network_corrections.Goals.{In_ok-grid}

-- the grid that is made can be balanced
ready : (c : In_ok-grid) → CanBeBalanced (grid_start c.in_ok-grid.grid) (grid_shape c.in_ok-grid.grid) (grid_state c.in_ok-grid.grid)
ready c =
    let made = c.in_ok-grid.ensures in
    record { flat = made.start.potential; bounded = (1048560, small_bounded (grid_shape c.in_ok-grid.grid) made.small); near = fresh_near (grid_start c.in_ok-grid.grid) (grid_shape c.in_ok-grid.grid) (grid_state c.in_ok-grid.grid) made.start.residual made.few; joined = made.joined }

pub empty-requires : goal.empty-requires
empty-requires c = (grid_start c.in_ok-grid.grid, ready (goal.at.empty-requires c).In_ok-grid)

pub answer-requires-clause-balanced : goal.answer-requires-clause-balanced
answer-requires-clause-balanced c = subst (λ (z : Shape). HasNoExcess z (grid_state c.empty.new.net)) (sym c.empty.ensures.shape) c.in_ok-empty.ensures.balanced

pub answer-requires-clause-near : goal.answer-requires-clause-near
answer-requires-clause-near c =
    let near = c.empty.ensures.near (grid_start c.in_ok-grid.grid) (ready (goal.at.answer-requires-clause-near c).In_ok-grid) in
    let start = start_stays c.in_ok-grid.grid c.empty.new.net c.empty.ensures.origin in
    subst (λ (b : ℕ → ℕ). IsNearStart b (grid_shape c.empty.new.net) (grid_state c.empty.new.net)) (sym start) (subst (λ (z : Shape). IsNearStart (grid_start c.in_ok-grid.grid) z (grid_state c.empty.new.net)) (sym c.empty.ensures.shape) near)

pub returns : goal.returns
returns c =
    let r = sheet_raster c.args.sheet.now in
    let v = c.args.gradients.now.window in
    let u = c.args.unmasked.now in
    let grid = grid_stays r v u c.in_ok-grid.grid c.empty.new.net c.empty.ensures.origin c.in_ok-grid.ensures.grid in
    IfOk-weaker c.answer.result _ _ (λ made answers mask told. answers r v u mask grid told) c.answer.ensures
