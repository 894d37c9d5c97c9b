use Rattle.std.proofs.Common.{◌≡◌, ◌%◌, ◌∙◌, sym, true, false}
use Rattle.dual_grid.specs.Grids.{leads_forth}
use Rattle.dual_grid.specs.Layout.{weight_in}
use Rattle.dual_grid.proofs.ArcLemmas.{tail_is}
use Rattle.dual_grid.proofs.grid.DualGridFlowNet.tail.Goals as goal

pub returns-then-leads_forth : goal.returns-then-leads_forth
returns-then-leads_forth c =
    let g = c.args.self.now in
    let t : leads_forth (c.args.arc % 8) ≡ true = sym c.leads_forth.ensures ∙ c.if-leads_forth.true in
    c.first_at.ensures ∙ sym (rw t at (tail_is g.window g.steep (weight_in g.weights.items) c.args.arc c.requires))

pub returns-else-leads_forth : goal.returns-else-leads_forth
returns-else-leads_forth c =
    let g = c.args.self.now in
    let t : leads_forth (c.args.arc % 8) ≡ false = sym c.leads_forth.ensures ∙ c.if-leads_forth.false in
    c.other_at.ensures ∙ sym (rw t at (tail_is g.window g.steep (weight_in g.weights.items) c.args.arc c.requires))
