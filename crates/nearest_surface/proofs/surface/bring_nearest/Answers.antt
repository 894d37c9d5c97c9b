use Rattle.std.proofs.Common.{arith}
use Rattle.grid_writer.specs.Grids.{grid_of, value_at}
use Rattle.nearest_surface.specs.Nearest.{masked_phase}
use Rattle.nearest_surface.proofs.LawLemmas.{either_answer}
use Rattle.nearest_surface.proofs.PlaceLemmas.{surface_is}
use Rattle.nearest_surface.proofs.surface.bring_nearest.Goals as goal

pub returns-in-None-clause-exact : goal.returns-in-None-clause-exact
returns-in-None-clause-exact c =
    let p = masked_phase c.args.phase.now c.args.mask.now in
    let g = c.args.given in
    let across = c.if-given-phase.false in
    let along = c.if-given-phase-2.false in
    let stand = rw c.deref_mut.ensures.value at c.in-None.ensures.stand in
    let surface = surface_is p g.width g.height (omega (arith, across)) (omega (arith, along)) g.values.items c.bring_values.new.values c.in_default.ensures.none stand in
    λ fault cause. absurd (either_answer p (grid_of g) (record { width = g.width; height = g.height; values = value_at g.width c.bring_values.new.values }) fault surface cause)
