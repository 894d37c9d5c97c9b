use Rattle.std.proofs.Common.{subst, ◌≡◌, List, []}
use Rattle.insar_ports.specs.Calls.{Takes, call_of}
use Rattle.grid_writer.specs.Grids.{GridOf}
use Rattle.grid_writer.specs.ManyGrids.{AreGrids, text_of_grids}
use Rattle.insar_commands.proofs.NearestLemmas.{one_grid}
use Rattle.insar_commands.proofs.nearest.read_last_grid.Goals as goal

pub returns-clause-read : goal.returns-clause-read
returns-clause-read g c =
    let is = one_grid c.in_ok-grids.grids.items c.pop.new.self.items c.in-Some.grid c.in_ok-grids.ensures.fits.2.count c.in-Some.ensures.items in
    subst (λ (l : List GridOf). Takes (call_of g.S.Source.left g.S.Source.faults c.args.feed.now c.read_grids.new.feed) (λ text rest. (text ≡ text_of_grids l) × (rest ≡ []))) is c.in_ok-grids.ensures.read

pub returns-clause-fits : goal.returns-clause-fits
returns-clause-fits g c =
    let is = one_grid c.in_ok-grids.grids.items c.pop.new.self.items c.in-Some.grid c.in_ok-grids.ensures.fits.2.count c.in-Some.ensures.items in
    let are = c.in_ok-grids.ensures.fits in
    (are.0, are.1, subst (AreGrids 1 are.0 are.1) is are.2)
