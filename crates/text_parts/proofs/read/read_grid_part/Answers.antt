use Rattle.text_parts.proofs.PartForms.{grid_reads}
use Rattle.text_parts.proofs.read.read_grid_part.Goals as goal

pub returns-clause-read : goal.returns-clause-read
returns-clause-read g c =
    let e = c.read_sized_grid.ensures in
    grid_reads c.args.width c.args.height c.read_sized_grid.result (record { source = e.same_source; limit = e.same_limit; moves = e.moves }) e.size e.fits e.read e.refused
