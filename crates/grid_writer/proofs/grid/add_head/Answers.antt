use Rattle.grid_writer.proofs.grid.add_head.Goals as goal

pub returns-clause-added : goal.returns-clause-added
returns-clause-added g c = rw (c.width.ensures.width, c.height.ensures) at c.add_header.ensures
