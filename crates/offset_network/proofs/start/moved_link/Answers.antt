use Rattle.offset_network.proofs.start.moved_link.Goals as goal

pub moved_departure-requires-clause-fits : goal.moved_departure-requires-clause-fits
moved_departure-requires-clause-fits c = c.requires.fits c.in-Some.link c.in-Some.is
