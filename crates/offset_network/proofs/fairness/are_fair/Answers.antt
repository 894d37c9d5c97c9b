use Rattle.offset_network.proofs.fairness.are_fair.Goals as goal

pub is_fair-requires-clause-fits : goal.is_fair-requires-clause-fits
is_fair-requires-clause-fits c = c.requires.links.each c.loop-place.place
