use Rattle.std.specs.Fork.{ChangesAt}
use Rattle.side_by_side.proofs.ChainLemmas.{one_done}
use Rattle.side_by_side.proofs.at_one.Goals as goal

pub returns : goal.returns
returns g c = one_done (ChangesAt g.F.Fn c.args.f.now) c.args.place c.args.items.now c.call.new.item _ c.requires.one c.call.ensures
