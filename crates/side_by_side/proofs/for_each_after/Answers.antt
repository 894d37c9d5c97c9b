use Rattle.std.proofs.Common.{refl}
use Rattle.std.specs.Fork.{ChangesAt}
use Rattle.side_by_side.proofs.ChainLemmas.{joined_done}
use Rattle.side_by_side.proofs.for_each_after.Goals as goal

pub returns-clause-each : goal.returns-clause-each
returns-clause-each g c i d within =
    let cut = c.split_at_mut-others.ensures in
    (refl, joined_done (ChangesAt g.F.Fn c.args.f.now) _ _ _ _ _ _ i d cut.value cut.front_len within c.last_beside.ensures.others c.last_beside.ensures.last)
