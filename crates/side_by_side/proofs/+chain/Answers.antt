use Rattle.std.specs.Fork.{AcceptsAt, ChangesAt}
use Rattle.side_by_side.proofs.ChainLemmas.{all_done, rest_ready}
use Rattle.side_by_side.proofs.+chain.Goals as goal

pub each_from-first_beside-requires-clause-rest : goal.each_from-first_beside-requires-clause-rest
each_from-first_beside-requires-clause-rest g t c κs within = rest_ready (AcceptsAt g.F.Fn c.args.f.now) c.args.place _ _ _ c.split_at_mut-first.ensures.value c.split_at_mut-first.ensures.front_len c.requires.ready

pub each_from-returns-clause-done : goal.each_from-returns-clause-done
each_from-returns-clause-done g t c = all_done (ChangesAt g.F.Fn c.args.f.now) c.args.place _ _ _ _ _ c.split_at_mut-first.ensures.value c.split_at_mut-first.ensures.front_len c.first_beside.ensures.first c.first_beside.ensures.rest
