use Rattle.std.proofs.lemmas.Result.{IfOk-weaker}
use Rattle.surface_snapshots.specs.Views.{parts_of}
use Rattle.surface_snapshots.proofs.CallerLemmas.{published_is_best}
use Rattle.surface_snapshots.proofs.snapshot.Snapshot.build_certified.Goals as goal

pub certified_costs-requires-clause-certified : goal.certified_costs-requires-clause-certified
certified_costs-requires-clause-certified g c κs within = rw c.deref.ensures c.requires.certified

pub returns-clause-best : goal.returns-clause-best
returns-clause-best g c = IfOk-weaker c.of-2.result _ _ (λ made same. published_is_best (parts_of made) made.published) c.of-2.ensures
