use Rattle.surface_snapshots.specs.Views.{parts_of}
use Rattle.surface_snapshots.proofs.CallerLemmas.{published_is_best}
use Rattle.surface_snapshots.proofs.snapshot.Snapshot.build_beside.Goals as goal

pub of-requires-clause-good : goal.of-requires-clause-good
of-requires-clause-good c = rw c.deref.ensures at c.in_ok-certified.ensures.certified

pub returns-clause-best : goal.returns-clause-best
returns-clause-best c = published_is_best (parts_of c.in_ok-of.field-0) c.in_ok-of.field-0.published
