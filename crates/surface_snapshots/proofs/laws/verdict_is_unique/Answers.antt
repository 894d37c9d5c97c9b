use Rattle.surface_snapshots.proofs.VerdictLemmas.{parts_have_one_verdict}
use Rattle.surface_snapshots.proofs.laws.verdict_is_unique.Goals as goal

pub returns : goal.returns
returns c = parts_have_one_verdict
