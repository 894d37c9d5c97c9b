use Rattle.std.proofs.lemmas.Bool.Decides.{Decides-int_eq}
use Rattle.std.proofs.lemmas.Slice.Eq.{slice_eq-Decides}
use Rattle.surface_snapshots.proofs.flows.are_equal.Goals as goal

pub returns : goal.returns
returns c t = (slice_eq-Decides Decides-int_eq c.args.these.now c.args.those.now c.eq.result c.eq.ensures).0 t
