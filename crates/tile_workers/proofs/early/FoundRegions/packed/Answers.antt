use Rattle.std.proofs.lemmas.Result.{IfOk-weaker}
use Rattle.tile_workers.proofs.early.FoundRegions.packed.Goals as goal

pub returns : goal.returns
returns c = IfOk-weaker c.of.result _ _ (λ made packs mask are. packs mask (rw c.in-Plain.is at are)) c.of.ensures
