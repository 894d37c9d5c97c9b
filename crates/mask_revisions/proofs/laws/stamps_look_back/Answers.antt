use Rattle.mask_revisions.proofs.CallerLemmas.{stamps_look_back}
use Rattle.mask_revisions.proofs.laws.stamps_look_back.Goals as goal

pub returns : goal.returns
returns c = stamps_look_back
