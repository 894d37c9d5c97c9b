use Rattle.certain_parts.proofs.PartLemmas.{surfaces_agree_with_labels}
use Rattle.certain_parts.proofs.laws.surfaces_agree_by_labels.Goals as goal

pub returns : goal.returns
returns c = surfaces_agree_with_labels
