use Rattle.certain_parts.proofs.LabelLemmas.{labels_tell}
use Rattle.certain_parts.proofs.laws.labels_tell_parts.Goals as goal

pub returns : goal.returns
returns c = labels_tell
