use Rattle.certain_parts.proofs.UniqueParts.{parts_are_unique}
use Rattle.certain_parts.proofs.laws.parts_are_unique.Goals as goal

pub returns : goal.returns
returns c = parts_are_unique
