use Rattle.certain_parts.proofs.SizeLemmas.{parts_are_large}
use Rattle.certain_parts.proofs.laws.parts_are_large.Goals as goal

pub returns : goal.returns
returns c = parts_are_large
