use Rattle.certain_parts.proofs.Agreeing.{others_cost_more, surfaces_agree}
use Rattle.certain_parts.proofs.laws.surfaces_agree_in_parts.Goals as goal

pub returns-clause-agree : goal.returns-clause-agree
returns-clause-agree c = surfaces_agree

pub returns-clause-dearer : goal.returns-clause-dearer
returns-clause-dearer c = others_cost_more
