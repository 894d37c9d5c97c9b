use Rattle.std.proofs.Common.{◌∙◌}
use Rattle.certain_parts.proofs.rows.LabelRowsPassages.count.Goals as goal

pub returns : goal.returns
returns c = c.height.ensures.value ∙ c.args.self.now.same_size.1
