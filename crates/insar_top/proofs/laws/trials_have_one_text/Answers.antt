use Rattle.insar_commands.proofs.TrialLemmas.{trials_have_one_text}
use Rattle.insar_top.proofs.laws.trials_have_one_text.Goals as goal

pub returns : goal.returns
returns c = trials_have_one_text
