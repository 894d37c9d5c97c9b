use Rattle.insar_commands.proofs.WholeLemmas.{bytes_have_one_whole_verdict}
use Rattle.insar_top.proofs.laws.bytes_have_one_whole_verdict.Goals as goal

pub returns : goal.returns
returns c = bytes_have_one_whole_verdict
