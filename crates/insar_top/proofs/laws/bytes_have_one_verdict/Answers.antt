use Rattle.insar_top.proofs.CheckLemmas.{bytes_have_one_verdict}
use Rattle.insar_top.proofs.laws.bytes_have_one_verdict.Goals as goal

pub returns : goal.returns
returns c = bytes_have_one_verdict
