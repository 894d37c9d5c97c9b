use Rattle.insar_top.proofs.BrokenLemmas.{broken_bytes_are_no_input}
use Rattle.insar_top.proofs.laws.broken_bytes_are_no_input.Goals as goal

pub returns : goal.returns
returns c = broken_bytes_are_no_input
