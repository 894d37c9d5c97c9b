use Rattle.session_script.proofs.WrittenSession.{written_again}
use Rattle.session_script.proofs.laws.written_is_read.Goals as goal

pub returns : goal.returns
returns c = written_again
