use Rattle.pgm_planes.proofs.TextLemmas.{written_is_read}
use Rattle.pgm_planes.proofs.laws.written_is_read.Goals as goal

pub returns : goal.returns
returns c = written_is_read
