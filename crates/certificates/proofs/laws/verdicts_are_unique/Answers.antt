use Rattle.certificates.proofs.Unique.{faces_have_one_verdict, tiles_have_one_verdict}
use Rattle.certificates.proofs.UniqueSeams.{seams_have_one_verdict}
use Rattle.certificates.proofs.laws.verdicts_are_unique.Goals as goal

pub returns-clause-faces : goal.returns-clause-faces
returns-clause-faces c = faces_have_one_verdict

pub returns-clause-tiles : goal.returns-clause-tiles
returns-clause-tiles c = tiles_have_one_verdict

pub returns-clause-seams : goal.returns-clause-seams
returns-clause-seams c = seams_have_one_verdict
