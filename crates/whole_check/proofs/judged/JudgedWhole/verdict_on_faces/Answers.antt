use Rattle.whole_check.proofs.judged.JudgedWhole.verdict_on_faces.Goals as goal

pub refused-requires-clause-says : goal.refused-requires-clause-says
refused-requires-clause-says c = rw c.requires.head.size.0 (rw (c.requires.sheet, c.requires.list, c.deref.ensures.value) at c.in-Err.ensures.refused.0)
