use Rattle.certain_parts.proofs.LabelLemmas.{AreRelabelled}
use Rattle.certain_parts.proofs.labels.relabel.Given as goal

abbrev pub invariant-loop-place : goal.invariant-loop-place
invariant-loop-place l = AreRelabelled l.fn.labels l.numbers l.place l.labels
