use denote.Text.{Utf8}
use denote.Shadow.{shadow}
use Rattle.top_tests.proofs.top_rows.is_of.Given as goal

-- what is left of the text is text
abbrev pub invariant-loop-place : goal.invariant-loop-place
invariant-loop-place l =
    (goal.iterator-loop-place).can_next l.place-iterator ×
    (goal.iterator-loop-place).is_finite l.place-iterator ×
    shadow (Utf8 l.rest)
