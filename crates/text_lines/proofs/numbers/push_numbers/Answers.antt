use Rattle.std.proofs.Common.{◌∙◌, ap, false, ◌∷◌, List, ℕ, FitsSigned, rules}
use Rattle.std.specs.Int.{w64}
use Rattle.std.proofs.lemmas.Int.{to_z-of_z}
use Rattle.text_lines.proofs.NumberLemmas.{pushed_end, pushed_more, pushed_none}
use Rattle.text_lines.proofs.numbers.push_numbers.Goals as goal

pub returns-in_default-split_number : goal.returns-in_default-split_number
returns-in_default-split_number c =
    c.loop-fields.invariant c.loop-fields.numbers.items false (pushed_none c.loop-fields.numbers.items c.loop-fields.numbers.items c.loop-fields.rest.now c.in-Some.fields.now c.in-Some.ensures.found c.in_default-split_number.ensures.none)

pub loop-fields-preserved : goal.loop-fields-preserved
loop-fields-preserved c =
    let split = c.in-Some-split_number in
    let fits : FitsSigned w64 split.number = search rules in
    let spelled = c.in-Some.ensures.found ∙ ap (λ (l : List ℕ). 32 ∷ l) split.ensures.found in
    λ now all h. c.loop-fields.invariant now all
    (pushed_more c.loop-fields.numbers.items now c.loop-fields.rest.now split.after.now split.number all spelled fits split.ensures.rest (rw (c.in_ok-push.ensures.items, to_z-of_z w64 split.number fits) at h))

pub returns : goal.returns
returns c = c.loop-fields.invariant c.loop-fields.numbers.items c.is_empty.result (pushed_end c.loop-fields.numbers.items c.loop-fields.rest.now c.is_empty.result c.in_default.ensures.none c.is_empty.ensures)
