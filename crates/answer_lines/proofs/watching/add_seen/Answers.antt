use Rattle.std.proofs.Common.{◌∙◌, sym}
use Rattle.std.proofs.lemmas.List.{take_all}
use Rattle.text_lines.proofs.AddLemmas.{adds_nothing}
use Rattle.answer_lines.proofs.SeenLemmas.{adds_kept, adds_none}
use Rattle.answer_lines.proofs.watching.add_seen.Goals as goal
use Rattle.answer_lines.proofs.watching.add_seen.Goals.{then-contains, else-contains}

pub loop-number-init : goal.loop-number-init
loop-number-init g c = adds_nothing _

pub loop-number-preserved : goal.loop-number-preserved
loop-number-preserved g c =
    let published = c.args.published.now in
    let kept = c.args.kept.now in
    let i = c.loop-number.number-index in
    let within = c.loop-number-test.true in
    elim c.if-contains.branch [
      | then-contains w ↦ rw w.text-is (adds_kept published kept i within c.loop-number.invariant (sym c.contains.ensures.value ∙ w.if-contains.true) w.add_field.ensures)
      | else-contains w ↦ rw w.text-is (adds_none published kept i within c.loop-number.invariant (sym c.contains.ensures.value ∙ w.if-contains.false))
    ]

pub returns : goal.returns
returns g c = rw (take_all c.loop-number.number-index c.args.published.now c.loop-number-test.false) at c.loop-number.invariant
