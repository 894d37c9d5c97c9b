use Rattle.std.proofs.Common.{arith, ◌≡◌, ◌+◌, ℕ}
use Rattle.text_lines.proofs.AddLemmas.{adds_below, adds_nothing}
use Rattle.text_lines.proofs.TextLemmas.{texts_none}
use Rattle.certain_parts.specs.PartsText.{part_line}
use Rattle.certain_parts.proofs.text.add_parts.Goals as goal

pub loop-before-init : goal.loop-before-init
loop-before-init g c = rw (texts_none (λ (i : ℕ). part_line c.args.parts.now (i + 1))) (adds_nothing _)

pub loop-before-preserved : goal.loop-before-preserved
loop-before-preserved g c = adds_below (λ (i : ℕ). part_line c.args.parts.now (i + 1)) c.loop-before.before c.loop-before.invariant c.add_part.ensures

pub returns : goal.returns
returns g c =
    let all : c.loop-before.before ≡ c.args.parts.now.count = omega (arith, c.loop-before-test.false, c.loop-before.auto.before-end, c.count-before-end.ensures.value) in
    rw all at c.loop-before.invariant
