use Rattle.std.proofs.Common.{arith, ◌≡◌}
use Rattle.text_lines.proofs.AddLemmas.{adds_below, adds_nothing}
use Rattle.text_lines.proofs.TextLemmas.{texts_none}
use Rattle.loop_closure.specs.LoopText.{patch_line}
use Rattle.loop_closure.proofs.text.add_patches.Goals as goal

pub loop-patch-init : goal.loop-patch-init
loop-patch-init g c = rw (texts_none (patch_line c.args.loops.now)) (adds_nothing _)

pub loop-patch-preserved : goal.loop-patch-preserved
loop-patch-preserved g c = adds_below (patch_line c.args.loops.now) c.loop-patch.patch c.loop-patch.invariant c.add_patch.ensures

pub returns : goal.returns
returns g c =
    let all : c.loop-patch.patch ≡ c.args.loops.now.patches.count = omega (arith, c.loop-patch-test.false, c.loop-patch.auto.patch-end, c.count-patch-end.ensures.value) in
    rw all at c.loop-patch.invariant
