use Rattle.text_lines.specs.Adding.{Adds}
use Rattle.text_lines.specs.Text.{texts_below}
use Rattle.text_lines.specs.Views.{view_of}
use Rattle.loop_closure.specs.LoopText.{patch_line}
use Rattle.loop_closure.proofs.text.add_patches.Given as goal

abbrev pub invariant-loop-patch : goal.invariant-loop-patch
invariant-loop-patch g l = Adds (view_of g.K.Sink.held g.K.Sink.faults l.fn.text) (view_of g.K.Sink.held g.K.Sink.faults l.text) (texts_below l.patch (patch_line l.loops))
