use Rattle.std.specs.Prelude.{◌≡◌}
use Rattle.trial_maker.specs.Drawn.{AreDrawn}
use Rattle.trial_maker.specs.Trials.{state}
use Rattle.trial_maker.proofs.samples.draw.Given as goal

abbrev pub invariant-loop-pixel : goal.invariant-loop-pixel
invariant-loop-pixel l = (l.state ≡ state l.fn.seed l.pixel) × AreDrawn l.fn.seed l.fn.width l.pixel l.samples.phase.items l.samples.weights.items l.samples.mask.items
