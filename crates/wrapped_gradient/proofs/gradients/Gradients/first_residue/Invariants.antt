use Rattle.std.proofs.Common.{◌≡◌, ℕ, pos}
use Rattle.raster_model.specs.Seams.{IsEarlier}
use Rattle.wrapped_gradient.specs.Gradients.{residue_at}
use Rattle.wrapped_gradient.specs.Windows.{IsCellOf}
use Rattle.wrapped_gradient.proofs.gradients.Gradients.first_residue.Given as goal

abbrev pub invariant-loop-x : goal.invariant-loop-x
invariant-loop-x l = (a b : ℕ) → IsCellOf l.self.window a b → IsEarlier a b l.x l.y → residue_at l.self a b ≡ pos 0

abbrev pub invariant-loop-y : goal.invariant-loop-y
invariant-loop-y l = (a b : ℕ) → IsCellOf l.self.window a b → IsEarlier a b l.self.window.x0 l.y → residue_at l.self a b ≡ pos 0
