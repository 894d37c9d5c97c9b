use Rattle.std.proofs.Common.{subst}
use Rattle.raster_model.specs.declared.tiling.Window.{Window}
use Rattle.wrapped_gradient.specs.declared.corrections.Corrections.{Corrections}
use Rattle.tile_solver.proofs.ZeroLemmas.{AreZeros, repeated_zeros, zeros_answer}
use Rattle.tile_solver.proofs.solving.no_corrections.Goals as goal

pub returns : goal.returns
returns c =
    let k : Corrections = record { right = c.in_ok-vec.field-0; down = c.in_ok-vec-2.field-0 } in
    let faces = c.in_ok-faces.faces.items in
    let zeros = repeated_zeros c.window-window.result k faces (c.in_ok-vec.ensures.items_if_clones_equal (λ y h. h)) (c.in_ok-vec-2.ensures.items_if_clones_equal (λ y h. h)) (c.in_ok-faces.ensures.items_if_clones_equal (λ y h. h)) in
    λ s t mask without. zeros_answer s t mask c.args.gradients.now without k faces (subst (λ (v : Window). AreZeros v k faces) c.window-window.ensures.value zeros)
