-- Corrections and faces that pass the check are an answer.
use Rattle.std.proofs.Common.{◌≡◌, ℕ, ◌+◌, ◌∙◌, sym, subst, ap, arith, List, Bool, true, false, length}
use Rattle.std.specs.Prelude.{ℤ, pos, neg_ℤ, ◌-ℤ◌, unsigned_abs}
use Rattle.std.proofs.lemmas.Int.{ints}
use Rattle.std.proofs.lemmas.List.{get_or_past}
use Rattle.raster_model.specs.declared.edge.Edge.{Edge}
use Rattle.raster_model.specs.declared.tiling.Window.{Window}
use Rattle.raster_model.specs.Sums.{down_edge, right_edge}
use Rattle.raster_model.specs.Raster.{masked_weight}
use Rattle.raster_model.specs.Tilings.{tiled_by}
use Rattle.raster_model.specs.Tiles.{IsTileWindow}
use Rattle.flow_network.specs.Nets.{State}
use Rattle.wrapped_gradient.specs.declared.corrections.Corrections.{Corrections}
use Rattle.wrapped_gradient.specs.Corrections.{correction_at}
use Rattle.wrapped_gradient.specs.Windows.{IsCellOf, IsEdgeOf}
use Rattle.wrapped_gradient.proofs.CorrectionLemmas.{greatest_of_least}
use Rattle.dual_grid.specs.declared.problem.Problem.{Problem}
use Rattle.dual_grid.specs.Answers.{AreCertifiedCorrections}
use Rattle.dual_grid.specs.Building.{AreFaces}
use Rattle.dual_grid.specs.Nodes.{cells_of, first_side, other_side}
use Rattle.dual_grid.specs.Problems.{AreSmallNumbers, HaveShape, IsAnsweredBy, IsCancelled, IsTight, IsTightAt, face_of, weight_at}
use Rattle.dual_grid.specs.Starts.{TellsMask, open_in_window}
use Rattle.dual_grid.proofs.TightLemmas.{tight_answer}

-- potentials whose differences are those of the faces
abbrev turned_state : List ℤ → State
turned_state faces = record { residual = λ a. 0; excess = λ u. pos 0; potential = λ u. neg_ℤ (face_of faces u) }

turned_faces : (faces : List ℤ) (n : ℕ) → length faces ≡ n → AreFaces (turned_state faces).potential n n faces
turned_faces faces n e = record {
  count = e;
  values = λ u l. less_none (face_of faces u) (face_of faces n) (get_or_past faces n (pos 0) (omega (arith, e)));
}
  where
    less_none : (a b : ℤ) → b ≡ pos 0 → a ≡ neg_ℤ b -ℤ neg_ℤ a
    less_none a b e = omega (arith, ints, e)

module _ (p : Problem) (k : Corrections) (faces : List ℤ) (shape : HaveShape p k faces) (rights_small : AreSmallNumbers (cells_of p.window + 1) k.right.items) (downs_small : AreSmallNumbers (cells_of p.window + 1) k.down.items) (cancelled : (x y : ℕ) → IsCellOf p.window x y → IsCancelled p k x y) (rights : (x y : ℕ) → IsEdgeOf p.window (right_edge x y) → IsTightAt p k faces (right_edge x y)) (downs : (x y : ℕ) → IsEdgeOf p.window (down_edge x y) → IsTightAt p k faces (down_edge x y)) where
  tight : (e : Edge) → IsEdgeOf p.window e → IsTightAt p k faces e
  tight e i = go e.x e.y e.down i
    where
      go : (x y : ℕ) (d : Bool) → IsEdgeOf p.window (record { x = x; y = y; down = d }) → IsTightAt p k faces (record { x = x; y = y; down = d })
      go x y true i = downs x y i
      go x y false i = rights x y i

  turned : (a b : ℤ) → neg_ℤ b -ℤ neg_ℤ a ≡ a -ℤ b
  turned a b = omega (arith, ints)

  -- by the raster's steepness and the weight under its mask
  told : (a b z k : ℤ) (m n q : ℕ) → IsTight q (unsigned_abs z) (a -ℤ b) k → q ≡ m → z ≡ pos n → IsTight m n (neg_ℤ b -ℤ neg_ℤ a) k
  told a b z k m n q i e j = rw (turned a b) (rw (e, j) at i)

  pub checked_answer : IsAnsweredBy p k faces
  checked_answer raster w unmasked mask problem tells tiles count t window =
      let v = p.window in
      let r = tiled_by raster tiles count in
      let f = turned_state faces in
      subst (λ (w : Window). AreCertifiedCorrections r mask t w k faces) problem.window
      (tight_answer r t v (subst (λ (w : Window). IsTileWindow r t w) (sym problem.window) window) unmasked mask (subst (λ (w : Window). TellsMask w unmasked mask) (sym problem.window) tells) f k faces (turned_faces faces (cells_of v) shape.1) shape.0 (greatest_of_least k (cells_of v + 1) rights_small downs_small)
      (λ x y i. cancelled x y i ∙ ap neg_ℤ (problem.residues x y i))
      (λ e i. (here e i).within) (λ e i. (here e i).whole))
    where
      here : (e : Edge) → IsEdgeOf p.window e → IsTight raster.steep (masked_weight raster (open_in_window p.window unmasked) e) (neg_ℤ (face_of faces (other_side p.window e)) -ℤ neg_ℤ (face_of faces (first_side p.window e))) (correction_at p.window k e)
      here e i = told (face_of faces (first_side p.window e)) (face_of faces (other_side p.window e)) (weight_at p e) (correction_at p.window k e) raster.steep (masked_weight raster (open_in_window p.window unmasked) e) p.steep (tight e i) problem.steep (problem.weights e i)
