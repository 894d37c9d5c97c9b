use Rattle.std.proofs.Common.{◌≡◌, ◌∙◌, ap, ap₂, sym, arith, ℕ, SFits, List, w32, w64, rules}
use Rattle.std.specs.Prelude.{ℤ, ◌-ℤ◌, unsigned_abs}
use Rattle.std.proofs.lemmas.Int.{ints, to_z-of_z}
use Rattle.wrapped_gradient.specs.Windows.{edge_value}
use Rattle.dual_grid.specs.Nodes.{first_side, other_side}
use Rattle.dual_grid.specs.Problems.{IsTight, face_of}
use Rattle.dual_grid.proofs.checking.is_tight_at.Goals as goal

pub returns : goal.returns
returns c =
    λ yes.
    let p = c.args.problem.now in
    let faces = c.args.faces.now in
    let first : c.face.result ≡ face_of faces (first_side p.window c.args.edge) = c.face.ensures ∙ ap (λ (u : ℕ). face_of faces u) c.sides-first.ensures.first in
    let other : c.face-2.result ≡ face_of faces (other_side p.window c.args.edge) = c.face-2.ensures ∙ ap (λ (u : ℕ). face_of faces u) c.sides-first.ensures.other in
    let first_fits : SFits w64 c.face.result = search rules in
    let other_fits : SFits w64 c.face-2.result = search rules in
    let difference : c.in-Some.difference ≡ c.face.result -ℤ c.face-2.result = omega (arith, ints, c.in-Some.ensures, first_fits, other_fits) in
    let weight_fits : SFits w32 c.number-weight.result = search rules in
    let correction_fits : SFits w32 c.number-correction.result = search rules in
    let fits : SFits w64 c.in-Some.difference = search rules in
    same _ _ _ _ _ _ _ _ c.unsigned_abs.ensures.value (to_z-of_z w64 c.in-Some.difference fits ∙ difference ∙ ap₂ (λ (a b : ℤ). a -ℤ b) first other) (to_z-of_z w32 c.number-weight.result weight_fits ∙ c.number-weight.ensures ∙ ap₂ (λ (r d : List ℤ). edge_value p.window r d c.args.edge) c.deref.ensures.value c.deref-2.ensures.value)
    (to_z-of_z w32 c.number-correction.result correction_fits ∙ c.number-correction.ensures ∙ ap₂ (λ (r d : List ℤ). edge_value p.window r d c.args.edge) c.deref-3.ensures.value c.deref-4.ensures.value) (c.is_tight.ensures.tight yes)
  where
    same : (s n : ℕ) (d w k e v i : ℤ) → n ≡ unsigned_abs w → d ≡ e → w ≡ v → k ≡ i → IsTight s n d k → IsTight s (unsigned_abs v) e i
    same s n d w k e v i m p q r t = rw (sym p, sym q, sym r, sym m) t
