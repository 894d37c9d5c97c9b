-- Rows whose edges add nothing to a tile's cost, since the surface departs at none of them.
use Rattle.std.proofs.Common.{◌≡◌, ◌∙◌, ℕ, ◌+◌, ◌*◌, ◌<◌, ◌≤◌, ap, ap₂, sym, arith, Bool, false, inl, inr, of_z, w64, FitsSigned, IsTrue, nat_eq}
use Rattle.std.specs.Prelude.{ℤ, pos, ◌+ℤ◌, ◌==◌, ◌||◌, not, nat_lt}
use Rattle.std.proofs.lemmas.Bool.{cases_lt}
use Rattle.std.proofs.lemmas.Bool.Decides.{nat_tests}
use Rattle.raster_model.specs.Raster.{departure, has_open_ends, masked_weight, steps}
use Rattle.raster_model.specs.Sums.{Field, right_edge, down_edge, sum_row}
use Rattle.raster_model.specs.Tiles.{IsWithin}
use Rattle.raster_model.specs.declared.edge.Edge.{Edge}
use Rattle.raster_model.proofs.Steps.{no_steps}
use Rattle.raster_model.proofs.WindowCosts.{cost_from_is, cost_from-outside}
use Rattle.certificates.specs.declared.tile.Tile.{Tile}
use Rattle.certificates.proofs.RangeLemmas.{neither}
use Rattle.certificates.proofs.SeamLemmas.{is_zero}
use Rattle.certificates.specs.TileWords.{TileFollowsDown, TileFollowsRight, cost_at, cost_on, held_mask, held_raster, surface_of_cycles}
use Rattle.sums_and_lists.specs.Sums.{where_true}
use Rattle.sums_and_lists.proofs.Orders.{below_or_last, lt_is, not_lt_is}
use Rattle.sums_and_lists.proofs.SumLemmas.{no_number, picked, sum_below-zeros, where_true-zero}

no_product : (t : Bool) (w q : ℕ) (d : ℤ) → d ≡ pos 0 → where_true t (pos (w * steps q d)) ≡ pos 0
no_product t w q d e =
    let z : w * 0 ≡ 0 = omega arith in
    rw (no_steps q d e) (ap (λ (n : ℕ). where_true t (pos n)) z ∙ where_true-zero t)

none_before : (a b : ℕ) (z : ℤ) → (a < b → z ≡ pos 0) → where_true (nat_lt a b) z ≡ pos 0
none_before a b z f =
    elim (cases_lt a b) [ inl l ↦ picked (nat_lt a b) z (lt_is a b l) ∙ f l | inr l ↦ no_number (nat_lt a b) z (not_lt_is a b l) ]

-- an edge and a pixel at which nothing is added
pub free_edge : (k : Tile) (cycles : Field ℤ) (e : Edge) → departure (held_raster k) (surface_of_cycles k cycles) e ≡ pos 0 → cost_on k cycles e ≡ pos 0
free_edge k cycles e d = no_product (has_open_ends (held_mask k) e) (masked_weight (held_raster k) (held_mask k) e) (held_raster k).steep (departure (held_raster k) (surface_of_cycles k cycles) e) d

pub free_pixel : (k : Tile) (cycles : Field ℤ) (x y : ℕ) → IsWithin k.window x y → (x < k.window.x1 → cost_on k cycles (right_edge x y) ≡ pos 0) → (y < k.window.y1 → cost_on k cycles (down_edge x y) ≡ pos 0) → cost_at k cycles x y ≡ pos 0
free_pixel k cycles x y w right down =
    cost_from_is (held_raster k) (held_mask k) (surface_of_cycles k cycles) k.number k.window k.pixels x y w
    ∙ ap₂ (λ (a b : ℤ). a +ℤ b) (none_before x k.window.x1 (cost_on k cycles (right_edge x y)) right) (none_before y k.window.y1 (cost_on k cycles (down_edge x y)) down)

module _ (k : Tile) (cycles : Field ℤ) (y : ℕ) (row : (k.window.y0 ≤ y) × (y ≤ k.window.y1)) (right : TileFollowsRight k cycles y k.window.x1) (down : y < k.window.y1 → TileFollowsDown k cycles y (k.window.x1 + 1)) where
  free_within : (x : ℕ) → k.window.x0 ≤ x → x ≤ k.window.x1 → cost_at k cycles x y ≡ pos 0
  free_within x l m =
      free_pixel k cycles x y (l, m, row.0, row.1) (λ n. free_edge k cycles (right_edge x y) (right x l n)) (λ n. free_edge k cycles (down_edge x y) (down n x l (omega (arith, m))))

  free_at : (x : ℕ) → x < k.sheet.phase.now.width → cost_at k cycles x y ≡ pos 0
  free_at x l =
      let high : y < k.sheet.phase.now.height = omega (arith, row, k.pixels.along) in
      elim (cases_lt x k.window.x0) [
        | inl m ↦ cost_from-outside (held_raster k) (held_mask k) (surface_of_cycles k cycles) k.number k.window k.pixels x y l high (λ w. omega (arith, w, m))
        | inr m ↦ (elim (cases_lt k.window.x1 x) [
          | inl n ↦ cost_from-outside (held_raster k) (held_mask k) (surface_of_cycles k cycles) k.number k.window k.pixels x y l high (λ w. omega (arith, w, n))
          | inr n ↦ free_within x m n
        ])
      ]

  pub free_row : pos 0 ≡ sum_row k.sheet.phase.now.width (cost_at k cycles) y
  free_row = sym (sum_below-zeros k.sheet.phase.now.width (λ x. cost_at k cycles x y) free_at)

-- ---- a departure more that is looked at
tells_zero : (n : ℕ) → not (n == 0) ≡ false → n ≡ 0
tells_zero n e = grind (arith, nat_tests)

pub tells_it : (n : ℕ) → IsTrue (nat_eq n 0) → n ≡ 0
tells_it n t = grind (arith, nat_tests)

pub no_departure : (z f : ℤ) → FitsSigned w64 z → z ≡ f → of_z w64 z ≡ 0 → f ≡ pos 0
no_departure z f fits is e = sym is ∙ is_zero z fits e

pub one_follows : (f : ℕ → ℤ) (a n : ℕ) (departs : Bool) (z : ℤ) → FitsSigned w64 z → z ≡ f n → (departs ≡ false → (x : ℕ) → a ≤ x → x < n → f x ≡ pos 0) → (departs || not (of_z w64 z == 0)) ≡ false → (x : ℕ) → a ≤ x → x < n + 1 → f x ≡ pos 0
one_follows f a n departs z fits is before e x l m =
    let both = neither departs (not (of_z w64 z == 0)) e in
    elim (below_or_last x n m) [ inl b ↦ before both.0 x l b | inr b ↦ rw b (sym is ∙ is_zero z fits (tells_zero (of_z w64 z) both.1)) ]
