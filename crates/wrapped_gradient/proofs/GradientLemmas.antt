-- Wrapped differences over a window are those of the raster.
use Rattle.std.proofs.Common.{inl, inr, ◌≡◌, ℕ, ◌+◌, ◌-◌, ◌*◌, ◌<◌, ◌≤◌, arith, List, Bool, true, false}
use Rattle.std.specs.Prelude.{ℤ, pos, ◌+ℤ◌, ◌-ℤ◌, int_div, IfOk, Result, Ok, Err}
use Rattle.std.proofs.lemmas.Int.{ints}
use Rattle.std.proofs.lemmas.Nat.{mul-le}
use Rattle.raster_model.specs.declared.edge.Edge.{Edge}
use Rattle.raster_model.specs.declared.tiling.Window.{Window}
use Rattle.raster_model.specs.Sums.{Field, right_edge, down_edge}
use Rattle.raster_model.specs.Raster.{Raster, gradient}
use Rattle.raster_model.specs.Seams.{IsEarlier}
use Rattle.wrapped_gradient.specs.GradientsView.{GradientsView}
use Rattle.wrapped_gradient.specs.Gradients.{AreGradientsOf, HaveResiduesOf, residue_at}
use Rattle.wrapped_gradient.specs.Rows.{AreInRows, of_right_edges, of_down_edges}
use Rattle.raster_model.specs.Limits.{max_pixels, max_side}
use Rattle.raster_model.specs.Tiles.{IsRasterWindow, IsWindowIn, width_of, height_of}
use Rattle.raster_model.specs.Tilings.{tiled_by}
use Rattle.wrapped_gradient.specs.Windows.{IsEdgeOf, IsCellOf, edge_value}
use Rattle.wrapped_gradient.proofs.Places.{place_within}
use Rattle.wrapped_gradient.proofs.RowLemmas.{rows_tell}
use Rattle.sums_and_lists.proofs.Orders.{below_or_last}

module _ (r : Raster) (v : Window) (right down : List ℤ) (rights : AreInRows (of_right_edges r) v.x0 v.y0 (width_of v - 1) ((width_of v - 1) * height_of v) right) (downs : AreInRows (of_down_edges r) v.x0 v.y0 (width_of v) (width_of v * (height_of v - 1)) down) where
  right_is : (x y : ℕ) → v.x0 ≤ x → x < v.x1 → v.y0 ≤ y → y ≤ v.y1 → edge_value v right down (right_edge x y) ≡ gradient r (right_edge x y) -ℤ r.slope false
  right_is x y a b c d =
      rows_tell (of_right_edges r) v.x0 v.y0 (width_of v - 1) ((width_of v - 1) * height_of v) x y right rights a (omega arith) c
      (place_within (width_of v - 1) (height_of v) (y - v.y0) (x - v.x0) (omega arith) (omega arith))

  down_is : (x y : ℕ) → v.x0 ≤ x → x ≤ v.x1 → v.y0 ≤ y → y < v.y1 → edge_value v right down (down_edge x y) ≡ gradient r (down_edge x y) -ℤ r.slope true
  down_is x y a b c d =
      rows_tell (of_down_edges r) v.x0 v.y0 (width_of v) (width_of v * (height_of v - 1)) x y down downs a (omega arith) c
      (place_within (width_of v) (height_of v - 1) (y - v.y0) (x - v.x0) (omega arith) (omega arith))

  pub numbers_are : (e : Edge) → IsEdgeOf v e → r.slope e.down +ℤ edge_value v right down e ≡ gradient r e
  numbers_are e i = go e.x e.y e.down i
    where
      back : (slope d g : ℤ) → d ≡ g -ℤ slope → slope +ℤ d ≡ g
      back slope d g e = omega (arith, ints, e)

      go : (x y : ℕ) (d : Bool) → IsEdgeOf v (record { x = x; y = y; down = d }) → r.slope d +ℤ edge_value v right down (record { x = x; y = y; down = d }) ≡ gradient r (record { x = x; y = y; down = d })
      go x y false i = back (r.slope false) _ _ (right_is x y i.start.0 (omega (arith, i.end.1)) i.start.2 i.start.3)
      go x y true i = back (r.slope true) _ _ (down_is x y i.start.0 i.start.1 i.start.2 (omega (arith, i.end.3)))

-- an edge of a window
pub right_edge_of : (v : Window) (x y : ℕ) → v.x0 ≤ x → x < v.x1 → v.y0 ≤ y → y ≤ v.y1 → IsEdgeOf v (right_edge x y)
right_edge_of v x y a b c d = record { start = (a, omega arith, c, d); end = (omega arith, omega arith, c, d) }

pub down_edge_of : (v : Window) (x y : ℕ) → v.x0 ≤ x → x ≤ v.x1 → v.y0 ≤ y → y < v.y1 → IsEdgeOf v (down_edge x y)
down_edge_of v x y a b c d = record { start = (a, b, c, omega arith); end = (a, b, omega arith, omega arith) }

-- they are so whatever its tiles
pub retiled : (r : Raster) (tile : Field ℕ) (n : ℕ) (g : GradientsView) → AreGradientsOf (tiled_by r tile n) g → AreGradientsOf r g
retiled r tile n g h = record { inside = h.inside; differences = h.differences }

-- a window of a raster is no larger than the raster
pub window_fits : (w h : ℕ) (v : Window) → w ≤ max_side → h ≤ max_side → w * h ≤ max_pixels → IsWindowIn w h v → IsRasterWindow v
window_fits w h v wide high few is = record {
  across = (is.across.0, omega (arith, is.across.1, wide));
  along = (is.along.0, omega (arith, is.along.1, high));
  few = omega (arith, few, mul-le (width_of v) (height_of v) w h (omega (arith, is.across.0, is.across.1)) (omega (arith, is.along.0, is.along.1)));
}

-- what holds of a value that there is, where another thing follows from it
pub if_ok_follows : {T E : Type 0} {P Q : T → Type 0} → ((t : T) → P t → Q t) → (r : Result T E) → IfOk r P → IfOk r Q
if_ok_follows f (Ok t) h = f t h
if_ok_follows f (Err e) h = h

-- wrapped differences of a raster have its residues
pub residues_are : (r : Raster) (g : GradientsView) → AreGradientsOf r g → HaveResiduesOf r g
residues_are r g h x y i =
    let top = h.differences (right_edge x y) (right_edge_of g.window x y i.0 i.1 i.2 (omega arith)) in
    let right = h.differences (down_edge (x + 1) y) (down_edge_of g.window (x + 1) y (omega arith) (omega arith) i.2 i.3) in
    let bottom = h.differences (right_edge x (y + 1)) (right_edge_of g.window x (y + 1) i.0 i.1 (omega arith) (omega arith)) in
    let left = h.differences (down_edge x y) (down_edge_of g.window x y i.0 (omega arith) i.2 i.3) in
    same_quotient top right bottom left
  where
    same_quotient : {p q b l p' q' b' l' : ℤ} → p ≡ p' → q ≡ q' → b ≡ b' → l ≡ l' → int_div (p +ℤ q -ℤ b -ℤ l) (pos 65536) ≡ int_div (p' +ℤ q' -ℤ b' -ℤ l') (pos 65536)
    same_quotient d e f g = cc

-- the cells before the next one in a row
pub next_cell : (g : GradientsView) (x y : ℕ) → ((a b : ℕ) → IsCellOf g.window a b → IsEarlier a b x y → residue_at g a b ≡ pos 0) → residue_at g x y ≡ pos 0 → (a b : ℕ) → IsCellOf g.window a b → IsEarlier a b (x + 1) y → residue_at g a b ≡ pos 0
next_cell g x y before here a b i (inl l) = before a b i (inl l)
next_cell g x y before here a b i (inr l) = elim (below_or_last a x l.1) [ inl m ↦ before a b i (inr (l.0, m)) | inr m ↦ rw (m, l.0) here ]
