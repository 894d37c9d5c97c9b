-- The edges of a tile.
use Rattle.std.proofs.Common.{ℕ, ◌+◌, ◌<◌, ◌≤◌, refl, arith, Bool, true, false}
use Rattle.std.specs.Prelude.{IsTrue, ◌↔◌, ◌&&◌, nat_lt, not, MatchBool}
use Rattle.std.proofs.lemmas.Bool.{false≢true}
use Rattle.std.proofs.lemmas.Bool.Decides.{nat_tests}
use Rattle.raster_model.specs.declared.edge.Edge.{Edge}
use Rattle.raster_model.specs.Raster.{has_open_ends}
use Rattle.raster_model.specs.Sums.{end_x, end_y, is_edge}
use Rattle.raster_model.specs.Tiles.{IsWithin}
use Rattle.raster_model.proofs.TileEdges.{ends_within, from_ends}
use Rattle.certificates.specs.declared.tile.Tile.{Tile}
use Rattle.certificates.specs.EdgeWords.{HoldsIfPart, IsBreak}
use Rattle.certificates.specs.TileWords.{AreRowsOpen, IsInner, held_mask, held_raster}
use Rattle.certificates.proofs.CostLemmas.{both_true}

-- an edge does not lead back, and no further than to the next row
end_after : (e : Edge) → (e.x ≤ end_x e) × (e.y ≤ end_y e) × (end_y e ≤ e.y + 1)
end_after e = go e.down
  where
    go : (d : Bool) → (e.x ≤ end_x (record { x = e.x; y = e.y; down = d })) × (e.y ≤ end_y (record { x = e.x; y = e.y; down = d })) × (end_y (record { x = e.x; y = e.y; down = d }) ≤ e.y + 1)
    go true = omega arith
    go false = omega arith

both_pixels : (w h x y a b : ℕ) → x < w → y < h → a < w → b < h → IsTrue ((nat_lt x w && nat_lt y h) && (nat_lt a w && nat_lt b h))
both_pixels w h x y a b p q r s = grind (arith, nat_tests)

-- what a test of a fact says of it at an edge of the part
pub break_cases : (Part Fact : Edge → Type 0) (b : Bool) (e : Edge) → Part e → (IsTrue b) ↔ Fact e → MatchBool (not b) (IsBreak Part Fact e) (HoldsIfPart Part Fact e)
break_cases Part Fact true e i h = λ _. h.0 refl
break_cases Part Fact false e i h = (i, λ f. absurd (false≢true (h.1 f)))

module _ (k : Tile) where
  -- an edge that starts and ends in the window is an inner edge, and no other is
  pub is_inner : (e : Edge) → IsWithin k.window e.x e.y → end_x e ≤ k.window.x1 → end_y e ≤ k.window.y1 → IsInner k e
  is_inner e w l m =
      let a = end_after e in
      from_ends (held_raster k) k.number k.window k.pixels e w (omega (arith, w, a, l, m))

  pub in_raster : (e : Edge) → IsWithin k.window e.x e.y → end_x e ≤ k.window.x1 → end_y e ≤ k.window.y1 → IsTrue (is_edge k.sheet.phase.now.width k.sheet.phase.now.height e)
  in_raster e w l m =
      both_pixels k.sheet.phase.now.width k.sheet.phase.now.height e.x e.y (end_x e) (end_y e)
      (omega (arith, w, k.pixels.across)) (omega (arith, w, k.pixels.along)) (omega (arith, l, k.pixels.across)) (omega (arith, m, k.pixels.along))

  pub no_further : (e : Edge) → IsInner k e → (end_x e ≤ k.window.x1) × (end_y e ≤ k.window.y1)
  no_further e i = let w = ends_within (held_raster k) k.number k.window k.pixels e i in omega (arith, w)

  pub in_window : (e : Edge) → IsInner k e → (k.window.x0 ≤ e.x) × (e.x < k.window.x1 + 1) × (k.window.y0 ≤ e.y) × (e.y < k.window.y1 + 1)
  in_window e i = let w = ends_within (held_raster k) k.number k.window k.pixels e i in omega (arith, w)

  -- where the tile's pixels in a row and in the next one are open, so are the ends of an edge that starts in the row and ends in the window
  pub ends_open : (e : Edge) → AreRowsOpen k e.y → IsWithin k.window e.x e.y → end_x e ≤ k.window.x1 → end_y e ≤ k.window.y1 → IsTrue (has_open_ends (held_mask k) e)
  ends_open e clear w l m =
      let a = end_after e in
      both_true (held_mask k e.x e.y) (held_mask k (end_x e) (end_y e)) (clear e.x e.y w (omega arith) (omega arith)) (clear (end_x e) (end_y e) (omega (arith, w, a), l, omega (arith, w, a), m) a.1 a.2)
