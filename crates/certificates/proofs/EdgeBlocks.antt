-- Where an edge leads from tile to tile: the next column or row then begins another block of pixels.
use Rattle.std.proofs.Common.{◌≡◌, ◌≢◌, ◌∙◌, ℕ, ◌+◌, ◌/◌, ◌%◌, ◌<◌, sym, ap, refl, arith, inl, inr}
use Rattle.std.specs.Prelude.{◌==◌, not, IsTrue}
use Rattle.std.proofs.lemmas.Bool.Decides.{eqb_tells}
use Rattle.std.proofs.lemmas.Nat.{div-add-mod', mod_below}
use Rattle.raster_model.specs.declared.edge.Edge.{Edge}
use Rattle.raster_model.specs.declared.scene.Scene.{Scene}
use Rattle.raster_model.specs.declared.tiling.Tiling.{Tiling}
use Rattle.raster_model.specs.Raster.{is_seam}
use Rattle.raster_model.specs.Scene.{raster_of}
use Rattle.raster_model.specs.Sums.{is_edge}
use Rattle.raster_model.specs.Tiles.{tile_at}
use Rattle.raster_model.proofs.SumLemmas.{on_each_edge}
use Rattle.certificates.specs.Ends.{passes_end}
use Rattle.raster_model.proofs.TileLemmas.{from_block, in_block, tiles_are_squares}

next_block : (x d : ℕ) → 0 < d → ((x + 1) % d ≡ 0 → x / d ≢ (x + 1) / d) × ((x + 1) % d ≢ 0 → x / d ≡ (x + 1) / d)
next_block x d p =
    let s = div-add-mod' (x + 1) d in
    let m = mod_below (x + 1) d p in (
      (λ z e. let b = in_block x d ((x + 1) / d) p e in omega (arith, s, z, b.0)),
      (λ n. from_block x d ((x + 1) / d) p (omega (arith, s, n)) (omega (arith, s, m))),
    )

leaves : (r u v : ℕ) → (r ≡ 0 → u ≢ v) → (r ≢ 0 → u ≡ v) → (r == 0) ≡ not (u == v)
leaves r u v f g =
    elim (eqb_tells r 0) [
      | inl z ↦ (elim (eqb_tells u v) [ inl e ↦ absurd (f z.1 e.1) | inr n ↦ z.0 ∙ sym (ap not n.0) ])
      | inr z ↦ (elim (eqb_tells u v) [ inl e ↦ z.0 ∙ sym (ap not e.0) | inr n ↦ absurd (n.1 (g z.1)) ])
    ]

pub right_leaves : (g : Tiling) (x y : ℕ) → x + 1 < g.width → ((x + 1) % g.side == 0) ≡ not (tile_at g x y == tile_at g (x + 1) y)
right_leaves g x y l =
    let p : 0 < g.side = omega (arith, g.sides) in
    let b = next_block x g.side p in
    let t = tiles_are_squares g x y (x + 1) y (omega (arith, l)) l in
    leaves ((x + 1) % g.side) (tile_at g x y) (tile_at g (x + 1) y) (λ z e. b.0 z (t.0 e).0) (λ n. t.1 (b.1 n, refl))

pub lower_leaves : (g : Tiling) (x y : ℕ) → x < g.width → ((y + 1) % g.side == 0) ≡ not (tile_at g x y == tile_at g x (y + 1))
lower_leaves g x y l =
    let p : 0 < g.side = omega (arith, g.sides) in
    let b = next_block y g.side p in
    let t = tiles_are_squares g x y x (y + 1) l l in
    leaves ((y + 1) % g.side) (tile_at g x y) (tile_at g x (y + 1)) (λ z e. b.0 z (t.0 e).1) (λ n. t.1 (refl, b.1 n))

-- an edge leads from tile to tile where its other end begins another block
pub passes_leads : (s : Scene) (e : Edge) → IsTrue (is_edge s.phase.width s.phase.height e) → passes_end s.tiling.side e ≡ is_seam (raster_of s) e
passes_leads s e i = on_each_edge s.phase.width s.phase.height (λ e. passes_end s.tiling.side e ≡ is_seam (raster_of s) e)
    (λ x y l m n. right_leaves s.tiling x y (omega (arith, n, s.same_width)))
    (λ x y l m n. lower_leaves s.tiling x y (omega (arith, l, s.same_width))) e i
