-- For the crates above: what a certificate and a good result rest on.
use Rattle.std.proofs.Common.{◌≡◌, ◌∙◌, ℕ, ◌<◌, ◌*◌, ◌≤◌, ap, ap₂, refl, subst, sym, Bool, true, false, List}
use Rattle.std.specs.Prelude.{ℤ, pos, ◌-ℤ◌, IsTrue, ◌&&◌, if◌then◌else◌, unsigned_abs}
use Rattle.raster_model.specs.declared.edge.Edge.{Edge}
use Rattle.raster_model.specs.declared.scene.Scene.{Scene}
use Rattle.raster_model.specs.Sums.{Field, is_edge, end_x, end_y}
use Rattle.raster_model.specs.Raster.{Raster, departure, has_open_ends, is_inner, edge_cost, inner_cost, masked_weight, over, steps, tile_cost}
use Rattle.raster_model.specs.Certificates.{IsTileEdge, face_bound, face_difference, face_over, face_over_total, face_total, faces_of_tile}
use Rattle.raster_model.specs.Cells.{face_at, IsCertifiedTile}
use Rattle.raster_model.specs.Tiles.{tiles_of, IsWithin}
use Rattle.raster_model.specs.Scene.{raster_of}
use Rattle.raster_model.proofs.SumLemmas.{sum_edges-same}
use Rattle.raster_model.proofs.TileEdges.{ends_within}
use Rattle.raster_model.proofs.TileLemmas.{scene_window, window_of-pixels}
use Rattle.certificates.specs.declared.results.TileResult.{TileResult}
use Rattle.certificates.specs.Results.{IsGoodTile, window_in, result_surface}
use Rattle.std.proofs.lemmas.Bool.{and_from}
use Rattle.sums_and_lists.proofs.SumLemmas.{where_true-same}
use Rattle.sums_and_lists.specs.Sums.{where_true}

-- the same edge under two masks and on two surfaces: both ends open under both or under neither, and the same departure where they are
pub record IsSameAt (r : Raster) (mask mask' : Field Bool) (S S' : Field ℤ) (e : Edge) : Type 0 where
  pub ends : has_open_ends mask e ≡ has_open_ends mask' e
  pub departs : IsTrue (has_open_ends mask e) → departure r S e ≡ departure r S' e

same_cost : (b b' : Bool) (w q : ℕ) (d d' : ℤ) → b ≡ b' → (IsTrue b → d ≡ d') → where_true b (pos ((if b then w else 0) * steps q d)) ≡ where_true b' (pos ((if b' then w else 0) * steps q d'))
same_cost true true w q d d' e h = rw (h refl) refl
same_cost false false w q d d' e h = refl
same_cost true false w q d d' e h = cc
same_cost false true w q d d' e h = cc

pub edge_cost-same : (r : Raster) (mask mask' : Field Bool) (S S' : Field ℤ) (e : Edge) → IsSameAt r mask mask' S S' e → edge_cost r mask S e ≡ edge_cost r mask' S' e
edge_cost-same r mask mask' S S' e q = same_cost (has_open_ends mask e) (has_open_ends mask' e) (r.weight e) r.steep (departure r S e) (departure r S' e) q.ends q.departs

-- what certifies a surface in a tile under one mask certifies another there under another, where all inner edges of the tile are the same
module _ (r : Raster) (mask mask' : Field Bool) (S S' : Field ℤ) (t : ℕ) (same : (e : Edge) → IsTileEdge r t e → IsSameAt r mask mask' S S' e) where
  pub tile_cost-same : tile_cost r mask t S ≡ tile_cost r mask' t S'
  unfolding tile_cost
  tile_cost-same =
      sum_edges-same r.width r.height (inner_cost r mask t S) (inner_cost r mask' t S')
      (λ e i. where_true-same (is_inner r t e) (edge_cost r mask S e) (edge_cost r mask' S' e)
      (λ n. edge_cost-same r mask mask' S S' e (same e (and_from (is_edge r.width r.height e) (is_inner r t e) i n))))

  weight-same : (e : Edge) → IsTileEdge r t e → masked_weight r mask e ≡ masked_weight r mask' e
  weight-same e i = ap (λ (b : Bool). if b then r.weight e else 0) (same e i).ends

  pub face_bound-same : (f : Field ℤ) → face_bound r mask t f ≡ face_bound r mask' t f
  unfolding face_over_total
  face_bound-same f =
      ap (λ (z : ℤ). face_total r t f -ℤ z)
      (sum_edges-same r.width r.height (face_over r mask t f) (face_over r mask' t f)
      (λ e i. where_true-same (is_inner r t e) (pos (over (masked_weight r mask e) (face_difference (faces_of_tile r t f) e))) (pos (over (masked_weight r mask' e) (face_difference (faces_of_tile r t f) e)))
      (λ n. ap (λ (w : ℕ). pos (over w (face_difference (faces_of_tile r t f) e))) (weight-same e (and_from (is_edge r.width r.height e) (is_inner r t e) i n)))))

  pub certified_same : (faces : List ℤ) → IsCertifiedTile r mask t S faces → IsCertifiedTile r mask' t S' faces
  certified_same faces c = (
    c.0,
    record {
      fits = λ e i. subst (λ (w : ℕ). unsigned_abs (face_difference (faces_of_tile r t (face_at r t faces)) e) ≤ r.steep * w) (weight-same e i) (c.1.fits e i);
      equal = sym (face_bound-same (face_at r t faces)) ∙ c.1.equal ∙ tile_cost-same;
    },
  )

-- a good result is good under each mask with the same open pixels in its tile's window
pub good_under : (s : Scene) (mask mask' : Field Bool) (k : TileResult) → k.tile < tiles_of s.tiling → ((x y : ℕ) → IsWithin (window_in s k) x y → mask x y ≡ mask' x y) → IsGoodTile s mask k → IsGoodTile s mask' k
good_under s mask mask' k l same g = record {
  shape = g.shape;
  in_range = λ x y o. g.in_range x y (o.0, same x y o.0 ∙ o.1);
  certified = certified_same (raster_of s) mask mask' (result_surface s k) (result_surface s k) k.tile (λ e i. at e (ends_within (raster_of s) k.tile (window_in s k) (scene_window s k.tile (window_in s k) (window_of-pixels s.tiling k.tile l)) e i)) k.faces.items g.certified;
}
  where
    at : (e : Edge) → IsWithin (window_in s k) e.x e.y × IsWithin (window_in s k) (end_x e) (end_y e) → IsSameAt (raster_of s) mask mask' (result_surface s k) (result_surface s k) e
    at e w = record { ends = ap₂ ◌&&◌ (same e.x e.y w.0) (same (end_x e) (end_y e) w.1); departs = λ o. refl }
