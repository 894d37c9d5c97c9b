-- No two verdicts are true of the same.
use Rattle.std.proofs.Common.{◌≡◌, ◌∙◌, sym, ap, ap₂, refl, ℕ, ℤ, List, Bool, arith}
use Rattle.std.specs.Prelude.{pos}
use Rattle.raster_model.specs.declared.edge.Edge.{Edge}
use Rattle.raster_model.specs.declared.scene.Scene.{Scene}
use Rattle.raster_model.specs.declared.tiling.Window.{Window}
use Rattle.raster_model.specs.Scene.{raster_of}
use Rattle.certificates.specs.declared.results.TileResult.{TileResult}
use Rattle.raster_model.specs.Sums.{Field}
use Rattle.raster_model.specs.Seams.{IsEarlier}
use Rattle.certificates.specs.declared.verdicts.TileVerdict.{TileVerdict}
use Rattle.certificates.specs.declared.verdicts.TileVerdict.TheVariants.{Good, Shape, Range, FaceAtEdge, CostDiffers}
use Rattle.certificates.specs.Results.{HasShape, AreInRange, IsFirstOutside, window_in, result_surface}
use Rattle.certificates.specs.EdgeOrder.{ComesBefore, IsFirstBreak}
use Rattle.certificates.specs.Verdicts.{IsVerdictOnFaces, IsTileVerdict, FacesHaveOneVerdict, TilesHaveOneVerdict}

-- of two pixels or two edges one comes before the other, or they are the same
same_edge : (d e : Edge) → (ComesBefore d e → ⊥) → (ComesBefore e d → ⊥) → d ≡ e
same_edge d e p q = grind arith

pub same_pixel : (a b x y : ℕ) → (IsEarlier a b x y → ⊥) → (IsEarlier x y a b → ⊥) → (a ≡ x) × (b ≡ y)
same_pixel a b x y p q = (grind arith, grind arith)

pub same_break : (Part Fact : Edge → Type 0) (d e : Edge) → IsFirstBreak Part Fact d → IsFirstBreak Part Fact e → d ≡ e
same_break Part Fact d e p q = same_edge d e (λ b. p.breaks (q.first d p.edge b)) (λ b. q.breaks (p.first e q.edge b))

same_outside : (v : Window) (mask : Field Bool) (cycles : List ℤ) (a b x y : ℕ) → IsFirstOutside v mask cycles a b → IsFirstOutside v mask cycles x y → (a ≡ x) × (b ≡ y)
same_outside v mask cycles a b x y p q = same_pixel a b x y (λ e. p.outside (q.first a b p.pixel e)) (λ e. q.outside (p.first x y q.pixel e))

pub faces_have_one_verdict : FacesHaveOneVerdict
faces_have_one_verdict r mask t S faces Good Good p q = refl
faces_have_one_verdict r mask t S faces Good Shape p q = absurd (q p.0)
faces_have_one_verdict r mask t S faces Good (Range x y) p q = absurd q
faces_have_one_verdict r mask t S faces Good (FaceAtEdge e) p q = absurd (q.1.breaks (p.1.fits e q.1.edge))
faces_have_one_verdict r mask t S faces Good (CostDiffers cost bound) p q = absurd (q.4 (q.3 ∙ p.1.equal ∙ sym q.2))
faces_have_one_verdict r mask t S faces Shape Good p q = absurd (p q.0)
faces_have_one_verdict r mask t S faces Shape Shape p q = refl
faces_have_one_verdict r mask t S faces Shape (Range x y) p q = absurd q
faces_have_one_verdict r mask t S faces Shape (FaceAtEdge e) p q = absurd (p q.0)
faces_have_one_verdict r mask t S faces Shape (CostDiffers cost bound) p q = absurd (p q.0)
faces_have_one_verdict r mask t S faces (Range x y) v p q = absurd p
faces_have_one_verdict r mask t S faces (FaceAtEdge e) Good p q = absurd (p.1.breaks (q.1.fits e p.1.edge))
faces_have_one_verdict r mask t S faces (FaceAtEdge e) Shape p q = absurd (q p.0)
faces_have_one_verdict r mask t S faces (FaceAtEdge e) (Range x y) p q = absurd q
faces_have_one_verdict r mask t S faces (FaceAtEdge d) (FaceAtEdge e) p q = ap FaceAtEdge (same_break _ _ d e p.1 q.1)
faces_have_one_verdict r mask t S faces (FaceAtEdge e) (CostDiffers cost bound) p q = absurd (p.1.breaks (q.1 e p.1.edge))
faces_have_one_verdict r mask t S faces (CostDiffers cost bound) Good p q = absurd (p.4 (p.3 ∙ q.1.equal ∙ sym p.2))
faces_have_one_verdict r mask t S faces (CostDiffers cost bound) Shape p q = absurd (q p.0)
faces_have_one_verdict r mask t S faces (CostDiffers cost bound) (Range x y) p q = absurd q
faces_have_one_verdict r mask t S faces (CostDiffers cost bound) (FaceAtEdge e) p q = absurd (q.1.breaks (p.1 e q.1.edge))
faces_have_one_verdict r mask t S faces (CostDiffers c b) (CostDiffers d e) p q = ap₂ CostDiffers (same_cost (p.2 ∙ sym q.2)) (p.3 ∙ sym q.3)
  where
    same_cost : {m n : ℕ} → pos m ≡ pos n → m ≡ n
    same_cost e = cc

module _ (s : Scene) (mask : Field Bool) (k : TileResult) where
  wrong_shape : (verdict : TileVerdict) → (HasShape s k → ⊥) → IsTileVerdict s mask k verdict → Shape ≡ verdict
  wrong_shape Good n q = absurd (n q.0)
  wrong_shape Shape n q = refl
  wrong_shape (Range x y) n q = absurd (n q.0)
  wrong_shape (FaceAtEdge e) n q = absurd (n q.0)
  wrong_shape (CostDiffers cost bound) n q = absurd (n q.0)

  out_of_range : (x y : ℕ) (verdict : TileVerdict) → HasShape s k → IsFirstOutside (window_in s k) mask k.cycles.items x y → IsTileVerdict s mask k verdict → Range x y ≡ verdict
  out_of_range x y Good h o q = absurd (o.outside (q.1 x y o.pixel))
  out_of_range x y Shape h o q = absurd (q h)
  out_of_range x y (Range a b) h o q = let e = same_outside (window_in s k) mask k.cycles.items x y a b o q.1 in ap₂ Range e.0 e.1
  out_of_range x y (FaceAtEdge e) h o q = absurd (o.outside (q.1 x y o.pixel))
  out_of_range x y (CostDiffers cost bound) h o q = absurd (o.outside (q.1 x y o.pixel))

  on_faces : (verdict : TileVerdict) → HasShape s k → AreInRange (window_in s k) mask k.cycles.items → IsTileVerdict s mask k verdict → IsVerdictOnFaces s mask k verdict
  on_faces Good h i q = q.2
  on_faces Shape h i q = absurd (q h)
  on_faces (Range x y) h i q = absurd (q.1.outside (i x y q.1.pixel))
  on_faces (FaceAtEdge e) h i q = q.2
  on_faces (CostDiffers cost bound) h i q = q.2

pub tiles_have_one_verdict : TilesHaveOneVerdict
tiles_have_one_verdict s mask k Shape v p q = wrong_shape s mask k v p q
tiles_have_one_verdict s mask k (Range x y) v p q = out_of_range s mask k x y v p.0 p.1 q
tiles_have_one_verdict s mask k u v p q = faces_have_one_verdict (raster_of s) mask k.tile (result_surface s k) k.faces.items u v p.2 (on_faces s mask k v p.0 p.1 q)
