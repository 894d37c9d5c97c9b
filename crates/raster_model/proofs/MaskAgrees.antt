-- Two masks that agree on a raster's pixels: the same pixels are open, and the regions and their numbers under one are those under the other.
use Rattle.std.proofs.Common.{◌≡◌, ◌∙◌, ℕ, ◌+◌, ◌<◌, ◌≤◌, sym, ap, ap₂, arith, inl, inr, Bool}
use Rattle.std.specs.Prelude.{ℤ, ◌&&◌, not, IsTrue}
use Rattle.std.proofs.lemmas.Bool.{cases_lt}
use Rattle.raster_model.specs.declared.edge.Edge.{Edge}
use Rattle.raster_model.specs.Raster.{Raster, has_open_ends, is_seam}
use Rattle.raster_model.specs.Seams.{AreJoined, AreRegions, IsFirst, IsFirstOpen, IsOpenPixel, IsRegion, flow_in, flow_out, is_open_inner}
use Rattle.raster_model.specs.Seams.AreJoined.{here, rightward, leftward, downward, upward}
use Rattle.raster_model.specs.Sums.{Field, down_edge, end_x, end_y, is_edge, right_edge}
use Rattle.raster_model.proofs.RegionNumbers.{numbers_agree}
use Rattle.raster_model.proofs.SumLemmas.{sum_edges-same}
use Rattle.sums_and_lists.specs.Sums.{where_true}
use Rattle.sums_and_lists.proofs.Orders.{ends_in}
use Rattle.sums_and_lists.proofs.Tests.{same_beside}

pub edge_ends : (w h : ℕ) (e : Edge) → IsTrue (is_edge w h e) → (e.x < w) × (e.y < h) × (end_x e < w) × (end_y e < h)
edge_ends w h e t = ends_in e.x e.y w h (end_x e) (end_y e) t

module _ (r : Raster) (m n : Field Bool) (same : (x y : ℕ) → x < r.width → y < r.height → m x y ≡ n x y) where
  pub open_too : (x y : ℕ) → IsOpenPixel r m x y → IsOpenPixel r n x y
  open_too x y o = (o.0, o.1, sym (same x y o.0 o.1) ∙ o.2)

  pub same_ends : (e : Edge) → IsTrue (is_edge r.width r.height e) → has_open_ends m e ≡ has_open_ends n e
  same_ends e i =
      let t = edge_ends r.width r.height e i in
      ap₂ ◌&&◌ (same e.x e.y t.0 t.1) (same (end_x e) (end_y e) t.2 t.3)

  inner_too : (e : Edge) → IsTrue (is_open_inner r m e) → IsTrue (is_open_inner r n e)
  inner_too e t = same_beside (is_edge r.width r.height e) (has_open_ends m e) (has_open_ends n e) (not (is_seam r e)) (same_ends e) t

  joined_too : (x y a b : ℕ) → AreJoined r m x y a b → AreJoined r n x y a b
  joined_too x y _ _ here = here
  joined_too x y _ _ (rightward {a = a} {b = b} j t) = rightward (joined_too x y a b j) (inner_too (right_edge a b) t)
  joined_too x y _ _ (leftward {a = a} {b = b} j t) = leftward (joined_too x y (a + 1) b j) (inner_too (right_edge a b) t)
  joined_too x y _ _ (downward {a = a} {b = b} j t) = downward (joined_too x y a b j) (inner_too (down_edge a b) t)
  joined_too x y _ _ (upward {a = a} {b = b} j t) = upward (joined_too x y a (b + 1) j) (inner_too (down_edge a b) t)

module _ (r : Raster) (m n : Field Bool) (same : (x y : ℕ) → x < r.width → y < r.height → m x y ≡ n x y) where
  back : (x y : ℕ) → x < r.width → y < r.height → n x y ≡ m x y
  back x y l h = sym (same x y l h)

  pub open_back : (x y : ℕ) → IsOpenPixel r n x y → IsOpenPixel r m x y
  open_back = open_too r n m back

  joined_here : (x y a b : ℕ) → AreJoined r m x y a b → AreJoined r n x y a b
  joined_here = joined_too r m n same

  joined_back : (x y a b : ℕ) → AreJoined r n x y a b → AreJoined r m x y a b
  joined_back = joined_too r n m back

  first_back : (x y : ℕ) → IsFirst r n x y → IsFirst r m x y
  first_back x y f = (open_back x y f.0, λ a b o e j. f.1 a b (open_too r m n same a b o) e (joined_here x y a b j))

  pub first_open_too : (x y : ℕ) → IsFirstOpen r m x y → IsFirstOpen r n x y
  first_open_too x y f = (open_too r m n same x y f.0, λ a b o e. f.1 a b (open_back a b o) e)

  pub region_back : (region : Field Bool) → IsRegion r n region → IsRegion r m region
  region_back region is = record {
    x = is.x;
    y = is.y;
    inside = open_back is.x is.y is.inside;
    joined = λ a b l h. (
      (λ t. let q = (is.joined a b l h).0 t in (same a b l h ∙ q.0, joined_back is.x is.y a b q.1)),
      (λ q. (is.joined a b l h).1 (back a b l h ∙ q.0, joined_here is.x is.y a b q.1)),
    );
  }

  pub regions_too : (labels : Field ℕ) (count : ℕ) → AreRegions r m labels count → AreRegions r n labels count
  regions_too labels count are = record {
    labelling = record {
      below = λ x y o. are.labelling.below x y (open_back x y o);
      used = λ v l. (let u = are.labelling.used v l in (u.0, u.1, open_too r m n same u.0 u.1 u.2, u.3));
      same = λ x y a b o p. (
          let q = are.labelling.same x y a b (open_back x y o) (open_back a b p) in
          (λ e. joined_here x y a b (q.0 e), λ j. q.1 (joined_back x y a b j)));
    };
    in_order = λ x y a b f g e. are.in_order x y a b (first_back x y f) (first_back a b g) e;
  }

-- ---- two numberings of the same regions have the same count
no_fewer : (r : Raster) (m : Field Bool) (L : Field ℕ) (c : ℕ) (M : Field ℕ) (d : ℕ) → AreRegions r m L c → AreRegions r m M d → c ≤ d
no_fewer r m L c M d isL isM = elim (cases_lt d c) [
  | inr above ↦ above
  | inl below ↦ (
      let u = isL.labelling.used d below in
      let e = numbers_agree r m L c M d isL isM u.0 u.1 u.2 in
      let l = isM.labelling.below u.0 u.1 u.2 in
      absurd (omega (arith, e, l, u.3)))
]

pub same_count : (r : Raster) (m : Field Bool) (L : Field ℕ) (c : ℕ) (M : Field ℕ) (d : ℕ) → AreRegions r m L c → AreRegions r m M d → c ≡ d
same_count r m L c M d isL isM = omega (arith, no_fewer r m L c M d isL isM, no_fewer r m M d L c isM isL)

-- ---- flows at pixels that pass one of two tests, which agree on the raster's pixels
same_part : (s a b : Bool) (z : ℤ) → a ≡ b → where_true (s && a) z ≡ where_true (s && b) z
same_part s a b z e = ap (λ (o : Bool). where_true (s && o) z) e

module _ (r : Raster) (F : Edge → ℤ) (P Q : Field Bool) (same : (x y : ℕ) → x < r.width → y < r.height → P x y ≡ Q x y) where
  pub flow_in-same : flow_in r F P ≡ flow_in r F Q
  flow_in-same = sum_edges-same r.width r.height _ _ (λ e i. (let t = edge_ends r.width r.height e i in same_part (is_seam r e) (P (end_x e) (end_y e)) (Q (end_x e) (end_y e)) (F e) (same (end_x e) (end_y e) t.2 t.3)))

  pub flow_out-same : flow_out r F P ≡ flow_out r F Q
  flow_out-same = sum_edges-same r.width r.height _ _ (λ e i. (let t = edge_ends r.width r.height e i in same_part (is_seam r e) (P e.x e.y) (Q e.x e.y) (F e) (same e.x e.y t.0 t.1)))

  pub balanced-same : flow_in r F P ≡ flow_out r F P → flow_in r F Q ≡ flow_out r F Q
  balanced-same b = sym flow_in-same ∙ b ∙ flow_out-same
