-- Keys that are the same at all pixels of a raster have the same patches.
use Rattle.std.proofs.Common.{◌≡◌, ℕ, ◌<◌, sym, ◌∙◌, ap, subst}
use Rattle.std.specs.Prelude.{ℤ, IsTrue, ◌==◌, not, Some, None, if◌then◌else◌}
use Rattle.raster_model.specs.declared.edge.Edge.{Edge}
use Rattle.raster_model.specs.Seams.{AreJoined, IsFirst, IsOpenPixel, is_open_inner}
use Rattle.raster_model.specs.Seams.AreJoined.{here, rightward, leftward, downward, upward}
use Rattle.raster_model.specs.Sums.{Field, end_x, end_y, right_edge, down_edge}
use Rattle.joined_cells.proofs.EdgeLemmas.{ends_in, ends_open}
use Rattle.joined_cells.proofs.TileLemmas.{ends_same, inner_open}
use Rattle.auto_masks.specs.Flood.{keys_joined}
use Rattle.auto_masks.specs.Patches.{ArePatchesOf, is_keyed, key_number, keyed, patch_label}
use Rattle.auto_masks.specs.PatchesView.{PatchesView}

module _ (w h : ℕ) (K L : Field ℤ) (same : (x y : ℕ) → x < w → y < h → K x y ≡ L x y) where
  open_too : (x y : ℕ) → IsOpenPixel (keyed w h K) (is_keyed K) x y → IsOpenPixel (keyed w h L) (is_keyed L) x y
  open_too x y o = (o.0, o.1, subst (λ (k : ℤ). IsTrue (not (key_number k == 0))) (same x y o.0 o.1) o.2)

  inner_too : (e : Edge) → IsTrue (is_open_inner (keyed w h K) (is_keyed K) e) → IsTrue (is_open_inner (keyed w h L) (is_keyed L) e)
  inner_too e t =
      let i = ends_in (keys_joined w h K) e t in
      let o = ends_open (keys_joined w h K) e t in
      let s = same e.x e.y i.0 i.1 in
      let f = same (end_x e) (end_y e) i.2 i.3 in
      inner_open (keyed w h L) (is_keyed L) e i.0 i.1 i.2 i.3
      (sym (ap key_number s) ∙ ends_same (keyed w h K) (is_keyed K) e t ∙ ap key_number f)
      (subst (λ (k : ℤ). IsTrue (not (key_number k == 0))) s o.0)
      (subst (λ (k : ℤ). IsTrue (not (key_number k == 0))) f o.1)

  joined_too : {x y a b : ℕ} → AreJoined (keyed w h K) (is_keyed K) x y a b → AreJoined (keyed w h L) (is_keyed L) x y a b
  joined_too here = here
  joined_too (rightward {a = a} {b = b} p i) = rightward (joined_too p) (inner_too (right_edge a b) i)
  joined_too (leftward {a = a} {b = b} p i) = leftward (joined_too p) (inner_too (right_edge a b) i)
  joined_too (downward {a = a} {b = b} p i) = downward (joined_too p) (inner_too (down_edge a b) i)
  joined_too (upward {a = a} {b = b} p i) = upward (joined_too p) (inner_too (down_edge a b) i)

module _ (w h : ℕ) (K L : Field ℤ) (same : (x y : ℕ) → x < w → y < h → K x y ≡ L x y) where
  back : (x y : ℕ) → x < w → y < h → L x y ≡ K x y
  back x y l m = sym (same x y l m)

  first_too : (x y : ℕ) → IsFirst (keyed w h L) (is_keyed L) x y → IsFirst (keyed w h K) (is_keyed K) x y
  first_too x y f = (open_too w h L K back x y f.0, λ a b o e j. f.1 a b (open_too w h K L same a b o) e (joined_too w h K L same j))

  pub patches_too : (v : PatchesView) → ArePatchesOf w h K v → ArePatchesOf w h L v
  patches_too v is = record {
    width = is.width;
    height = is.height;
    full = is.full;
    patches = record {
      labelling = record {
        below = λ x y o. is.patches.labelling.below x y (open_too w h L K back x y o);
        used = λ n l. (let u = is.patches.labelling.used n l in (u.0, u.1, open_too w h K L same u.0 u.1 u.2, u.3));
        same = λ x y a b o p.
            (let s = is.patches.labelling.same x y a b (open_too w h L K back x y o) (open_too w h L K back a b p) in
            (λ e. joined_too w h K L same (s.0 e), λ j. s.1 (joined_too w h L K back j)));
      };
      in_order = λ x y a b f g e. is.patches.in_order x y a b (first_too x y f) (first_too a b g) e;
    };
    told = λ x y l m. is.told x y l m ∙ ap (λ (k : ℤ). if not (key_number k == 0) then Some (patch_label v x y) else None) (same x y l m);
    few = is.few;
  }
