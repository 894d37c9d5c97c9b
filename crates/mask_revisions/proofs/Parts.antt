-- An edit tile by tile: the part of its box in each tile, and the mask in between.
use Rattle.std.proofs.Common.{◌≡◌, ℕ, ◌+◌, ◌<◌, ◌≤◌, ◌∙◌, ap₂, sym, refl, arith, Bool, true, false, max, min, MatchBool, eqb-true, eq-eqb}
use Rattle.std.specs.Prelude.{IsTrue, ◌&&◌, ◌||◌, ◌==◌, nat_lt, if◌then◌else◌}
use Rattle.std.proofs.lemmas.Bool.{and_parts, and_from}
use Rattle.std.proofs.lemmas.Bool.Decides.{nat_tests}
use Rattle.raster_model.specs.declared.script.Edit.{Edit}
use Rattle.raster_model.specs.declared.script.Rect.{Rect}
use Rattle.raster_model.specs.declared.tiling.Tiling.{Tiling}
use Rattle.raster_model.specs.declared.tiling.Window.{Window}
use Rattle.raster_model.specs.MaskView.{MaskView}
use Rattle.raster_model.specs.Masks.{open_at, IsMaskOf}
use Rattle.raster_model.specs.Scripts.{IsRectIn, rect_of}
use Rattle.raster_model.specs.Tiles.{tile_at, IsWindowOf, IsWithin}
use Rattle.mask_revisions.specs.Edits.{has_pixel, opens, edited, differ_in}
use Rattle.mask_revisions.specs.Revisions.{Meets}
use Rattle.mask_revisions.specs.Steps.{IsAll, HasOther, IsBoxSet, IsPartOf, edited_before, met_tile, count_met}
use Rattle.mask_revisions.proofs.Boxes.{same_box}
use Rattle.mask_revisions.proofs.Differences.{box_has, box_says, chosen, chosen_from, differ_from, differ_tells}
use Rattle.mask_revisions.proofs.MetTiles.{before_first, before_next, before_end}

-- ---- the part in a tile
same_tests : (a b : Bool) → (a ≡ true → b ≡ true) → (b ≡ true → a ≡ true) → a ≡ b
same_tests true b f g = sym (f refl)
same_tests false true f g = g refl
same_tests false false f g = refl

-- its corners are the inner ones of the box and of the tile's window
pub part_is : (g : Tiling) (r : Rect) (t : ℕ) (v : Window) (part : Rect) → IsRectIn g.width g.height r → IsWindowOf g t v → Meets g r t
    → part.x0 ≡ max r.x0 v.x0 → part.x1 ≡ min r.x1 v.x1 → part.y0 ≡ max r.y0 v.y0 → part.y1 ≡ min r.y1 v.y1 → IsPartOf g r t part
part_is g r t v part is window meets ex fx ey fy = record {
  inside = (omega (arith, b, w, ex, fx), omega (arith, fx, is), omega (arith, b, w, ey, fy), omega (arith, fy, is));
  pixels = λ x y l m. same_tests (has_pixel part x y) (has_pixel r x y && (tile_at g x y == t))
      (λ h. (
      let p = box_says part x y h in
      let within = (window.pixels x y l m).1 (omega (arith, p, ex), omega (arith, p, fx), omega (arith, p, ey), omega (arith, p, fy)) in
      and_from (has_pixel r x y) (tile_at g x y == t) (box_has r x y (omega (arith, p, ex)) (omega (arith, p, fx)) (omega (arith, p, ey)) (omega (arith, p, fy))) (eq-eqb (tile_at g x y) t within)))
      (λ h. (
      let q = and_parts (has_pixel r x y) (tile_at g x y == t) h in
      let p = box_says r x y q.0 in
      let within = (window.pixels x y l m).0 (eqb-true (tile_at g x y) t q.1) in
      box_has part x y (omega (arith, p, within, ex)) (omega (arith, p, within, fx)) (omega (arith, p, within, ey)) (omega (arith, p, within, fy))));
}
  where
    b : (r.x0 ≤ meets.0) × (meets.0 ≤ r.x1) × (r.y0 ≤ meets.1) × (meets.1 ≤ r.y1)
    b = box_says r meets.0 meets.1 meets.4

    w : IsWithin v meets.0 meets.1
    w = (window.pixels meets.0 meets.1 meets.2 meets.3).0 meets.5

-- ---- a choice by two tests
none_before : (k a u o : Bool) → (IsTrue k → a ≡ false) → (if k && a then u else o) ≡ o
none_before true a u o h = rw (h refl) refl
none_before false a u o h = refl

all_before : (k a u o : Bool) → (IsTrue k → a ≡ true) → (if k && a then u else o) ≡ (if k then u else o)
all_before true a u o h = rw (h refl) refl
all_before false a u o h = refl

one_more : (k a e b u o : Bool) → (IsTrue k → b ≡ (a || e)) → (if k && e then u else (if k && a then u else o)) ≡ (if k && b then u else o)
one_more true true true b u o h = rw (h refl) refl
one_more true true false b u o h = rw (h refl) refl
one_more true false true b u o h = rw (h refl) refl
one_more true false false b u o h = rw (h refl) refl
one_more false a e b u o h = refl

not_before : (t b : ℕ) → t ≡ b → nat_lt t b ≡ false
not_before t b e = grind (arith, nat_tests)

-- ---- the mask before each tile
module _ (g : Tiling) (e : Edit) (is : IsRectIn g.width g.height (rect_of e)) (m : MaskView) where
  pub edited_none : IsMaskOf m m.width m.height (edited_before g (met_tile g (rect_of e) 0) e (open_at m))
  edited_none = record {
    width = refl;
    height = refl;
    clear_at = λ x y l n. sym (none_before (has_pixel (rect_of e) x y) (nat_lt (tile_at g x y) (met_tile g (rect_of e) 0)) (opens e) (open_at m x y) (before_first g (rect_of e) is x y));
  }

  pub edited_all : (m' : MaskView) → IsMaskOf m' m.width m.height (edited_before g (met_tile g (rect_of e) (count_met g (rect_of e))) e (open_at m)) → IsMaskOf m' m.width m.height (edited e (open_at m))
  edited_all m' before = record {
    width = before.width;
    height = before.height;
    clear_at = λ x y l n. before.clear_at x y l n ∙ all_before (has_pixel (rect_of e) x y) (nat_lt (tile_at g x y) (met_tile g (rect_of e) (count_met g (rect_of e)))) (opens e) (open_at m x y) (before_end g (rect_of e) is x y);
  }

  module _ (w : m.width ≡ g.width) (h : m.height ≡ g.height) (m' : MaskView) (k : ℕ) (before : IsMaskOf m' m.width m.height (edited_before g (met_tile g (rect_of e) k) e (open_at m))) (part : Rect) (part_of : IsPartOf g (rect_of e) (met_tile g (rect_of e) k) part) where
    pub edited_more : (m'' : MaskView) → IsBoxSet m' m'' part.x0 (part.x1 + 1) part.y0 (part.y1 + 1) (opens e) → IsMaskOf m'' m.width m.height (edited_before g (met_tile g (rect_of e) (k + 1)) e (open_at m))
    edited_more m'' set = record {
      width = set.width ∙ before.width;
      height = set.height ∙ before.height;
      clear_at = λ x y l n.
          set.pixels x y (rw before.width l) (rw before.height n)
          ∙ ap₂ (λ (i o : Bool). if i then opens e else o) (same_box part x y ∙ part_of.pixels x y (rw w at l) (rw h at n)) (before.clear_at x y l n)
          ∙ one_more (has_pixel (rect_of e) x y) (nat_lt (tile_at g x y) (met_tile g (rect_of e) k)) (tile_at g x y == met_tile g (rect_of e) k) (nat_lt (tile_at g x y) (met_tile g (rect_of e) (k + 1))) (opens e) (open_at m x y) (before_next g (rect_of e) is k x y);
    }

    -- its own pixels are as they were
    as_before : (x y : ℕ) → x < g.width → y < g.height → tile_at g x y ≡ met_tile g (rect_of e) k → open_at m' x y ≡ open_at m x y
    as_before x y l n t =
        before.clear_at x y (rw w l) (rw h n)
        ∙ none_before (has_pixel (rect_of e) x y) (nat_lt (tile_at g x y) (met_tile g (rect_of e) k)) (opens e) (open_at m x y) (λ _. not_before (tile_at g x y) (met_tile g (rect_of e) k) t)

    pub part_tells : (b : Bool) → MatchBool b (HasOther (open_at m') part.x0 (part.x1 + 1) part.y0 (part.y1 + 1) (opens e)) (IsAll (open_at m') part.x0 (part.x1 + 1) part.y0 (part.y1 + 1) (opens e)) → b ≡ differ_in g (open_at m) (edited e (open_at m)) (met_tile g (rect_of e) k)
    part_tells true o =
        let x = o.0 in
        let y = o.1 in
        let l : x < g.width = omega (arith, o.3, part_of.inside) in
        let n : y < g.height = omega (arith, o.5, part_of.inside) in
        let box = box_has part x y o.2 (omega (arith, o.3)) o.4 (omega (arith, o.5)) in
        let both = and_parts (has_pixel (rect_of e) x y) (tile_at g x y == met_tile g (rect_of e) k) (sym (part_of.pixels x y l n) ∙ box) in
        let t = eqb-true (tile_at g x y) (met_tile g (rect_of e) k) both.1 in
        sym (differ_from g (open_at m) (edited e (open_at m)) (met_tile g (rect_of e) k) x y l n t (chosen_from (has_pixel (rect_of e) x y) (opens e) (open_at m x y) both.0 (λ s. o.6 (as_before x y l n t ∙ s))))
    part_tells false all = none (differ_in g (open_at m) (edited e (open_at m)) (met_tile g (rect_of e) k)) refl
      where
        none : (b : Bool) → differ_in g (open_at m) (edited e (open_at m)) (met_tile g (rect_of e) k) ≡ b → false ≡ b
        none false s = refl
        none true s =
            let d = differ_tells g (open_at m) (edited e (open_at m)) (met_tile g (rect_of e) k) s in
            let c = chosen (has_pixel (rect_of e) d.0 d.1) (opens e) (open_at m d.0 d.1) d.5 in
            let box = part_of.pixels d.0 d.1 d.2 d.3 ∙ and_from (has_pixel (rect_of e) d.0 d.1) (tile_at g d.0 d.1 == met_tile g (rect_of e) k) c.0 (eq-eqb (tile_at g d.0 d.1) (met_tile g (rect_of e) k) d.4) in
            let p = box_says part d.0 d.1 box in
            absurd (c.1 (sym (as_before d.0 d.1 d.2 d.3 d.4) ∙ all d.0 d.1 p.0 (omega (arith, p)) p.2 (omega (arith, p))))
