-- Numbers of the trees tell them apart; those of trees within tiles are the numbers of the regions.
use Rattle.std.proofs.Common.{◌≡◌, ℕ, zero, suc, ◌+◌, ◌*◌, ◌/◌, ◌%◌, ◌<◌, ◌≤◌, ◌⊎◌, inl, inr, sym, ◌∙◌, ap, refl, arith, Bool, true, false, List, ne_eqb}
use Rattle.std.specs.Prelude.{IsTrue, ◌↔◌, ◌==◌, if◌then◌else◌, Some, None, slice_index}
use Rattle.std.proofs.lemmas.Nat.{mod-mul-add, div-mul-add, div-add-mod', mod_below, div_below, mul-le, mul-add-lt}
use Rattle.raster_model.specs.declared.edge.Edge.{Edge}
use Rattle.raster_model.specs.Sums.{Field, end_x, end_y, right_edge, down_edge}
use Rattle.raster_model.specs.Raster.{Raster}
use Rattle.raster_model.specs.Seams.{IsEarlier, IsFirst, AreRegions}
use Rattle.joined_cells.specs.Flood.{is_first, firsts_before, tree_number, IsFlooded, IsNumbered}
use Rattle.joined_cells.specs.Joining.{AreJoinedBy, AreTreeNumbers, IsFirstOf, IsOpenOf, Joining, joins, tiles_joined}
use Rattle.joined_cells.specs.Joining.AreJoinedBy.{here, rightward, leftward, downward, upward}
use Rattle.joined_cells.proofs.EdgeLemmas.{ends_in}
use Rattle.joined_cells.specs.Trees.{HasTreeNumbers}
use Rattle.joined_cells.proofs.NumberLemmas.{at_place, count_within, firsts_before-more}
use Rattle.joined_cells.proofs.WalkLemmas.{of_tiles, open_along, walk_sym, walk_trans, within_tiles}
use Rattle.sums_and_lists.proofs.Tests.{both_told, tells_both}
use Rattle.sums_and_lists.proofs.Orders.{below_at_above}
use Rattle.raster_model.proofs.RegionNumbers.{earlier_place}
use Rattle.sums_and_lists.specs.Sums.{count_below, one_if}
use Rattle.sums_and_lists.proofs.CountLemmas.{count_below-le}
use Rattle.std.proofs.lemmas.Bool.{cases_Bool}

-- ---- order of places

place_in : (w h i : ℕ) → 0 < w → i < h * w → (i % w < w) × (i / w < h)
place_in w h i p l = (mod_below i w p, div_below i w h p l)

earlier_from : (w i x y : ℕ) → 0 < w → x < w → i < y * w + x → IsEarlier (i % w) (i / w) x y
earlier_from w i x y p l m =
    let s = div-add-mod' i w in
    elim (below_at_above (i / w) y) [
      | inl k ↦ inl k
      | inr k ↦ elim k [
        | inl e ↦ (let f : i / w * w ≡ y * w = ap (λ (n : ℕ). n * w) e in inr (e, omega (arith, s, f, m)))
        | inr k ↦ absurd (let n : suc y * w ≤ i / w * w = mul-le (suc y) w (i / w) w (omega arith) (omega arith) in omega (arith, s, n, m, l))
      ]
    ]

-- ---- counts of first pixels tell them apart
one_if_true : (b : Bool) → b ≡ true → one_if b ≡ 1
one_if_true b e = rw e refl

split_one : (b : Bool) (v n : ℕ) → v < n + one_if b → (v < n) ⊎ ((b ≡ true) × (v ≡ n))
split_one true v n l = grind arith
split_one false v n l = inl (omega arith)

module _ (w : ℕ) (mask : Field Bool) (root : ℕ → ℕ) where
  counts_rise : (i k : ℕ) → is_first w mask root i ≡ true → i < k → firsts_before w mask root i < firsts_before w mask root k
  counts_rise i k f l =
      omega (arith, firsts_before-more w mask root i, one_if_true (is_first w mask root i) f, count_below-le (i + 1) k (λ j. one_if (is_first w mask root j)) (omega arith))

  counts_tell : (i k : ℕ) → is_first w mask root i ≡ true → is_first w mask root k ≡ true → firsts_before w mask root i ≡ firsts_before w mask root k → i ≡ k
  counts_tell i k f h e = elim (below_at_above i k) [
    | inl l ↦ absurd (omega (arith, counts_rise i k f l, e))
    | inr t ↦ elim t [ inl s ↦ s | inr l ↦ absurd (omega (arith, counts_rise k i h l, e)) ]
  ]

  counts_reach : (k v : ℕ) → v < firsts_before w mask root k → (i : ℕ) × (i < k) × (is_first w mask root i ≡ true) × (firsts_before w mask root i ≡ v)
  unfolding count_below
  counts_reach zero v l = absurd (omega arith)
  counts_reach (suc k) v l = elim (split_one (is_first w mask root k) v (firsts_before w mask root k) l) [
    | inl m ↦ (let u = counts_reach k v m in (u.0, omega (arith, u.1), u.2, u.3))
    | inr t ↦ (k, omega arith, t.0, sym t.1)
  ]

-- ---- roots after all edges
module _ (joining : Joining) (root : ℕ → ℕ) (is : IsFlooded joining (2 * (joining.height * joining.width)) root) where
  edge_roots : (e : Edge) → IsTrue (joins joining e) → root (e.y * joining.width + e.x) ≡ root (end_y e * joining.width + end_x e)
  edge_roots e i =
      let t = ends_in joining e i in
      let within : end_y e * joining.width + end_x e < joining.width * joining.height = mul-add-lt (end_y e) joining.width (end_x e) joining.height t.3 t.2 in
      let turned : joining.width * joining.height ≡ joining.height * joining.width = omega arith in
      is.edges e i (number_fits e.down (end_y e * joining.width + end_x e) (joining.height * joining.width) (omega (arith, within, turned)))
    where
      number_fits : (d : Bool) (p n : ℕ) → p < n → 2 * p + (if d then 1 else 0) < 2 * n
      number_fits true p n l = omega arith
      number_fits false p n l = omega arith

  walk_roots : {x y a b : ℕ} → AreJoinedBy joining x y a b → root (y * joining.width + x) ≡ root (b * joining.width + a)
  walk_roots here = refl
  walk_roots (rightward {a = a} {b = b} p i) = walk_roots p ∙ edge_roots (right_edge a b) i
  walk_roots (leftward {a = a} {b = b} p i) = walk_roots p ∙ sym (edge_roots (right_edge a b) i)
  walk_roots (downward {a = a} {b = b} p i) = walk_roots p ∙ edge_roots (down_edge a b) i
  walk_roots (upward {a = a} {b = b} p i) = walk_roots p ∙ sym (edge_roots (down_edge a b) i)

  -- the walk from a pixel to its root
  root_walk : (x y : ℕ) → x < joining.width → AreJoinedBy joining x y (root (y * joining.width + x) % joining.width) (root (y * joining.width + x) / joining.width)
  root_walk x y l = rw (mod-mul-add y joining.width x l, div-mul-add y joining.width x l) at (is.walks (y * joining.width + x))

  root_first : (x y : ℕ) → x < joining.width → IsTrue (joining.mask x y) → is_first joining.width joining.mask root (root (y * joining.width + x)) ≡ true
  root_first x y l o =
      let i = root (y * joining.width + x) in
      both_told (joining.mask (i % joining.width) (i / joining.width)) (root i) i (open_along (root_walk x y l) o) (is.stays (y * joining.width + x))

  joined_from : (x y a b : ℕ) → x < joining.width → a < joining.width → root (y * joining.width + x) ≡ root (b * joining.width + a) → AreJoinedBy joining x y a b
  joined_from x y a b l m e = walk_trans (root_walk x y l) (rw e (walk_sym (root_walk a b m)))

  inside : (x y : ℕ) → x < joining.width → y < joining.height → y * joining.width + x < joining.height * joining.width
  inside x y l m = let t : joining.width * joining.height ≡ joining.height * joining.width = omega arith in omega (arith, t, mul-add-lt y joining.width x joining.height m l)

  -- a first pixel is the root of its tree
  first_root : (x y : ℕ) → IsFirstOf joining x y → root (y * joining.width + x) ≡ y * joining.width + x
  first_root x y f =
      let o = f.0 in
      let i = root (y * joining.width + x) in
      elim (below_at_above i (y * joining.width + x)) [
        | inl l ↦ absurd (
            let p = place_in joining.width joining.height i (omega (arith, o.0)) (omega (arith, l, inside x y o.0 o.1)) in
            f.1 (i % joining.width) (i / joining.width) (p.0, p.1, open_along (root_walk x y o.0) o.2) (earlier_from joining.width i x y (omega (arith, o.0)) o.0 l) (root_walk x y o.0))
        | inr k ↦ elim k [ inl e ↦ e | inr l ↦ absurd (omega (arith, is.least (y * joining.width + x), l)) ]
      ]

-- ---- the label of an open pixel, and of a masked one
number_open : (w : ℕ) (mask : Field Bool) (root : ℕ → ℕ) (i : ℕ) → mask (i % w) (i / w) ≡ true → tree_number w mask root i ≡ firsts_before w mask root (root i)
number_open w mask root i o = rw o refl

number_masked : (w : ℕ) (mask : Field Bool) (root : ℕ → ℕ) (i : ℕ) → mask (i % w) (i / w) ≡ false → tree_number w mask root i ≡ 4294967295
number_masked w mask root i o = rw o refl

told_open : (m : Bool) (label : ℕ) → m ≡ true → label < 4294967295 → (if label == 4294967295 then None else Some label) ≡ (if m then Some label else None)
told_open m label o l = rw o (chosen label l)
  where
    chosen : (label : ℕ) → label < 4294967295 → (if label == 4294967295 then None else Some label) ≡ Some label
    chosen label l = rw (ne_eqb label 4294967295 (omega arith)) refl

told_masked : (m : Bool) (label : ℕ) → m ≡ false → label ≡ 4294967295 → (if label == 4294967295 then None else Some label) ≡ (if m then Some label else None)
told_masked m label o e = rw (o, e) refl

module _ (joining : Joining) (labels : List ℕ) (count : ℕ) (wide : 0 < joining.width) (is : IsNumbered joining (joining.height * joining.width) count labels) where
  label_open : (x y : ℕ) → x < joining.width → y < joining.height → IsTrue (joining.mask x y) → slice_index labels (y * joining.width + x) ≡ firsts_before joining.width joining.mask is.root (is.root (y * joining.width + x))
  label_open x y l m o =
      is.numbers (y * joining.width + x) (inside joining is.root is.flooded x y l m)
      ∙ number_open joining.width joining.mask is.root (y * joining.width + x) (at_place joining x y l ∙ o)

  label_below : (x y : ℕ) → x < joining.width → y < joining.height → IsTrue (joining.mask x y) → slice_index labels (y * joining.width + x) < count
  label_below x y l m o =
      let rise = counts_rise joining.width joining.mask is.root (is.root (y * joining.width + x)) (joining.height * joining.width) (root_first joining is.root is.flooded x y l o) (omega (arith, is.flooded.least (y * joining.width + x), inside joining is.root is.flooded x y l m)) in
      omega (arith, label_open x y l m o, is.counted, rise)

  label_used : (v : ℕ) → v < count → (x : ℕ) × (y : ℕ) × IsOpenOf joining x y × (slice_index labels (y * joining.width + x) ≡ v)
  label_used v l =
      let u = counts_reach joining.width joining.mask is.root (joining.height * joining.width) v (omega (arith, l, is.counted)) in
      let i = u.0 in
      let p = place_in joining.width joining.height i wide u.1 in
      let f = tells_both (joining.mask (i % joining.width) (i / joining.width)) (is.root i) i u.2 in
      let whole = div-add-mod' i joining.width in
      let number : slice_index labels i ≡ v = is.numbers i u.1 ∙ number_open joining.width joining.mask is.root i f.0 ∙ ap (firsts_before joining.width joining.mask is.root) f.1 ∙ u.3 in
      (i % joining.width, i / joining.width, (p.0, p.1, f.0), rw whole number)

  label_same : (x y a b : ℕ) → IsOpenOf joining x y → IsOpenOf joining a b → (slice_index labels (y * joining.width + x) ≡ slice_index labels (b * joining.width + a)) ↔ AreJoinedBy joining x y a b
  label_same x y a b u v =
      let one = label_open x y u.0 u.1 u.2 in
      let other = label_open a b v.0 v.1 v.2 in (
        λ e. joined_from joining is.root is.flooded x y a b u.0 v.0 (
            counts_tell joining.width joining.mask is.root (is.root (y * joining.width + x)) (is.root (b * joining.width + a)) (root_first joining is.root is.flooded x y u.0 u.2) (root_first joining is.root is.flooded a b v.0 v.2) (sym one ∙ e ∙ other)),
        λ j. one ∙ ap (firsts_before joining.width joining.mask is.root) (walk_roots joining is.root is.flooded j) ∙ sym other,
      )

  label_order : (x y a b : ℕ) → IsFirstOf joining x y → IsFirstOf joining a b → IsEarlier x y a b → slice_index labels (y * joining.width + x) < slice_index labels (b * joining.width + a)
  label_order x y a b f h e =
      let u = f.0 in
      let v = h.0 in
      let p = first_root joining is.root is.flooded x y f in
      let q = first_root joining is.root is.flooded a b h in
      let first : is_first joining.width joining.mask is.root (y * joining.width + x) ≡ true = rw p at (root_first joining is.root is.flooded x y u.0 u.2) in
      let rise = counts_rise joining.width joining.mask is.root (y * joining.width + x) (b * joining.width + a) first (earlier_place joining.width x y a b u.0 e) in
      let one = label_open x y u.0 u.1 u.2 ∙ ap (firsts_before joining.width joining.mask is.root) p in
      let other = label_open a b v.0 v.1 v.2 ∙ ap (firsts_before joining.width joining.mask is.root) q in
      omega (arith, one, other, rise)

  pub tree_numbers : AreTreeNumbers joining (λ x y. slice_index labels (y * joining.width + x)) count
  tree_numbers = record {
    below = λ x y o. label_below x y o.0 o.1 o.2;
    used = label_used;
    same = label_same;
    in_order = label_order;
  }

  -- a label is that of a pixel of a region, or none
  pub label_told : count < 4294967295 → (x y : ℕ) → x < joining.width → y < joining.height → (if slice_index labels (y * joining.width + x) == 4294967295 then None else Some (slice_index labels (y * joining.width + x))) ≡ (if joining.mask x y then Some (slice_index labels (y * joining.width + x)) else None)
  label_told few x y l h = elim (cases_Bool (joining.mask x y)) [
    | inl o ↦ told_open (joining.mask x y) (slice_index labels (y * joining.width + x)) o (omega (arith, few, label_below x y l h o))
    | inr o ↦ told_masked (joining.mask x y) (slice_index labels (y * joining.width + x)) o (is.numbers (y * joining.width + x) (inside joining is.root is.flooded x y l h) ∙ number_masked joining.width joining.mask is.root (y * joining.width + x) (at_place joining x y l ∙ o))
  ]

  -- each number is that of an earlier place
  pub label_at_place : (n : ℕ) → n < count → (i : ℕ) × (i < joining.height * joining.width) × (slice_index labels i ≡ n)
  label_at_place n l =
      let u = label_used n l in
      (u.1 * joining.width + u.0, inside joining is.root is.flooded u.0 u.1 u.2.0 u.2.1, u.3)

  -- a label that is one is below the count
  pub label_fits : (i : ℕ) → i < joining.height * joining.width → slice_index labels i < 4294967295 → slice_index labels i < count
  label_fits i m l =
      let p = place_in joining.width joining.height i wide m in
      let e : i / joining.width * joining.width + i % joining.width ≡ i = div-add-mod' i joining.width in
      elim (cases_Bool (joining.mask (i % joining.width) (i / joining.width))) [
        | inl o ↦ (let b = label_below (i % joining.width) (i / joining.width) p.0 p.1 o in rw e at b)
        | inr o ↦ absurd (omega (arith, is.numbers i m, number_masked joining.width joining.mask is.root i o, l))
      ]

  pub has_tree_numbers : HasTreeNumbers joining labels count
  has_tree_numbers = record {
    full = is.size;
    told = tree_numbers;
    masked = λ x y l m o.
        is.numbers (y * joining.width + x) (inside joining is.root is.flooded x y l m)
        ∙ number_masked joining.width joining.mask is.root (y * joining.width + x) (at_place joining x y l ∙ o);
    few = omega (arith, count_within joining (joining.height * joining.width) count labels is);
  }

-- ---- numbers of trees within tiles
module _ (r : Raster) (mask : Field Bool) (labels : List ℕ) (count : ℕ) (wide : 0 < r.width) (is : IsNumbered (tiles_joined r mask) (r.height * r.width) count labels) where
  first_within : {x y : ℕ} → IsFirst r mask x y → IsFirstOf (tiles_joined r mask) x y
  first_within f = (f.0, λ a b o e j. f.1 a b o e (of_tiles j))

  pub are_regions : AreRegions r mask (λ x y. slice_index labels (y * r.width + x)) count
  are_regions =
      let told = tree_numbers (tiles_joined r mask) labels count wide is in
      record {
        labelling = record {
          below = told.below;
          used = told.used;
          same = λ x y a b u v. (let s = told.same x y a b u v in (λ e. of_tiles (s.0 e), λ j. s.1 (within_tiles j)));
        };
        in_order = λ x y a b f g e. told.in_order x y a b (first_within f) (first_within g) e;
      }
