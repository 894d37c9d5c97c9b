-- What three grids leave around the loop has one text.
use Rattle.std.proofs.Common.{◌≡◌, ◌∙◌, ℕ, ◌+◌, ◌*◌, ◌/◌, ◌%◌, ◌<◌, ℤ, pos, Bool, false, List, ◌++◌, length, get_or, inl, inr, refl, sym, ap, subst, arith}
use Rattle.std.specs.Prelude.{◌==◌, Some, None, codes, if◌then◌else◌}
use Rattle.std.specs.List.{count_by}
use Rattle.std.proofs.lemmas.Bool.{cases_Bool, cases_lt, eqb-true}
use Rattle.std.proofs.lemmas.List.{ext_get_or}
use Rattle.std.proofs.lemmas.Nat.{mul-le}
use Rattle.auto_masks.specs.Patches.{ArePatchesOf, first_column, first_row, is_keyed, key_at, keyed, patch_at, patch_label, patch_size}
use Rattle.auto_masks.specs.PatchesView.{PatchesView}
use Rattle.raster_model.specs.Sums.{Field}
use Rattle.raster_model.proofs.RegionNumbers.{region_numbers_are_unique}
use Rattle.text_lines.specs.Numbers.{number_text}
use Rattle.text_lines.specs.Text.{field_text, texts_below}
use Rattle.grid_writer.specs.declared.values.Grid.{Grid}
use Rattle.grid_writer.specs.Grids.{text_of_grid, value_at}
use Rattle.grid_writer.specs.Values.{is_value}
use Rattle.loop_closure.specs.declared.loops.Loops.{Loops}
use Rattle.loop_closure.specs.Closure.{AreCyclesIn, is_misclosed, keys_of}
use Rattle.loop_closure.specs.LoopText.{counts_line, loops_text, patch_line}
use Rattle.loop_closure.specs.Laws.{LoopsHaveOneText}
use Rattle.loop_closure.proofs.LoopLemmas.{one_number}

-- lists with one value at each pixel are equal
module _ {A : Type 0} (d : A) (w h : ℕ) (p q : List A) (e : length p ≡ w * h) (f : length q ≡ w * h) where
  row : (k y : ℕ) → 0 < w → k < w * h → y * w + k % w ≡ k → y < h
  row k y some lt at = elim (cases_lt y h) [ inl less ↦ less | inr le ↦ absurd (let m = mul-le h w y w le (omega arith) in omega (arith, m, at, lt)) ]

  wide : (k : ℕ) → k < w * h → 0 < w
  wide k lt = elim (cases_lt 0 w) [ inl less ↦ less | inr none ↦ (let z : w ≡ 0 = omega (arith, none) in absurd (omega (arith, lt, ap (λ (n : ℕ). n * h) z))) ]

  same_at : ((x y : ℕ) → x < w → y < h → get_or p (y * w + x) d ≡ get_or q (y * w + x) d) → (k : ℕ) → k < length p → get_or p k d ≡ get_or q k d
  same_at same k lt =
      let inside : k < w * h = omega (arith, lt, e) in
      let some : 0 < w = wide k inside in
      let whole : (k / w) * w + k % w ≡ k = omega arith in
      subst (λ (i : ℕ). get_or p i d ≡ get_or q i d) whole (same (k % w) (k / w) (omega arith) (row k (k / w) some inside whole))

  same_pixels : ((x y : ℕ) → x < w → y < h → get_or p (y * w + x) d ≡ get_or q (y * w + x) d) → p ≡ q
  same_pixels same = ext_get_or d p q (e ∙ sym f) (same_at same)

-- two grids of one size with one value at each pixel
list_full : (g : Grid) → length g.values.items ≡ g.width * g.height
list_full g = sym g.values.ok.0 ∙ g.full

same_grids : (one other : Grid) → one.width ≡ other.width → one.height ≡ other.height → ((x y : ℕ) → x < one.width → y < one.height → value_at one.width one.values.items x y ≡ value_at other.width other.values.items x y) → one.values.items ≡ other.values.items
same_grids one other e f same =
    same_pixels (pos 0) one.width one.height one.values.items other.values.items (list_full one) (rw (e, f) (list_full other))
    (λ x y lx ly. same x y lx ly ∙ ap (λ (w : ℕ). value_at w other.values.items x y) (sym e))

-- a closure has one number of cycles
one_cycle : (closure m n : ℤ) → AreCyclesIn closure m → AreCyclesIn closure n → m ≡ n
one_cycle closure m n a b = elim (cases_Bool (is_value closure)) [
  | inl there ↦ one_number closure m n (a.0 there) (b.0 there)
  | inr none ↦ a.1 none ∙ sym (b.1 none)
]

-- ---- keys have one list of labels, where this stands for none
abbrev no_label : ℕ
no_label = 4294967295

absent : (label : ℕ) → (if label == no_label then None else Some label) ≡ None → label ≡ no_label
absent label e = elim (cases_Bool (label == no_label)) [
  | inl same ↦ eqb-true label no_label same
  | inr other ↦ absurd (let f : Some label ≡ None = rw other at e in cc)
]

module _ (w h : ℕ) (keys : Field ℤ) (v u : PatchesView) (p : ArePatchesOf w h keys v) (q : ArePatchesOf w h keys u) where
  unlabelled : (t : PatchesView) (x y : ℕ) → patch_at t x y ≡ (if is_keyed keys x y then Some (patch_label t x y) else None) → is_keyed keys x y ≡ false → patch_label t x y ≡ no_label
  unlabelled t x y told none = absent (patch_label t x y) (subst (λ (b : Bool). patch_at t x y ≡ (if b then Some (patch_label t x y) else None)) none told)

  one_label : (x y : ℕ) → x < w → y < h → patch_label v x y ≡ patch_label u x y
  one_label x y lx ly = elim (cases_Bool (is_keyed keys x y)) [
    | inl there ↦ (region_numbers_are_unique (keyed w h keys) (is_keyed keys) (patch_label v) v.count (patch_label u) u.count p.patches q.patches).1 x y (lx, ly, there)
    | inr none ↦ unlabelled v x y (p.told x y lx ly) none ∙ sym (unlabelled u x y (q.told x y lx ly) none)
  ]

  one_count : v.count ≡ u.count
  one_count = (region_numbers_are_unique (keyed w h keys) (is_keyed keys) (patch_label v) v.count (patch_label u) u.count p.patches q.patches).0

  one_list : v.labels ≡ u.labels
  one_list = same_pixels 0 w h v.labels u.labels p.full q.full (λ x y lx ly. ap (λ (k : ℕ). get_or v.labels (y * k + x) 0) (sym p.width) ∙ one_label x y lx ly ∙ ap (λ (k : ℕ). get_or u.labels (y * k + x) 0) q.width)

-- ---- the text by its lists
text_by : (width height : ℕ) → List ℤ → (across along : ℕ) → List ℤ → (wide high : ℕ) → List ℕ → ℕ → List ℕ
text_by width height closures across along cycles wide high labels count =
    let patches : PatchesView = record { width = wide; height = high; labels = labels; count = count } in
    (codes "closure" ++ (field_text (count_by is_value closures) ++ (field_text (count_by is_misclosed cycles) ++ (field_text count ++ codes "\n"))))
    ++ (texts_below count (λ n. codes "patch" ++ (field_text (first_column patches n) ++ (field_text (first_row patches n) ++ (field_text (patch_size patches n) ++ (number_text (value_at across cycles (first_column patches n) (first_row patches n)) ++ codes "\n")))))
    ++ (text_of_grid (record { width = width; height = height; values = value_at width closures }) ++ text_of_grid (record { width = across; height = along; values = value_at across cycles })))

by_lists : (loops : Loops) → loops_text loops ≡ text_by loops.closures.width loops.closures.height loops.closures.values.items loops.cycles.width loops.cycles.height loops.cycles.values.items loops.patches.width loops.patches.height loops.patches.labels loops.patches.count
unfolding counts_line patch_line text_by
by_lists loops = refl

pub loops_have_one_text : LoopsHaveOneText
loops_have_one_text a b c one other p r q s =
    let width = p.width ∙ sym q.width in
    let height = p.height ∙ sym q.height in
    let closures : one.closures.values.items ≡ other.closures.values.items =
    same_grids one.closures other.closures width height
    (λ x y lx ly. (let wide : x < a.width = omega (arith, lx, p.width) in let high : y < a.height = omega (arith, ly, p.height) in p.values x y wide high ∙ sym (q.values x y wide high))) in
    let across : one.cycles.width ≡ other.cycles.width = one.whole.width ∙ width ∙ sym other.whole.width in
    let along : one.cycles.height ≡ other.cycles.height = one.whole.height ∙ height ∙ sym other.whole.height in
    let cycles : one.cycles.values.items ≡ other.cycles.values.items =
    same_grids one.cycles other.cycles across along
    (λ x y lx ly. (
    let wide : x < one.closures.width = omega (arith, lx, one.whole.width) in
    let high : y < one.closures.height = omega (arith, ly, one.whole.height) in
    let here = one.whole.values x y wide high in
    let there = other.whole.values x y (omega (arith, wide, width)) (omega (arith, high, height)) in
    let same : value_at one.closures.width one.closures.values.items x y ≡ value_at other.closures.width other.closures.values.items x y = rw (width, closures) refl in
    one_cycle (value_at other.closures.width other.closures.values.items x y) (value_at one.cycles.width one.cycles.values.items x y) (value_at other.cycles.width other.cycles.values.items x y) (subst (λ (n : ℤ). AreCyclesIn n (value_at one.cycles.width one.cycles.values.items x y)) same here) there)) in
    let w = other.cycles.width in
    let h = other.cycles.height in
    let keys = key_at w (keys_of other.cycles.values.items) in
    let t : ArePatchesOf w h keys one.patches =
    subst (λ (n : ℕ). ArePatchesOf w n keys one.patches) along
    (subst (λ (n : ℕ). ArePatchesOf n one.cycles.height (key_at n (keys_of other.cycles.values.items)) one.patches) across
    (subst (λ (l : List ℤ). ArePatchesOf one.cycles.width one.cycles.height (key_at one.cycles.width (keys_of l)) one.patches) cycles r)) in
    let labels = one_list w h keys one.patches other.patches t s in
    let count = one_count w h keys one.patches other.patches t s in
    let wide = t.width ∙ sym s.width in
    let high = t.height ∙ sym s.height in
    by_lists one ∙ rw (width, height, closures, across, along, cycles, wide, high, labels, count) refl ∙ sym (by_lists other)
