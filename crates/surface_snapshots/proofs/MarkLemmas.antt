-- Marks of a piece's edges and pixels: at those that are not marked nothing is added.
use Rattle.std.proofs.Common.{◌≡◌, ◌∙◌, ℕ, ◌+◌, ◌-◌, ◌*◌, ◌<◌, ◌≤◌, ◌^◌, sym, ap, ap₂, subst, refl, arith, Bool, true, false, inl, inr, List, length, set}
use Rattle.std.specs.Prelude.{◌≢◌, ℤ, pos, ◌+ℤ◌, ◌-ℤ◌, ◌||◌, not, IsTrue, slice_index, slice_index_or, unsigned_abs}
use Rattle.std.proofs.lemmas.Bool.{and_parts, cases_lt}
use Rattle.std.proofs.lemmas.Int.{ints}
use Rattle.std.proofs.lemmas.List.{get_or-set_other, get_or-set_same}
use Rattle.raster_model.specs.declared.edge.Edge.{Edge}
use Rattle.raster_model.specs.Raster.{departure, edge_cost, has_open_ends, is_seam, lifted, masked_weight, seam_edge_cost, steps, turns_of}
use Rattle.raster_model.specs.Sums.{Field, down_edge, end_x, end_y, is_edge, right_edge, sum_row}
use Rattle.raster_model.specs.Terms.{slope_of}
use Rattle.raster_model.proofs.Exact.{cycles_depart}
use Rattle.raster_model.proofs.MaskAgrees.{edge_ends}
use Rattle.raster_model.proofs.SumLemmas.{down_is_edge, right_is_edge}
use Rattle.surface_snapshots.specs.declared.shifted.ShiftedTiles.{ShiftedTiles}
use Rattle.surface_snapshots.specs.Loops.{AddUpTo, inner_cost_from, inner_edge_cost}
use Rattle.raster_model.specs.Raster.{seam_cost_from}
use Rattle.surface_snapshots.specs.Shifted.{AreLevelsFrom, cycles_under, level_at, no_cycles, open_under, raster_under}
use Rattle.surface_snapshots.specs.Strips.{AddNothing, HaveRow, IsStillEdge}
use Rattle.surface_snapshots.proofs.FreeLemmas.{neither, no_product, none_before, zero_too}
use Rattle.surface_snapshots.proofs.LevelLemmas.{small_there}
use Rattle.surface_snapshots.proofs.RowLemmas.{level_there}
use Rattle.sums_and_lists.proofs.SumLemmas.{no_number, sum_below-upto}

-- ---- one more mark, which stays if it was there
module _ (marks : List Bool) (n : ℕ) (found : Bool) (room : n < length marks) where
  abbrev next : List Bool
  next = set marks n (slice_index_or marks n false || found)

  there_now : slice_index_or next n false ≡ (slice_index_or marks n false || found)
  there_now = get_or-set_same marks n (slice_index_or marks n false || found) false room

  else_same : (k : ℕ) → k ≢ n → slice_index_or next k false ≡ slice_index_or marks k false
  else_same k other = get_or-set_other marks n k (slice_index_or marks n false || found) false other

  pub mark_kept : (k : ℕ) → slice_index_or next k false ≡ false → slice_index_or marks k false ≡ false
  mark_kept k none =
      elim (cases_lt k n) [
        | inl before ↦ sym (else_same k (λ e. omega (arith, before, e))) ∙ none
        | inr after ↦
            elim (cases_lt n k) [
              | inl behind ↦ sym (else_same k (λ e. omega (arith, behind, e))) ∙ none
              | inr upto ↦
                  (let e : n ≡ k = omega (arith, after, upto) in
                  subst (λ (m : ℕ). slice_index_or marks m false ≡ false) e
                  (neither (slice_index_or marks n false) found
                  (sym there_now ∙ subst (λ (m : ℕ). slice_index_or next m false ≡ false) (sym e) none)).0)
            ]
      ]

  pub mark_more : (P : ℕ → Type 0) → ((k : ℕ) → k < n → slice_index_or marks k false ≡ false → P k) → (found ≡ false → P n) → (k : ℕ) → k < n + 1 → slice_index_or next k false ≡ false → P k
  mark_more P before here k l none =
      elim (cases_lt k n) [
        | inl m ↦ before k m (mark_kept k none)
        | inr upto ↦
            (let e : n ≡ k = omega (arith, l, upto) in
            subst P e (here (neither (slice_index_or marks n false) found (sym there_now ∙ subst (λ (m : ℕ). slice_index_or next m false ≡ false) (sym e) none)).1))
      ]

-- ---- pixels that add nothing add up to nothing
pub none_added : (f : Field ℤ) (y a b : ℕ) → a ≤ b → ((x : ℕ) → a ≤ x → x < b → f x y ≡ pos 0) → AddUpTo f y a b (pos 0)
none_added f y a b l none = no_more (sum_row a f y) (sum_below-upto a b (λ x. f x y) l none)
  where
    no_more : (z : ℤ) → sum_row b f y ≡ z → sum_row b f y ≡ z +ℤ pos 0
    no_more z e = omega (arith, ints, e)

-- ---- an edge that is told to be still adds nothing
pub same_edge : (slope from to u v : ℤ) (a b c d : ℕ) → from ≡ u → to ≡ v → a ≡ c → b ≡ d → IsStillEdge slope from to a b → IsStillEdge slope u v c d
same_edge slope from to u v a b c d p q f g still = rw (sym p, sym q, sym f, sym g) still

some_cycles : (z : ℤ) → unsigned_abs z ≤ 2 ^ 46 + 8388608 → z ≢ no_cycles
some_cycles z small e = omega (arith, ints, small, e)

module _ (s : ShiftedTiles) (e : Edge) (inside : IsTrue (is_edge s.scene.now.phase.width s.scene.now.phase.height e)) (from to : ℤ) (a b : ℕ) (starts : from ≡ level_at s e.x e.y) (ends : to ≡ level_at s (end_x e) (end_y e)) (first : a ≡ (raster_under s).phase e.x e.y) (other : b ≡ (raster_under s).phase (end_x e) (end_y e)) (still : IsStillEdge (slope_of s.scene.now.terms e.down) from to a b) where
  stays : IsTrue (has_open_ends (open_under s) e) → departure (raster_under s) (lifted (raster_under s) (cycles_under s)) e ≡ pos 0
  stays clear =
      let l = edge_ends s.scene.now.phase.width s.scene.now.phase.height e inside in
      let o = and_parts (open_under s e.x e.y) (open_under s (end_x e) (end_y e)) clear in
      let f : from ≡ cycles_under s e.x e.y = starts ∙ level_there s e.x e.y o.0 in
      let t : to ≡ cycles_under s (end_x e) (end_y e) = ends ∙ level_there s (end_x e) (end_y e) o.1 in
      let p : unsigned_abs from ≤ 2 ^ 46 + 8388608 = rw f (small_there s e.x e.y l.0 l.1 o.0) in
      let q : unsigned_abs to ≤ 2 ^ 46 + 8388608 = rw t (small_there s (end_x e) (end_y e) l.2 l.3 o.1) in
      cycles_depart (raster_under s) (cycles_under s) e
      ∙ ap₂ (λ (u v : ℤ). u -ℤ v +ℤ turns_of (raster_under s) e) (sym t) (sym f)
      ∙ rw (sym first, sym other) (still (some_cycles from p) (some_cycles to q) (omega (arith, p)) (omega (arith, q)))

  pub still_edge : edge_cost (raster_under s) (open_under s) (lifted (raster_under s) (cycles_under s)) e ≡ pos 0
  still_edge = go (has_open_ends (open_under s) e) refl
    where
      go : (clear : Bool) → has_open_ends (open_under s) e ≡ clear → edge_cost (raster_under s) (open_under s) (lifted (raster_under s) (cycles_under s)) e ≡ pos 0
      go true c = no_product (has_open_ends (open_under s) e) (masked_weight (raster_under s) (open_under s) e) (raster_under s).steep (departure (raster_under s) (lifted (raster_under s) (cycles_under s)) e) (stays c)
      go false c = no_number (has_open_ends (open_under s) e) (pos (masked_weight (raster_under s) (open_under s) e * steps (raster_under s).steep (departure (raster_under s) (lifted (raster_under s) (cycles_under s)) e))) c

-- ---- and a pixel whose edges add nothing
module _ (s : ShiftedTiles) (x y : ℕ) (right : x + 1 < s.scene.now.phase.width → edge_cost (raster_under s) (open_under s) (lifted (raster_under s) (cycles_under s)) (right_edge x y) ≡ pos 0) (down : y + 1 < s.scene.now.phase.height → edge_cost (raster_under s) (open_under s) (lifted (raster_under s) (cycles_under s)) (down_edge x y) ≡ pos 0) where
  no_tiles : inner_cost_from (raster_under s) (open_under s) (lifted (raster_under s) (cycles_under s)) x y ≡ pos 0
  unfolding inner_cost_from inner_edge_cost
  no_tiles =
      let r = raster_under s in
      let S = lifted r (cycles_under s) in
      ap₂ (λ (c d : ℤ). c +ℤ d)
      (none_before (x + 1) r.width (inner_edge_cost r (open_under s) S (right_edge x y)) (λ n. zero_too (not (is_seam r (right_edge x y))) (edge_cost r (open_under s) S (right_edge x y)) (right n)))
      (none_before (y + 1) r.height (inner_edge_cost r (open_under s) S (down_edge x y)) (λ n. zero_too (not (is_seam r (down_edge x y))) (edge_cost r (open_under s) S (down_edge x y)) (down n)))

  no_seams : seam_cost_from (raster_under s) (open_under s) (lifted (raster_under s) (cycles_under s)) x y ≡ pos 0
  unfolding seam_cost_from
  no_seams =
      let r = raster_under s in
      let S = lifted r (cycles_under s) in
      ap₂ (λ (c d : ℤ). c +ℤ d)
      (none_before (x + 1) r.width (seam_edge_cost r (open_under s) S (right_edge x y)) (λ n. zero_too (is_seam r (right_edge x y)) (edge_cost r (open_under s) S (right_edge x y)) (right n)))
      (none_before (y + 1) r.height (seam_edge_cost r (open_under s) S (down_edge x y)) (λ n. zero_too (is_seam r (down_edge x y)) (edge_cost r (open_under s) S (down_edge x y)) (down n)))

  pub both_still : AddNothing s x y
  both_still = (no_tiles, no_seams)

-- ---- what a block lists of the edges of a row's pixels, from column x0 on
module _ (s : ShiftedTiles) (start : ℕ) (list : List ℤ) (levels : AreLevelsFrom s start (length list) list) (x0 x y : ℕ) (across : x < s.scene.now.phase.width) (along : y < s.scene.now.phase.height) (from_first : x0 ≤ x) (listed : HaveRow s start (length list) y) where
  abbrev w : ℕ
  w = s.scene.now.phase.width

  abbrev i : ℕ
  i = x - x0

  abbrev place : ℕ
  place = y * w + x0

  abbrev samples : List ℕ
  samples = s.scene.now.phase.samples.items

  here : slice_index_or list (place - start + i) (pos 0) ≡ level_at s x y
  here =
      let e : place - start + i ≡ y * w + x - start = omega (arith, listed.0, from_first) in
      ap (λ (n : ℕ). slice_index_or list n (pos 0)) e ∙ levels x y across (omega (arith, listed.0)) (omega (arith, listed.1, across))

  phase_here : slice_index samples (place + i) ≡ (raster_under s).phase x y
  phase_here = let e : place + i ≡ y * w + x = omega (arith, from_first) in ap (λ (n : ℕ). slice_index samples n) e

  pub right_still : x + 1 < w → IsStillEdge (slope_of s.scene.now.terms false) (slice_index_or list (place - start + i) (pos 0)) (slice_index_or list (place - start + 1 + i) (pos 0)) (slice_index samples (place + i)) (slice_index samples (place + 1 + i)) → edge_cost (raster_under s) (open_under s) (lifted (raster_under s) (cycles_under s)) (right_edge x y) ≡ pos 0
  right_still l still =
      let e : place - start + 1 + i ≡ y * w + (x + 1) - start = omega (arith, listed.0, from_first) in
      let f : place + 1 + i ≡ y * w + (x + 1) = omega (arith, from_first) in
      still_edge s (right_edge x y) (right_is_edge w s.scene.now.phase.height x y across along l)
      (slice_index_or list (place - start + i) (pos 0)) (slice_index_or list (place - start + 1 + i) (pos 0)) (slice_index samples (place + i)) (slice_index samples (place + 1 + i))
      here
      (ap (λ (n : ℕ). slice_index_or list n (pos 0)) e ∙ levels (x + 1) y l (omega (arith, listed.0)) (omega (arith, listed.1, l)))
      phase_here (ap (λ (n : ℕ). slice_index samples n) f) still

  pub down_still : y + 1 < s.scene.now.phase.height → IsStillEdge (slope_of s.scene.now.terms true) (slice_index_or list (place - start + i) (pos 0)) (slice_index_or list (place - start + w + i) (pos 0)) (slice_index samples (place + i)) (slice_index samples (place + w + i)) → edge_cost (raster_under s) (open_under s) (lifted (raster_under s) (cycles_under s)) (down_edge x y) ≡ pos 0
  down_still l still =
      let e : place - start + w + i ≡ (y + 1) * w + x - start = omega (arith, listed.0, from_first) in
      let f : place + w + i ≡ (y + 1) * w + x = omega (arith, from_first) in
      still_edge s (down_edge x y) (down_is_edge w s.scene.now.phase.height x y across along l)
      (slice_index_or list (place - start + i) (pos 0)) (slice_index_or list (place - start + w + i) (pos 0)) (slice_index samples (place + i)) (slice_index samples (place + w + i))
      here
      (ap (λ (n : ℕ). slice_index_or list n (pos 0)) e ∙ levels x (y + 1) across (omega (arith, listed.0)) (omega (arith, listed.2 l, across)))
      phase_here (ap (λ (n : ℕ). slice_index samples n) f) still
