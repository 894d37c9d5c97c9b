-- Blocks of a grid, from the totals of pieces of its rows.
use Rattle.std.proofs.Common.{◌≡◌, ℕ, zero, suc, ◌+◌, ◌-◌, ◌*◌, ◌<◌, ◌≤◌, ℤ, pos, ◌+ℤ◌, List, arith, refl, sym, ap, subst, ◌∙◌}
use Rattle.std.specs.Prelude.{Bool, true, false, ◌&&◌, nat_lt, length, min, slice_index_or}
use Rattle.std.specs.List.{between}
use Rattle.std.proofs.Math.Nat.{mul-le-mul_right}
use Rattle.std.proofs.lemmas.Grind.{div_ceil_times}
use Rattle.std.proofs.lemmas.List.Edits.{get_or-between, length-between}
use Rattle.sums_and_lists.specs.Sums.{count_below, sum_below, one_if, where_true}
use Rattle.sums_and_lists.proofs.CountLemmas.{count_below-more, count_below-none, count_below-rest}
use Rattle.sums_and_lists.proofs.SumLemmas.{sum_below-more, sum_below-none, sum_below-same, sum_below-upto, no_number}
use Rattle.sums_and_lists.proofs.Orders.{lt_is, not_lt_is}
use Rattle.grid_writer.specs.Grids.{GridOf, value_at}
use Rattle.grid_writer.specs.Values.{is_value}
use Rattle.displacement.specs.Blocks.{block_count, block_sum, blocks_of, has_value}
use Rattle.displacement.specs.Steps.{IsListTotal, MayBeSum}
use Rattle.displacement.proofs.TotalLemmas.{within_join, within_none}

-- ---- places along a side

starts_before : (b n k c : ℕ) → k < c → c * b < n + b → b * k < n
starts_before b n k c l t = let m : (k + 1) * b ≤ c * b = mul-le-mul_right {m = k + 1} {n = c} b (omega arith) in omega arith

-- a block starts on its side
pub starts_inside : (b n k : ℕ) → 0 < b → k < blocks_of b n → b * k < n
starts_inside b n k some l = starts_before b n k (blocks_of b n) l (div_ceil_times n b some).1

-- a row of a block is on the side
pub down : (v top bottom h e : ℕ) → v < bottom - top → bottom ≡ min h e → top + v < h
down v top bottom h e l m = omega (arith, l, m)

-- the rows that are left are beyond the side
pub rows_cut : (n top bottom h b j : ℕ) → bottom - top ≤ n → top ≡ b * j → bottom ≡ min h (b * j + b) → top < h → ((v : ℕ) → n ≤ v → v < b → h ≤ b * j + v)
rows_cut n top bottom h b j l t m some v p q = omega (arith, l, t, m, some)

-- ---- counts

count_same : (n : ℕ) (f g : ℕ → ℕ) → ((k : ℕ) → k < n → f k ≡ g k) → count_below n f ≡ count_below n g
unfolding count_below
count_same zero f g h = refl
count_same (suc n) f g h = let a = count_same n f g (λ k l. h k (omega arith)) in let b = h n (omega arith) in omega (arith, a, b)

count_upto : (a b : ℕ) (f : ℕ → ℕ) → a ≤ b → ((k : ℕ) → a ≤ k → k < b → f k ≡ 0) → count_below b f ≡ count_below a f
count_upto a b f l h = let e : b ≡ a + (b - a) = omega arith in rw e (count_below-rest a (b - a) f (λ k p q. h k p (omega arith)))

-- ---- pixels on the grid and beyond it

on_grid : (g : GridOf) (x y : ℕ) → x < g.width → y < g.height → has_value g x y ≡ is_value (g.values x y)
on_grid g x y l m =
    subst (λ (t : Bool). ((t && nat_lt y g.height) && is_value (g.values x y)) ≡ is_value (g.values x y)) (sym (lt_is x g.width l))
    (subst (λ (t : Bool). ((true && t) && is_value (g.values x y)) ≡ is_value (g.values x y)) (sym (lt_is y g.height m)) refl)

both_false : (t u : Bool) → ((t && false) && u) ≡ false
both_false true u = refl
both_false false u = refl

pub right_of_grid : (g : GridOf) (x y : ℕ) → g.width ≤ x → has_value g x y ≡ false
right_of_grid g x y l = subst (λ (t : Bool). ((t && nat_lt y g.height) && is_value (g.values x y)) ≡ false) (sym (not_lt_is x g.width l)) refl

pub below_grid : (g : GridOf) (x y : ℕ) → g.height ≤ y → has_value g x y ≡ false
below_grid g x y l = subst (λ (t : Bool). ((nat_lt x g.width && t) && is_value (g.values x y)) ≡ false) (sym (not_lt_is y g.height l)) (both_false (nat_lt x g.width) (is_value (g.values x y)))

pub has_no_value : (g : GridOf) (x y : ℕ) → x < g.width → y < g.height → is_value (g.values x y) ≡ false → has_value g x y ≡ false
has_no_value g x y l m e = on_grid g x y l m ∙ e

pub has_a_value : (g : GridOf) (x y : ℕ) → x < g.width → y < g.height → is_value (g.values x y) ≡ true → has_value g x y ≡ true
has_a_value g x y l m e = on_grid g x y l m ∙ e

-- ---- rows of a block

-- what the pixel of block (i, j) at (u, v) counts and adds
abbrev pub counts_at : GridOf → ℕ → ℕ → ℕ → ℕ → ℕ → ℕ
counts_at g b i j v u = one_if (has_value g (b * i + u) (b * j + v))

abbrev pub adds_at : GridOf → ℕ → ℕ → ℕ → ℕ → ℕ → ℤ
adds_at g b i j v u = where_true (has_value g (b * i + u) (b * j + v)) (g.values (b * i + u) (b * j + v))

-- the list has the values of the block's row v that are on the grid
pub record IsPiece (g : GridOf) (b i j v : ℕ) (zs : List ℤ) : Type 0 where
  pub along : b * j + v < g.height
  pub short : length zs ≤ b
  pub inside : b * i + length zs ≤ g.width
  pub cut : (u : ℕ) → length zs ≤ u → u < b → g.width ≤ b * i + u
  pub each : (u : ℕ) → u < length zs → slice_index_or zs u (pos 0) ≡ g.values (b * i + u) (b * j + v)

-- the part of a list in row order that has the block's row v
module _ (w h : ℕ) (items cells : List ℤ) (b i j v left right top : ℕ) (full : length items ≡ w * h) (same : cells ≡ items) (l : left ≡ b * i) (r : right ≡ min w (b * i + b)) (t : top ≡ b * j) (across : left < w) (down : top + v < h) where
  right_end : right ≤ w
  right_end = omega (arith, r)

  pub ends : (top + v) * w + right ≤ length cells
  ends =
      let m : (top + v + 1) * w ≤ h * w = mul-le-mul_right {m = top + v + 1} {n = h} w (omega arith) in
      let e = ap (λ (zs : List ℤ). length zs) same in
      let k = right_end in
      omega (arith, m, e, full, k)

  pub piece_length : length (between ((top + v) * w + left) ((top + v) * w + right) cells) ≡ right - left
  piece_length = length-between cells ((top + v) * w + left) ((top + v) * w + right) ends ∙ omega arith

  place_is : (u : ℕ) → (top + v) * w + left + u ≡ (b * j + v) * w + (b * i + u)
  place_is u = rw (l, t) (omega arith)

  pub piece_is : IsPiece (record { width = w; height = h; values = value_at w items }) b i j v (between ((top + v) * w + left) ((top + v) * w + right) cells)
  piece_is =
      let n = piece_length in
      record {
        along = subst (λ (k : ℕ). k + v < h) t down;
        short = omega (arith, n, l, r);
        inside = omega (arith, n, l, r);
        cut = λ u p q. omega (arith, n, l, r);
        each = λ u p. get_or-between cells ((top + v) * w + left) ((top + v) * w + right) u (pos 0) (omega (arith, n)) ∙ ap (λ (zs : List ℤ). slice_index_or zs ((top + v) * w + left + u) (pos 0)) same ∙ ap (λ (k : ℕ). slice_index_or items k (pos 0)) (place_is u);
      }

piece_counts : (g : GridOf) (b i j v : ℕ) (zs : List ℤ) → IsPiece g b i j v zs → count_below (length zs) (λ u. one_if (is_value (slice_index_or zs u (pos 0)))) ≡ count_below b (counts_at g b i j v)
piece_counts g b i j v zs p =
    count_same (length zs) (λ u. one_if (is_value (slice_index_or zs u (pos 0)))) (counts_at g b i j v)
    (λ u l. ap (λ (z : ℤ). one_if (is_value z)) (p.each u l) ∙ ap one_if (sym (on_grid g (b * i + u) (b * j + v) (let m = p.inside in omega arith) p.along)))
    ∙ sym (count_upto (length zs) b (counts_at g b i j v) p.short (λ u l m. ap one_if (right_of_grid g (b * i + u) (b * j + v) (p.cut u l m))))

piece_adds : (g : GridOf) (b i j v : ℕ) (zs : List ℤ) → IsPiece g b i j v zs → sum_below (length zs) (λ u. where_true (is_value (slice_index_or zs u (pos 0))) (slice_index_or zs u (pos 0))) ≡ sum_below b (adds_at g b i j v)
piece_adds g b i j v zs p =
    sum_below-same (length zs) (λ u. where_true (is_value (slice_index_or zs u (pos 0))) (slice_index_or zs u (pos 0))) (adds_at g b i j v)
    (λ u l. ap (λ (z : ℤ). where_true (is_value z) z) (p.each u l) ∙ ap (λ (t : Bool). where_true t (g.values (b * i + u) (b * j + v))) (sym (on_grid g (b * i + u) (b * j + v) (let m = p.inside in omega arith) p.along)))
    ∙ sym (sum_below-upto (length zs) b (adds_at g b i j v) p.short (λ u l m. no_number (has_value g (b * i + u) (b * j + v)) (g.values (b * i + u) (b * j + v)) (right_of_grid g (b * i + u) (b * j + v) (p.cut u l m))))

-- the total of the first n rows of a block
pub record IsRowsTotal (g : GridOf) (b i j n count : ℕ) (z : ℤ) : Type 0 where
  pub counted : count ≡ count_below n (λ v. count_below b (counts_at g b i j v))
  pub summed : z ≡ sum_below n (λ v. sum_below b (adds_at g b i j v))
  pub few : count ≤ n * 64
  pub within : MayBeSum count z

pub rows_none : (g : GridOf) (b i j : ℕ) → IsRowsTotal g b i j 0 0 (pos 0)
rows_none g b i j = record {
  counted = sym (count_below-none (λ v. count_below b (counts_at g b i j v)));
  summed = sym (sum_below-none (λ v. sum_below b (adds_at g b i j v)));
  few = omega arith;
  within = within_none;
}

pub rows_more : (g : GridOf) (b i j n c d e : ℕ) (s t r : ℤ) (zs : List ℤ) → b ≤ 64 → IsRowsTotal g b i j n c s → IsPiece g b i j n zs → IsListTotal zs (length zs) d t → e ≡ c + d → r ≡ s +ℤ t → IsRowsTotal g b i j (n + 1) e r
rows_more g b i j n c d e s t r zs side h p l ce re =
    let counts : ℕ → ℕ = λ v. count_below b (counts_at g b i j v) in
    let sums : ℕ → ℤ = λ v. sum_below b (adds_at g b i j v) in
    let few = h.few in
    let more = l.few in
    let short = p.short in
    record {
      counted = ce ∙ ap (λ (k : ℕ). k + d) h.counted ∙ ap (λ (k : ℕ). count_below n counts + k) (l.counted ∙ piece_counts g b i j n zs p) ∙ sym (count_below-more n counts);
      summed = re ∙ ap (λ (k : ℤ). k +ℤ t) h.summed ∙ ap (λ (k : ℤ). sum_below n sums +ℤ k) (l.summed ∙ piece_adds g b i j n zs p) ∙ sym (sum_below-more n sums);
      few = omega (arith, ce);
      within = subst (λ (k : ℕ). MayBeSum k r) (sym ce) (subst (λ (k : ℤ). MayBeSum (c + d) k) (sym re) (within_join c d s t h.within l.within));
    }

-- all rows of a block that are on the grid
module _ (g : GridOf) (b i j n c : ℕ) (s : ℤ) (le : n ≤ b) (cut : (v : ℕ) → n ≤ v → v < b → g.height ≤ b * j + v) (h : IsRowsTotal g b i j n c s) where
  no_counts : (v : ℕ) → n ≤ v → v < b → count_below b (counts_at g b i j v) ≡ 0
  no_counts v l m = count_upto 0 b (counts_at g b i j v) (omega arith) (λ u p q. ap one_if (below_grid g (b * i + u) (b * j + v) (cut v l m))) ∙ count_below-none (counts_at g b i j v)

  no_sums : (v : ℕ) → n ≤ v → v < b → sum_below b (adds_at g b i j v) ≡ pos 0
  no_sums v l m = sum_below-upto 0 b (adds_at g b i j v) (omega arith) (λ u p q. no_number (has_value g (b * i + u) (b * j + v)) (g.values (b * i + u) (b * j + v)) (below_grid g (b * i + u) (b * j + v) (cut v l m))) ∙ sum_below-none (adds_at g b i j v)

  pub whole_count : c ≡ block_count g b i j
  unfolding block_count
  whole_count = h.counted ∙ sym (count_upto n b (λ v. count_below b (counts_at g b i j v)) le no_counts)

  pub whole_sum : s ≡ block_sum g b i j
  unfolding block_sum
  whole_sum = h.summed ∙ sym (sum_below-upto n b (λ v. sum_below b (adds_at g b i j v)) le no_sums)
