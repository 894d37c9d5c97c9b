-- How many regions there can be: of three pixels side by side two lie in one tile, so at most two of them are first pixels.
use Rattle.std.proofs.Common.{◌≡◌, ℕ, zero, suc, ◌+◌, ◌*◌, ◌/◌, ◌%◌, ◌<◌, ◌≤◌, inl, inr, sym, ◌∙◌, ap, refl, arith, Bool, true, false}
use Rattle.std.specs.Prelude.{IsTrue}
use Rattle.std.proofs.lemmas.Bool.{cases_eq, cases_lt}
use Rattle.std.proofs.lemmas.Nat.{mod-mul-add, div-add-mod', mul-add-lt, mul-le}
use Rattle.raster_model.specs.declared.tiling.Tiling.{Tiling}
use Rattle.raster_model.specs.Sums.{Field, right_edge}
use Rattle.joined_cells.specs.Flood.{is_first, firsts_before, IsFlooded}
use Rattle.joined_cells.specs.Joining.{joins}
use Rattle.joined_cells.proofs.TileLemmas.{inner_open}
use Rattle.joined_cells.proofs.NumberLemmas.{at_place, firsts_at_most}
use Rattle.seam_regions.specs.Flood.{tiled, tiling_joined}
use Rattle.seam_regions.specs.Regions.{most_regions}
use Rattle.seam_regions.proofs.TileTests.{one_tile_across}
use Rattle.sums_and_lists.specs.Sums.{count_below, one_if}
use Rattle.sums_and_lists.proofs.CountLemmas.{count_below-more, count_below-none}
use Rattle.sums_and_lists.proofs.Tests.{tells_both, one_at_most}

-- ---- sums of ones
count_below-split : (a n : ℕ) (f : ℕ → ℕ) → count_below (a + n) f ≡ count_below a f + count_below n (λ i. f (a + i))
count_below-split a zero f = let e : a + 0 ≡ a = omega arith in rw e (omega (arith, count_below-none (λ i. f (a + i))))
count_below-split a (suc n) f =
    let e : a + suc n ≡ (a + n) + 1 = omega arith in
    let d : suc n ≡ n + 1 = omega arith in
    rw (e, d) (omega (arith, count_below-more (a + n) f, count_below-more n (λ i. f (a + i)), count_below-split a n f))

sparse : (n : ℕ) (f : ℕ → ℕ) → ((i : ℕ) → f i ≤ 1) → ((i : ℕ) → i + 2 < n → f i + f (i + 1) + f (i + 2) ≤ 2) → 3 * count_below n f ≤ 2 * n + 2
unfolding count_below
sparse zero f one two = omega arith
sparse (suc zero) f one two = omega (arith, one 0)
sparse (suc (suc zero)) f one two = omega (arith, one 0, one 1)
sparse (suc (suc (suc n))) f one two =
    let e : suc n ≡ n + 1 = omega arith in
    let d : suc (suc n) ≡ n + 2 = omega arith in
    rw (d, e) (omega (arith, sparse n f one (λ i l. two i (omega arith)), two n (omega arith)))

-- ---- first pixels side by side
at_most_two : (a b c : Bool) → (a ≡ true → b ≡ true → c ≡ true → ⊥) → one_if a + one_if b + one_if c ≤ 2
at_most_two true true true h = absurd (h refl refl refl)
at_most_two true true false h = omega arith
at_most_two true false true h = omega arith
at_most_two true false false h = omega arith
at_most_two false true true h = omega arith
at_most_two false true false h = omega arith
at_most_two false false true h = omega arith
at_most_two false false false h = omega arith

begins_once : (n d : ℕ) → 2 ≤ d → n % d ≡ 0 → (n + 1) % d ≡ 0 → ⊥
begins_once n d l e f =
    let s = div-add-mod' n d in
    let m : n + 1 ≡ n / d * d + 1 = omega (arith, s, e) in
    let o : (n / d * d + 1) % d ≡ 1 = mod-mul-add (n / d) d 1 (omega arith) in
    omega (arith, ap (λ (k : ℕ). k % d) m, o, f)

no_border : (n : ℕ) → (n ≡ 0 → ⊥) → 0 < n
no_border zero h = absurd (h refl)
no_border (suc n) h = omega arith

module _ (g : Tiling) (mask : Field Bool) (root : ℕ → ℕ) (is : IsFlooded (tiling_joined g mask) (2 * (g.height * g.width)) root) (y : ℕ) (m : y < g.height) where
  apart : (x : ℕ) → x + 1 < g.width → ((x + 1) % g.side ≡ 0 → ⊥) → is_first g.width mask root (y * g.width + x) ≡ true → is_first g.width mask root (y * g.width + (x + 1)) ≡ true → ⊥
  apart x l border p q =
      let i = y * g.width + x in
      let j = y * g.width + (x + 1) in
      let a = tells_both (mask (i % g.width) (i / g.width)) (root i) i p in
      let b = tells_both (mask (j % g.width) (j / g.width)) (root j) j q in
      let one = one_tile_across g x (x + 1) refl y l (no_border ((x + 1) % g.side) border) in
      let t : IsTrue (joins (tiling_joined g mask) (right_edge x y)) = inner_open (tiled g) mask (right_edge x y) (omega arith) m l m one (sym (at_place (tiling_joined g mask) x y (omega arith)) ∙ a.0) (sym (at_place (tiling_joined g mask) (x + 1) y l) ∙ b.0) in
      let within : y * g.width + (x + 1) < g.width * g.height = mul-add-lt y g.width (x + 1) g.height m l in
      let turned : g.width * g.height ≡ g.height * g.width = omega arith in
      let same : root (y * g.width + x) ≡ root (y * g.width + (x + 1)) = is.edges (right_edge x y) t (omega (arith, within, turned)) in
      omega (arith, same, a.1, b.1)

  of_three : (x : ℕ) → x + 2 < g.width → one_if (is_first g.width mask root (y * g.width + x)) + one_if (is_first g.width mask root (y * g.width + (x + 1))) + one_if (is_first g.width mask root (y * g.width + (x + 2))) ≤ 2
  of_three x l =
      at_most_two (is_first g.width mask root (y * g.width + x)) (is_first g.width mask root (y * g.width + (x + 1))) (is_first g.width mask root (y * g.width + (x + 2)))
      (λ p q r. elim (cases_eq ((x + 1) % g.side) 0) [
        | inl e ↦ (
            let n : x + 1 + 1 ≡ x + 2 = omega arith in
            let next : (x + 1 + 1) % g.side ≡ 0 → ⊥ = λ f. begins_once (x + 1) g.side g.sides.0 e f in
            apart (x + 1) (omega arith) next q (rw n r))
        | inr e ↦ apart x (omega arith) e p q
      ])

  row_sparse : 3 * count_below g.width (λ x. one_if (is_first g.width mask root (y * g.width + x))) ≤ 2 * g.width + 2
  row_sparse = sparse g.width (λ x. one_if (is_first g.width mask root (y * g.width + x))) (λ x. one_at_most (is_first g.width mask root (y * g.width + x))) of_three

module _ (g : Tiling) (mask : Field Bool) (root : ℕ → ℕ) (is : IsFlooded (tiling_joined g mask) (2 * (g.height * g.width)) root) where
  rows_sparse : (y : ℕ) → y ≤ g.height → 8 ≤ g.width → 4 * firsts_before g.width mask root (y * g.width) ≤ 3 * (y * g.width)
  rows_sparse zero l b = let e : 0 * g.width ≡ 0 = omega arith in rw e (omega (arith, count_below-none (λ i. one_if (is_first g.width mask root i))))
  rows_sparse (suc y) l b =
      let e : suc y * g.width ≡ y * g.width + g.width = omega arith in
      rw e (omega (arith, rows_sparse y (omega arith) b, row_sparse g mask root is y (omega arith), count_below-split (y * g.width) g.width (λ i. one_if (is_first g.width mask root i))))

  pub few_regions : firsts_before g.width mask root (g.height * g.width) ≤ most_regions
  few_regions = elim (cases_lt g.width 8) [
    | inl l ↦ omega (arith, firsts_at_most g.width mask root (g.height * g.width), mul-le g.height g.width 4096 7 g.high.1 (omega arith))
    | inr l ↦ (
        let turned : g.width * g.height ≡ g.height * g.width = omega arith in
        omega (arith, rows_sparse g.height (omega arith) l, g.few, turned))
  ]
