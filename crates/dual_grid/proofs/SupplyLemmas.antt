-- What each node has at the start.
use Rattle.std.proofs.Common.{◌≡◌, ℕ, zero, suc, ◌+◌, ◌-◌, ◌<◌, ◌≤◌, ◌∙◌, sym, ap, refl, arith, List, [], ◌∷◌, ◌++◌, length, get_or, true, false, inl, inr, to_z, of_z, w64}
use Rattle.std.specs.Prelude.{ℤ, pos, neg_ℤ, ◌-ℤ◌, unsigned_abs, nat_lt, FitsSigned}
use Rattle.std.proofs.lemmas.Int.{ints}
use Rattle.std.proofs.lemmas.Bool.Decides.{nat_tests}
use Rattle.std.proofs.lemmas.List.{get_or_append_left, get_or_past, length-append}
use Rattle.std.proofs.Math.Seq.{get_or-append_seam}
use Rattle.raster_model.specs.declared.tiling.Window.{Window}
use Rattle.raster_model.specs.Sums.{Field}
use Rattle.wrapped_gradient.specs.Rows.{AreInRows}
use Rattle.dual_grid.specs.Nodes.{cells_of}
use Rattle.dual_grid.specs.Starts.{cell_value, supply_at}
use Rattle.dual_grid.specs.Building.{AreCellSupplies, sum_of_first}
use Rattle.sums_and_lists.proofs.Orders.{below_at_past, below_or_last}
use Rattle.sums_and_lists.specs.Sums.{sum_below}
use Rattle.sums_and_lists.proofs.SumLemmas.{sum_below-none, sum_below-more, sum_below-same}

pub supply_inside : (f : Field ℤ) (v : Window) (u : ℕ) → u < cells_of v → supply_at f v u ≡ cell_value f v u
unfolding supply_at
supply_inside f v u l = let t : nat_lt u (cells_of v) ≡ true = grind (arith, nat_tests) in rw t refl

pub supply_outside : (f : Field ℤ) (v : Window) → supply_at f v (cells_of v) ≡ neg_ℤ (sum_below (cells_of v) (cell_value f v))
unfolding supply_at
supply_outside f v = let t : nat_lt (cells_of v) (cells_of v) ≡ false = grind (arith, nat_tests) in rw t refl

-- the sum of n numbers from -1 to 1 lies within n
pub sum_within : (n : ℕ) (f : ℕ → ℤ) → ((k : ℕ) → k < n → unsigned_abs (f k) ≤ 1) → unsigned_abs (sum_below n f) ≤ n
unfolding sum_below
sum_within zero f h = omega (arith, ints)
sum_within (suc n) f h = omega (arith, ints, sum_within n f (λ k l. h k (omega arith)), h n (omega arith))

-- one number less, in code at 64 bits
pub less_fits : (zs : List ℤ) (n : ℕ) (r : ℤ) → length zs ≤ 268435456 → n < length zs → ((k : ℕ) → unsigned_abs (get_or zs k (pos 0)) ≤ 1) → r ≡ neg_ℤ (sum_of_first zs n) → FitsSigned w64 (r -ℤ to_z w64 (of_z w64 (get_or zs n (pos 0))))
less_fits zs n r few l small e =
    let s = sum_within n (λ k. get_or zs k (pos 0)) (λ k m. small k) in
    let z = small n in
    omega (arith, ints, e, s, z)

pub less_is : (zs : List ℤ) (n : ℕ) (r : ℤ) → length zs ≤ 268435456 → n < length zs → ((k : ℕ) → unsigned_abs (get_or zs k (pos 0)) ≤ 1) → r ≡ neg_ℤ (sum_of_first zs n) → to_z w64 (of_z w64 (r -ℤ to_z w64 (of_z w64 (get_or zs n (pos 0))))) ≡ neg_ℤ (sum_of_first zs (n + 1))
less_is zs n r few l small e =
    let s = sum_within n (λ k. get_or zs k (pos 0)) (λ k m. small k) in
    let z = small n in
    omega (arith, ints, e, s, z, sum_below-more n (λ k. get_or zs k (pos 0)))

pub less_none : (zs : List ℤ) → pos 0 ≡ neg_ℤ (sum_of_first zs 0)
less_none zs = omega (arith, ints, sum_below-none (λ k. get_or zs k (pos 0)))

-- a number more in a list of small numbers
pub pushed_small : (zs : List ℤ) (z : ℤ) (b : ℕ) → ((k : ℕ) → unsigned_abs (get_or zs k (pos 0)) ≤ b) → unsigned_abs z ≤ b → (k : ℕ) → unsigned_abs (get_or (zs ++ z ∷ []) k (pos 0)) ≤ b
pushed_small zs z b h l k =
    elim (below_at_past k (length zs)) [
      | inl m ↦ rw (get_or_append_left zs (z ∷ []) (pos 0) k m) (h k)
      | inr (inl m) ↦ rw (m, get_or-append_seam zs z [] (pos 0)) l
      | inr (inr m) ↦ rw (get_or_past (zs ++ z ∷ []) k (pos 0) (omega (arith, length-append zs (z ∷ []), m))) (omega (arith, ints))
    ]

pub listed_supplies : (f : Field ℤ) (v : Window) (zs : List ℤ) (r : ℤ) → AreInRows f v.x0 v.y0 (v.x1 - v.x0) (cells_of v) zs → r ≡ neg_ℤ (sum_of_first zs (length zs)) → AreCellSupplies f v (zs ++ r ∷ [])
listed_supplies f v zs r h e =
    let count : length zs ≡ cells_of v = h.0 in
    let sums : sum_below (cells_of v) (λ k. get_or zs k (pos 0)) ≡ sum_below (cells_of v) (cell_value f v) = sum_below-same (cells_of v) (λ k. get_or zs k (pos 0)) (cell_value f v) (λ k l. h.1 k l) in
    let rest : r ≡ neg_ℤ (sum_below (cells_of v) (cell_value f v)) = e ∙ ap (λ (n : ℕ). neg_ℤ (sum_of_first zs n)) count ∙ ap neg_ℤ sums in
    record {
      count = omega (arith, length-append zs (r ∷ []), count);
      values = λ u l. (
          elim (below_or_last u (cells_of v) l) [
            | inl m ↦ get_or_append_left zs (r ∷ []) (pos 0) u (omega (arith, count, m)) ∙ h.1 u m ∙ sym (supply_inside f v u m)
            | inr m ↦ (
                ap (λ (k : ℕ). get_or (zs ++ r ∷ []) k (pos 0)) (m ∙ sym count) ∙ get_or-append_seam zs r [] (pos 0) ∙ rest ∙ sym (supply_outside f v) ∙ ap (λ (k : ℕ). supply_at f v k) (sym m))
          ]);
    }
