-- One more pixel gets its number.
use Rattle.std.proofs.Common.{◌≡◌, ◌≢◌, ℕ, zero, suc, ◌+◌, ◌*◌, ◌/◌, ◌%◌, ◌<◌, ◌≤◌, inl, inr, sym, ◌∙◌, ap, refl, arith, Bool, true, false, List, length, length-set}
use Rattle.std.specs.Prelude.{IsTrue, ◌==◌, ◌&&◌, nat_le, slice_index, slice_set}
use Rattle.std.proofs.lemmas.Bool.Decides.{nat_tests}
use Rattle.std.proofs.lemmas.List.{get_or-set_same, get_or-set_other}
use Rattle.std.proofs.lemmas.Nat.{mod-mul-add, div-mul-add}
use Rattle.raster_model.specs.Limits.{is_raster_size}
use Rattle.raster_model.specs.Sums.{Field}
use Rattle.joined_cells.specs.Flood.{is_first, firsts_before, tree_number, IsNumbered, IsFlood}
use Rattle.joined_cells.specs.Joining.{Joining}
use Rattle.joined_cells.proofs.WalkLemmas.{open_along, walk_sym}
use Rattle.sums_and_lists.proofs.Tests.{one_at_most}
use Rattle.sums_and_lists.specs.Sums.{count_below, one_if}
use Rattle.sums_and_lists.proofs.CountLemmas.{count_below-more, count_below-none}
use Rattle.sums_and_lists.proofs.Orders.{below_or_last}

-- ---- counts of first pixels

pub firsts_before-more : (w : ℕ) (mask : Field Bool) (root : ℕ → ℕ) (k : ℕ) → firsts_before w mask root (k + 1) ≡ firsts_before w mask root k + one_if (is_first w mask root k)
firsts_before-more w mask root k = count_below-more k (λ i. one_if (is_first w mask root i))

pub firsts_at_most : (w : ℕ) (mask : Field Bool) (root : ℕ → ℕ) (k : ℕ) → firsts_before w mask root k ≤ k
unfolding count_below
firsts_at_most w mask root zero = omega arith
firsts_at_most w mask root (suc k) = omega (arith, firsts_at_most w mask root k, one_at_most (is_first w mask root k))

masked_is_no_first : (m : Bool) (r i : ℕ) → m ≡ false → one_if (m && (r == i)) ≡ 0
masked_is_no_first m r i e = rw e refl

lesser_is_no_first : (m : Bool) (r i : ℕ) → r < i → one_if (m && (r == i)) ≡ 0
lesser_is_no_first true r i l = grind (arith, nat_tests)
lesser_is_no_first false r i l = refl

root_is_first : (m : Bool) (r i : ℕ) → m ≡ true → r ≡ i → one_if (m && (r == i)) ≡ 1
root_is_first m r i e f = grind (arith, nat_tests)

module _ (joining : Joining) (k count : ℕ) (ls : List ℕ) (is : IsNumbered joining k count ls) (inside : k < length ls) where
  numbered_on : (count' label : ℕ) → label ≡ tree_number joining.width joining.mask is.root k → count' ≡ count + one_if (is_first joining.width joining.mask is.root k) → IsNumbered joining (k + 1) count' (slice_set ls k label)
  numbered_on count' label e f = record {
    root = is.root;
    size = length-set ls k label ∙ is.size;
    flooded = is.flooded;
    below = λ i l m. rw (other i l) (is.below i (omega arith) (omega (arith, m, length-set ls k label)));
    leads = λ i l m. rw (other i l) (is.leads i (omega arith) (omega (arith, m, length-set ls k label)));
    ends = λ i l m. rw (other i l) (is.ends i (omega arith) (omega (arith, m, length-set ls k label)));
    numbers = λ i l. elim (below_or_last i k l) [
      | inl m ↦ (let n : i ≢ k = omega arith in get_or-set_other ls k i label 0 n ∙ is.numbers i m)
      | inr m ↦ rw m (get_or-set_same ls k label 0 inside ∙ e)
    ];
    counted = f ∙ ap (λ (n : ℕ). n + one_if (is_first joining.width joining.mask is.root k)) is.counted ∙ sym (firsts_before-more joining.width joining.mask is.root k);
  }
    where
      other : (i : ℕ) → k + 1 ≤ i → slice_index (slice_set ls k label) i ≡ slice_index ls i
      other i l = let n : i ≢ k = omega arith in get_or-set_other ls k i label 0 n

  pub numbered_masked : joining.mask (k % joining.width) (k / joining.width) ≡ false → IsNumbered joining (k + 1) count (slice_set ls k 4294967295)
  numbered_masked m = numbered_on count 4294967295 (rw m refl) (omega (arith, masked_is_no_first (joining.mask (k % joining.width) (k / joining.width)) (is.root k) k m))

  -- the number of the parent, which is an earlier pixel of the tree
  pub numbered_as_parent : joining.mask (k % joining.width) (k / joining.width) ≡ true → slice_index ls k < k → IsNumbered joining (k + 1) count (slice_set ls k (slice_index ls (slice_index ls k)))
  numbered_as_parent m l =
      let p = slice_index ls k in
      let same : is.root p ≡ is.root k = is.leads k (omega arith) inside in
      let at_root : IsTrue (joining.mask (is.root k % joining.width) (is.root k / joining.width)) = open_along (is.flooded.walks k) m in
      let back = walk_sym (is.flooded.walks p) in
      let at_parent : joining.mask (p % joining.width) (p / joining.width) ≡ true = open_along back (rw same at_root) in
      let number : tree_number joining.width joining.mask is.root p ≡ tree_number joining.width joining.mask is.root k = rw (at_parent, m, same) refl in
      numbered_on count (slice_index ls p) (is.numbers p l ∙ number)
      (omega (arith, lesser_is_no_first (joining.mask (k % joining.width) (k / joining.width)) (is.root k) k (omega (arith, same, is.flooded.least p))))

  -- a new number at a root
  pub numbered_anew : joining.mask (k % joining.width) (k / joining.width) ≡ true → k ≤ slice_index ls k → IsNumbered joining (k + 1) (count + 1) (slice_set ls k count)
  numbered_anew m l =
      let own : slice_index ls k ≡ k = omega (arith, is.below k (omega arith) inside) in
      let top : is.root k ≡ k = is.ends k (omega arith) inside own in
      let number : firsts_before joining.width joining.mask is.root k ≡ tree_number joining.width joining.mask is.root k = rw (m, top) refl in
      numbered_on (count + 1) count (is.counted ∙ number)
      (omega (arith, root_is_first (joining.mask (k % joining.width) (k / joining.width)) (is.root k) k m top))

-- ---- the pixel at a place
pub at_place : (joining : Joining) (x y : ℕ) → x < joining.width → joining.mask ((y * joining.width + x) % joining.width) ((y * joining.width + x) / joining.width) ≡ joining.mask x y
at_place joining x y l = rw (mod-mul-add y joining.width x l, div-mul-add y joining.width x l) refl

-- ---- no more numbers than places
pub count_within : (joining : Joining) (k count : ℕ) (ls : List ℕ) → IsNumbered joining k count ls → count ≤ k
count_within joining k count ls is = omega (arith, is.counted, firsts_at_most joining.width joining.mask is.root k)

-- ---- before the first pixel no number is given
pub numbering_begins : (joining : Joining) (ps : List ℕ) → IsFlood joining (2 * (joining.height * joining.width)) ps → IsNumbered joining 0 0 ps
numbering_begins joining ps is = record {
  root = is.root;
  size = is.size;
  flooded = is.flooded;
  below = λ i l m. is.forest.below i m;
  leads = λ i l m. is.forest.leads i m;
  ends = λ i l m. is.forest.ends i m;
  numbers = λ i l. absurd (omega arith);
  counted = sym (count_below-none (λ i. one_if (is_first joining.width joining.mask is.root i)));
}

-- ---- what the limits of a raster say
pub size_says : (w h : ℕ) → IsTrue (is_raster_size w h) → (1 ≤ w) × (1 ≤ h) × (w * h ≤ 268435456)
size_says w h t = says w h (w * h) t
  where
    says : (w h n : ℕ) → IsTrue (nat_le 1 w && nat_le w 65535 && nat_le 1 h && nat_le h 65535 && nat_le n 268435456) → (1 ≤ w) × (1 ≤ h) × (n ≤ 268435456)
    says w h n t = (grind (arith, nat_tests), grind (arith, nat_tests), grind (arith, nat_tests))
