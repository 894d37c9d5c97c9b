-- From the values of blocks to a grid of displacements.
use Rattle.std.proofs.Common.{◌≡◌, ℕ, zero, suc, ◌+◌, ◌*◌, ◌/◌, ◌%◌, ◌<◌, ◌≤◌, ℤ, pos, ◌-ℤ◌, ◌*ℤ◌, List, set, arith, refl, sym, ap, subst, ◌∙◌, inl, inr}
use Rattle.std.specs.Prelude.{length, slice_index_or, IsTrue, Option, Some, None, MatchOption, ◌⊎◌}
use Rattle.std.proofs.Math.Nat.{mul-le-mul_left, mul-le-mul_right}
use Rattle.std.proofs.lemmas.Grind.{div_ceil_times}
use Rattle.std.proofs.lemmas.List.{get_or-set_other, get_or-set_same}
use Rattle.std.proofs.lemmas.Bool.{cases_lt}
use Rattle.std.proofs.lemmas.Nat.{div-add-mod', div-mul-add, mod-mul-add, mul-add-lt, mul-le}
use Rattle.sums_and_lists.proofs.Orders.{below_at_above, below_or_last}
use Rattle.raster_model.specs.Limits.{is_tiled_size}
use Rattle.raster_model.specs.Seams.{IsEarlier}
use Rattle.grid_writer.specs.Grids.{GridOf, value_at}
use Rattle.grid_writer.specs.Values.{CanStand, no_data}
use Rattle.grid_writer.proofs.SizeLemmas.{sized_by, sized_parts}
use Rattle.displacement.specs.declared.sight.Sight.{Sight}
use Rattle.displacement.specs.Blocks.{block_count, block_sum, blocks_of, has_value}
use Rattle.displacement.specs.declared.fault.SightFault.{SightFault}
use Rattle.displacement.specs.declared.fault.SightFault.TheVariants.{Reference, Wide, Memory}
use Rattle.displacement.specs.Displacements.{HasCause, IsBlockValue, IsDisplacement, IsFirstWideBlock, IsMean, IsTooWide, IsWideBlock}
use Rattle.displacement.specs.Steps.{AreBlockValues, HasBlockCause}
use Rattle.displacement.proofs.MeanLemmas.{mean_unique}

-- ---- one block

-- a fact of a count, a sum and a reference holds of the block that has them
module _ (s : Sight) (g : GridOf) (i j c : ℕ) (t r : ℤ) (ec : c ≡ block_count g s.block i j) (et : t ≡ block_sum g s.block i j) (er : r ≡ g.values s.x s.y) (some : 0 < c) where
  pub at_block : (P : ℕ → ℤ → Type 0) → P c (t -ℤ pos c *ℤ r) → P (block_count g s.block i j) (block_sum g s.block i j -ℤ pos (block_count g s.block i j) *ℤ g.values s.x s.y)
  at_block P p =
      subst (λ (z : ℤ). P (block_count g s.block i j) (block_sum g s.block i j -ℤ pos (block_count g s.block i j) *ℤ z)) er
      (subst (λ (z : ℤ). P (block_count g s.block i j) (z -ℤ pos (block_count g s.block i j) *ℤ r)) et
      (subst (λ (n : ℕ). P n (t -ℤ pos n *ℤ r)) ec p))

  counted : 0 < block_count g s.block i j
  counted = subst (λ (n : ℕ). 0 < n) ec some

  wide_block : IsTooWide s.wavelength c (t -ℤ pos c *ℤ r) → IsWideBlock s g i j
  wide_block w = record { some = counted; wide = at_block (λ n z. IsTooWide s.wavelength n z) w }

  mean_block : (d : ℤ) → IsMean s.wavelength c (t -ℤ pos c *ℤ r) d × CanStand d → IsBlockValue s g i j d
  mean_block d m = record {
    none = λ e. absurd (let k = counted in omega (arith, e));
    mean = λ k. (at_block (λ n z. IsMean s.wavelength n z d) m.0, m.1);
  }

  pub block_told : (o : Option ℤ) → MatchOption o (IsTooWide s.wavelength c (t -ℤ pos c *ℤ r)) (λ d. IsMean s.wavelength c (t -ℤ pos c *ℤ r) d × CanStand d) → MatchOption o (IsWideBlock s g i j) (IsBlockValue s g i j)
  block_told None w = wide_block w
  block_told (Some d) m = mean_block d m

pub empty_block : (s : Sight) (g : GridOf) (i j c : ℕ) → c ≡ block_count g s.block i j → c ≡ 0 → IsBlockValue s g i j no_data
empty_block s g i j c e z = record {
  none = λ k. refl;
  mean = λ k. absurd (omega (arith, e, z));
}

-- ---- blocks in row order

pub pos_left : (w h p : ℕ) → p < w * h → 0 < w
pos_left zero h p l = absurd (omega (arith, l))
pos_left (suc w) h p l = omega arith

pub values_more : (s : Sight) (g : GridOf) (w n : ℕ) (zs : List ℤ) (z : ℤ) → n < length zs → AreBlockValues s g w n zs → IsBlockValue s g (n % w) (n / w) z → AreBlockValues s g w (n + 1) (set zs n z)
values_more s g w n zs z there h v k l = elim (below_or_last k n l) [
  | inl m ↦ subst (IsBlockValue s g (k % w) (k / w)) (sym (get_or-set_other zs n k z (pos 0) (λ e. omega (arith, e, m)))) (h k m)
  | inr m ↦ subst (λ (p : ℕ). IsBlockValue s g (p % w) (p / w) (slice_index_or (set zs n z) p (pos 0))) (sym m)
      (subst (IsBlockValue s g (n % w) (n / w)) (sym (get_or-set_same zs n z (pos 0) there)) v)
]

-- what stands for the block (x, y) of w by h
pub value_there : (s : Sight) (g : GridOf) (w h : ℕ) (zs : List ℤ) → AreBlockValues s g w (w * h) zs → (x y : ℕ) → x < w → y < h → IsBlockValue s g x y (value_at w zs x y)
value_there s g w h zs a x y l m =
    subst (λ (i : ℕ). IsBlockValue s g i y (value_at w zs x y)) (mod-mul-add y w x l)
    (subst (λ (j : ℕ). IsBlockValue s g ((y * w + x) % w) j (value_at w zs x y)) (div-mul-add y w x l) (a (y * w + x) (mul-add-lt y w x h m l)))

-- a block with a value that stands is not wide
pub not_wide : (s : Sight) (g : GridOf) (i j : ℕ) (d : ℤ) → IsBlockValue s g i j d → IsWideBlock s g i j → ⊥
not_wide s g i j d v w =
    let m = v.mean w.some in
    w.wide.wide (subst CanStand (mean_unique s.wavelength (block_count g s.block i j) (block_sum g s.block i j -ℤ pos (block_count g s.block i j) *ℤ g.values s.x s.y) d w.wide.displacement m.0 w.wide.mean) m.1)

-- a block before that at place p stands before it in the list
place_before : (w p q a i j : ℕ) → i < w → q * w + a ≡ p → (j < q → (j + 1) * w ≤ q * w) → (j < q → j * w + i < p)
place_before w p q a i j l e m k = let n = m k in omega (arith, e)

place_beside : (w p q a i j : ℕ) → q * w + a ≡ p → j ≡ q → i < a → j * w + i < p
place_beside w p q a i j e f l = subst (λ (k : ℕ). k * w + i < p) (sym f) (omega (arith, e))

earlier_place : (w p i j : ℕ) → i < w → IsEarlier i j (p % w) (p / w) → j * w + i < p
earlier_place w p i j l e = elim e [
  | inl above ↦ place_before w p (p / w) (p % w) i j l (div-add-mod' p w) (λ k. mul-le-mul_right {m = j + 1} {n = p / w} w (omega arith)) above
  | inr beside ↦ place_beside w p (p / w) (p % w) i j (div-add-mod' p w) beside.0 beside.1
]

-- the first block that is wide comes behind blocks that are not
pub first_wide : (s : Sight) (g : GridOf) (w p : ℕ) (zs : List ℤ) → w ≡ blocks_of s.block g.width → p % w < w → p / w < blocks_of s.block g.height → AreBlockValues s g w p zs → IsWideBlock s g (p % w) (p / w) → IsFirstWideBlock s g (p % w) (p / w)
first_wide s g w p zs e across along a here = record {
  across = subst (λ (n : ℕ). p % w < n) e across;
  along = along;
  here = here;
  first = λ i j l b wide.
      let m : i < w = subst (λ (n : ℕ). i < n) (sym e) l in
      let k : j * w + i < p = earlier_place w p i j m b in
      not_wide s g i j (slice_index_or zs (j * w + i) (pos 0))
      (subst (λ (x : ℕ). IsBlockValue s g x j (slice_index_or zs (j * w + i) (pos 0))) (mod-mul-add j w i m)
      (subst (λ (y : ℕ). IsBlockValue s g ((j * w + i) % w) y (slice_index_or zs (j * w + i) (pos 0))) (div-mul-add j w i m) (a (j * w + i) k)))
      wide;
}

-- of two such blocks none is before the other
pub first_is_one : (s : Sight) (g : GridOf) (x y a b : ℕ) → IsFirstWideBlock s g x y → IsFirstWideBlock s g a b → (x ≡ a) × (y ≡ b)
first_is_one s g x y a b p q =
    let no : IsEarlier x y a b → ⊥ = λ e. q.first x y p.across e p.here in
    let none : IsEarlier a b x y → ⊥ = λ e. p.first a b q.across e q.here in
    let row : y ≡ b = elim (below_at_above y b) [ inl l ↦ absurd (no (inl l)) | inr r ↦ elim r [ inl e ↦ e | inr l ↦ absurd (none (inl l)) ] ] in
    let column : x ≡ a = elim (below_at_above x a) [ inl l ↦ absurd (no (inr (row, l))) | inr r ↦ elim r [ inl e ↦ e | inr l ↦ absurd (none (inr (sym row, l))) ] ] in
    (column, row)

-- ---- the whole grid

at_least : (b n c : ℕ) → 1 ≤ n → n ≤ c * b → 1 ≤ c
at_least b n zero l m = absurd (omega (arith, l, m))
at_least b n (suc c) l m = omega arith

le-mul : (b n : ℕ) → 0 < b → n ≤ n * b
le-mul b n some = let m : n * 1 ≤ n * b = mul-le-mul_left {m = 1} {n = b} n some in omega arith

too_many : (b n c : ℕ) → (n + 1) * b ≤ c * b → n ≤ n * b → c * b < n + b → ⊥
too_many b n c m l k = omega (arith, m, l, k)

le_trans : {a b c : ℕ} → a ≤ b → b ≤ c → a ≤ c
le_trans p q = omega (arith, p, q)

-- more blocks than pixels would be too many
at_most : (b n c : ℕ) → 0 < b → 1 ≤ n → c * b < n + b → c ≤ n
at_most b n c some l k = elim (cases_lt n c) [
  | inl more ↦ absurd (too_many b n c (mul-le-mul_right {m = n + 1} {n = c} b (omega (arith, more))) (le-mul b n some) k)
  | inr le ↦ le
]

-- blocks are at least one along a side, and no more than its pixels
some_blocks : (b n c : ℕ) → 0 < b → 1 ≤ n → n ≤ c * b → c * b < n + b → (1 ≤ c) × (c ≤ n)
some_blocks b n c some l m k = (at_least b n c l m, at_most b n c some l k)

sized_blocks : (b w h : ℕ) → 0 < b → IsTrue (is_tiled_size w h) → IsTrue (is_tiled_size (blocks_of b w) (blocks_of b h))
sized_blocks b w h some z =
    let s = sized_parts w h z in
    let across = some_blocks b w (blocks_of b w) some s.wide (div_ceil_times w b some).0 (div_ceil_times w b some).1 in
    let along = some_blocks b h (blocks_of b h) some s.high (div_ceil_times h b some).0 (div_ceil_times h b some).1 in
    let few = mul-le (blocks_of b w) (blocks_of b h) w h across.1 along.1 in
    sized_by (blocks_of b w) (blocks_of b h) (record {
      wide = across.0;
      narrow = le_trans across.1 s.narrow;
      high = along.0;
      low = le_trans along.1 s.low;
      few = le_trans few s.few;
    })

pub few_blocks : (b w h m n : ℕ) → 0 < b → IsTrue (is_tiled_size w h) → m ≡ blocks_of b w → n ≡ blocks_of b h → IsTrue (is_tiled_size m n)
few_blocks b w h m n some z e f = subst (λ (k : ℕ). IsTrue (is_tiled_size k n)) (sym e) (subst (λ (k : ℕ). IsTrue (is_tiled_size (blocks_of b w) k)) (sym f) (sized_blocks b w h some z))

pub displacement_is : (s : Sight) (g : GridOf) (w h : ℕ) (zs : List ℤ) → IsTrue (has_value g s.x s.y) → w ≡ blocks_of s.block g.width → h ≡ blocks_of s.block g.height → AreBlockValues s g w (w * h) zs → IsDisplacement s g (record { width = w; height = h; values = value_at w zs })
displacement_is s g w h zs has e f a = record {
  reference = has;
  width = e;
  height = f;
  blocks = value_there s g w h zs a;
}

-- a refusal of the blocks is one of the whole
pub cause_is : (s : Sight) (g : GridOf) (fault : SightFault) → IsTrue (has_value g s.x s.y) → HasBlockCause s g fault → HasCause s g fault
cause_is s g Reference has c = absurd c
cause_is s g (Wide x y) has c = (has, c)
cause_is s g Memory has c = absurd c

-- and the one that a first wide block asks for
pub fault_known : (s : Sight) (g : GridOf) (fault : SightFault) (x y : ℕ) → HasBlockCause s g fault → IsFirstWideBlock s g x y → fault ≡ Wide x y
fault_known s g Reference x y c w = absurd c
fault_known s g (Wide a b) x y c w = let e = first_is_one s g a b x y c w in ap (λ (k : ℕ). Wide k b) e.0 ∙ ap (λ (k : ℕ). Wide x k) e.1
fault_known s g Memory x y c w = absurd c

pub no_wide : (s : Sight) (g : GridOf) (w h : ℕ) (zs : List ℤ) (x y : ℕ) → w ≡ blocks_of s.block g.width → h ≡ blocks_of s.block g.height → AreBlockValues s g w (w * h) zs → IsFirstWideBlock s g x y → ⊥
no_wide s g w h zs x y e f a wide =
    not_wide s g x y (value_at w zs x y)
    (value_there s g w h zs a x y (subst (λ (n : ℕ). x < n) (sym e) wide.across) (subst (λ (n : ℕ). y < n) (sym f) wide.along)) wide.here
