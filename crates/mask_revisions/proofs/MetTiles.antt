-- The tiles that a box meets, by rows.
use Rattle.std.proofs.Common.{◌≡◌, ◌≢◌, ℕ, ◌+◌, ◌-◌, ◌*◌, ◌/◌, ◌%◌, ◌<◌, ◌≤◌, ◌⊎◌, inl, inr, ◌∙◌, ap, ap₂, sym, refl, arith, max, Bool, true, false, List, [], ◌∷◌, ◌++◌, length}
use Rattle.std.specs.Prelude.{IsTrue, ◌||◌, ◌==◌, nat_lt, slice_index}
use Rattle.std.proofs.lemmas.Bool.{cases_eq, cases_lt, cases_order}
use Rattle.std.proofs.lemmas.Bool.Decides.{nat_tests}
use Rattle.std.proofs.lemmas.Nat.{mul-le, mul-add-lt, le-div, div_below, div-add-mod', mod_below, div-mul-add, mod-mul-add}
use Rattle.std.proofs.lemmas.List.{get_or_append_left, get_or_push, length_push}
use Rattle.raster_model.specs.declared.script.Edit.{Edit}
use Rattle.raster_model.specs.declared.script.Rect.{Rect}
use Rattle.raster_model.specs.declared.tiling.Tiling.{Tiling}
use Rattle.raster_model.specs.Scripts.{IsRectIn, rect_of}
use Rattle.raster_model.specs.Sums.{Field}
use Rattle.raster_model.specs.Tiles.{columns_of_tiles, tile_at}
use Rattle.raster_model.proofs.TileLemmas.{block_below, tiles_are_numbered}
use Rattle.mask_revisions.specs.Edits.{differ_in, edited, has_pixel, opens}
use Rattle.mask_revisions.specs.Revisions.{AreChanged, AreMet, Meets}
use Rattle.mask_revisions.specs.Steps.{AreListedTiles, count_met, met_across, met_tile}
use Rattle.mask_revisions.proofs.Differences.{box_has, box_says, chosen, differ_tells}
use Rattle.sums_and_lists.proofs.Orders.{below_or_last}
use Rattle.sums_and_lists.proofs.Tests.{true_and_false}

-- ---- quotients
div_le : (a b d : ℕ) → 0 < d → a ≤ b → a / d ≤ b / d
div_le a b d p l = le-div (a / d) b d p (omega (arith, div-add-mod' a d))

div_start : (q a d : ℕ) → q ≤ a / d → q * d ≤ a
div_start q a d l = omega (arith, div-add-mod' a d, mul-le q d (a / d) d l (omega arith))

div_whole : (q d : ℕ) → 0 < d → q * d / d ≡ q
div_whole q d p = let e : q * d ≡ q * d + 0 = omega arith in rw e (div-mul-add q d 0 p)

-- the greater of a number and of the start of its part or of a later one lies in that part
div_from : (q a d : ℕ) → 0 < d → a / d ≤ q → max (q * d) a / d ≡ q
div_from q a d p l = elim (cases_lt (q * d) a) [
  | inr m ↦ (let e : max (q * d) a ≡ q * d = omega arith in rw e (div_whole q d p))
  | inl m ↦ (let e : max (q * d) a ≡ a = omega arith in rw e (omega (arith, l, le-div q a d p (omega arith))))
]

not_below : (t b : ℕ) → b ≤ t → nat_lt t b ≡ false
not_below t b l = grind (arith, nat_tests)

is_below : (t b : ℕ) → t < b → nat_lt t b ≡ true
is_below t b l = grind (arith, nat_tests)

below_next : (t a b : ℕ) → a < b → (t < a) ⊎ ((t ≡ a) ⊎ (b ≤ t)) → nat_lt t b ≡ (nat_lt t a || (t == a))
below_next t a b l (inl m) = grind (arith, nat_tests)
below_next t a b l (inr (inl m)) = grind (arith, nat_tests)
below_next t a b l (inr (inr m)) = grind (arith, nat_tests)

-- a place and the next: the same row and a later column, or a later row
next_place : (i j n : ℕ) → 0 < n → i < j → (i / n < j / n) ⊎ ((i / n ≡ j / n) × (i % n < j % n))
next_place i j n p l = elim (cases_eq (i / n) (j / n)) [
  | inl e ↦ inr (e, (let f : i / n * n ≡ j / n * n = ap (λ (k : ℕ). k * n) e in omega (arith, f, div-add-mod' i n, div-add-mod' j n)))
  | inr e ↦ inl (omega (arith, e, div_le i j n p (omega arith)))
]

later_row : (a b u v c : ℕ) → a < b → u < c → a * c + u < b * c + v
later_row a b u v c l m = omega (arith, mul-le (a + 1) c b c (omega arith) (omega arith))

module _ (g : Tiling) (r : Rect) (is : IsRectIn g.width g.height r) where
  side : 0 < g.side
  side = omega (arith, g.sides)

  across : 0 < met_across g r
  across = omega arith

  met_column : (k : ℕ) → r.x0 / g.side + k % met_across g r ≤ r.x1 / g.side
  met_column k = omega (arith, mod_below k (met_across g r) across, div_le r.x0 r.x1 g.side side is.0)

  met_row : (k : ℕ) → k < count_met g r → r.y0 / g.side + k / met_across g r ≤ r.y1 / g.side
  met_row k l = omega (arith, div_below k (met_across g r) (r.y1 / g.side - r.y0 / g.side + 1) across l, div_le r.y0 r.y1 g.side side is.2)

  pub met_top : (k : ℕ) → k < count_met g r → (r.y0 / g.side + k / met_across g r) * g.side < g.height
  met_top k l = omega (arith, div_start (r.y0 / g.side + k / met_across g r) r.y1 g.side (met_row k l), is.3)

  pub met_left : (k : ℕ) → (r.x0 / g.side + k % met_across g r) * g.side < g.width
  met_left k = omega (arith, div_start (r.x0 / g.side + k % met_across g r) r.x1 g.side (met_column k), is.1)

  -- the tile of the first pixel of that column and row
  pub met_is : (k : ℕ) → tile_at g ((r.x0 / g.side + k % met_across g r) * g.side) ((r.y0 / g.side + k / met_across g r) * g.side) ≡ met_tile g r k
  met_is k = rw (div_whole (r.x0 / g.side + k % met_across g r) g.side side, div_whole (r.y0 / g.side + k / met_across g r) g.side side) refl

  met_rises : (j k : ℕ) → j < k → met_tile g r j < met_tile g r k
  met_rises j k l = elim (next_place j k (met_across g r) across l) [
    | inl h ↦ later_row (r.y0 / g.side + j / met_across g r) (r.y0 / g.side + k / met_across g r) (r.x0 / g.side + j % met_across g r) (r.x0 / g.side + k % met_across g r) (columns_of_tiles g) (omega arith) (omega (arith, met_column j, block_below r.x1 g.width g.side side is.1))
    | inr h ↦ (let e : (r.y0 / g.side + j / met_across g r) * columns_of_tiles g ≡ (r.y0 / g.side + k / met_across g r) * columns_of_tiles g = ap (λ (n : ℕ). (r.y0 / g.side + n) * columns_of_tiles g) h.0 in omega (arith, e, h.1))
  ]

  met_up : (j k : ℕ) → j ≤ k → met_tile g r j ≤ met_tile g r k
  met_up j k l = elim (cases_eq j k) [
    | inl e ↦ rw e (omega arith)
    | inr n ↦ omega (arith, met_rises j k (omega (arith, n)))
  ]

  -- each pixel of the box lies in one of them
  met_at : (x y : ℕ) → r.x0 ≤ x → x ≤ r.x1 → r.y0 ≤ y → y ≤ r.y1 → (k : ℕ) × (k < count_met g r) × (met_tile g r k ≡ tile_at g x y)
  met_at x y p q s u =
      let n = met_across g r in
      let a = y / g.side - r.y0 / g.side in
      let b = x / g.side - r.x0 / g.side in
      let lx = div_le r.x0 x g.side side p in
      let hx = div_le x r.x1 g.side side q in
      let ly = div_le r.y0 y g.side side s in
      let hy = div_le y r.y1 g.side side u in
      let m : b < n = omega (arith, hx, lx) in
      let l : a * n + b < n * (r.y1 / g.side - r.y0 / g.side + 1) = mul-add-lt a n b (r.y1 / g.side - r.y0 / g.side + 1) (omega (arith, hy, ly)) m in
      let row : r.y0 / g.side + (a * n + b) / n ≡ y / g.side = omega (arith, div-mul-add a n b m, ly) in
      let column : r.x0 / g.side + (a * n + b) % n ≡ x / g.side = omega (arith, mod-mul-add a n b m, lx) in
      (a * n + b, omega (arith, l), ap₂ (λ (i j : ℕ). i * columns_of_tiles g + j) row column)

  -- a pixel of the box lies in each of them
  pub met_meets : (k : ℕ) → k < count_met g r → Meets g r (met_tile g r k)
  met_meets k l =
      let c = r.x0 / g.side + k % met_across g r in
      let d = r.y0 / g.side + k / met_across g r in
      let x = max (c * g.side) r.x0 in
      let y = max (d * g.side) r.y0 in
      let p : c * g.side ≤ r.x1 = div_start c r.x1 g.side (met_column k) in
      let q : d * g.side ≤ r.y1 = div_start d r.y1 g.side (met_row k l) in
      (x, y, omega (arith, p, is), omega (arith, q, is), box_has r x y (omega arith) (omega (arith, p, is)) (omega arith) (omega (arith, q, is)), ap₂ (λ (i j : ℕ). i * columns_of_tiles g + j) (div_from d r.y0 g.side side (omega arith)) (div_from c r.x0 g.side side (omega arith)))

  -- ---- which tiles of the box's pixels come before one of them
  met_of : (x y : ℕ) → IsTrue (has_pixel r x y) → (k : ℕ) × (k < count_met g r) × (met_tile g r k ≡ tile_at g x y)
  met_of x y h = let b = box_says r x y h in met_at x y b.0 b.1 b.2 b.3

  pub before_first : (x y : ℕ) → IsTrue (has_pixel r x y) → nat_lt (tile_at g x y) (met_tile g r 0) ≡ false
  before_first x y h = let u = met_of x y h in not_below (tile_at g x y) (met_tile g r 0) (rw u.2 at (met_up 0 u.0 (omega arith)))

  pub before_end : (x y : ℕ) → IsTrue (has_pixel r x y) → nat_lt (tile_at g x y) (met_tile g r (count_met g r)) ≡ true
  before_end x y h = let u = met_of x y h in is_below (tile_at g x y) (met_tile g r (count_met g r)) (rw u.2 at (met_rises u.0 (count_met g r) u.1))

  pub before_next : (k x y : ℕ) → IsTrue (has_pixel r x y) → nat_lt (tile_at g x y) (met_tile g r (k + 1)) ≡ (nat_lt (tile_at g x y) (met_tile g r k) || (tile_at g x y == met_tile g r k))
  before_next k x y h =
      let u = met_of x y h in
      below_next (tile_at g x y) (met_tile g r k) (met_tile g r (k + 1)) (met_rises k (k + 1) (omega arith)) (elim (cases_order u.0 k) [
        | inl e ↦ inr (inl (sym u.2 ∙ ap (met_tile g r) e))
        | inr (inl l) ↦ inl (rw u.2 at (met_rises u.0 k l))
        | inr (inr l) ↦ inr (inr (rw u.2 at (met_up (k + 1) u.0 (omega (arith, l)))))
      ])

  -- ---- a list of those that pass a test
  module _ (p : ℕ → Bool) where
    pub listed_none : AreListedTiles g r p 0 []
    listed_none = record {
      rising = λ i j l m. absurd (omega arith);
      each = λ i l. absurd (omega arith);
      all = λ j l t. absurd (omega arith);
    }

    pub listed_without : (k : ℕ) (ts : List ℕ) → AreListedTiles g r p k ts → p (met_tile g r k) ≡ false → AreListedTiles g r p (k + 1) ts
    listed_without k ts is f = record {
      rising = is.rising;
      each = λ i l. (let u = is.each i l in (u.0, omega (arith, u.1), u.2, u.3));
      all = λ j l t. elim (below_or_last j k l) [
        | inl m ↦ is.all j m t
        | inr e ↦ absurd (let t' : IsTrue (p (met_tile g r k)) = rw e at t in true_and_false (p (met_tile g r k)) t' f)
      ];
    }

    pub listed_with : (k : ℕ) (ts : List ℕ) → AreListedTiles g r p k ts → IsTrue (p (met_tile g r k)) → AreListedTiles g r p (k + 1) (ts ++ (met_tile g r k ∷ []))
    listed_with k ts is t = record {
      rising = λ i j l m. elim (below_or_last j (length ts) (omega (arith, m, count))) [
        | inl h ↦ rw (old i (omega arith), old j h) (is.rising i j l h)
        | inr h ↦ (let u = is.each i (omega arith) in rw (old i (omega arith), h, new, u.2) (met_rises u.0 k u.1))
      ];
      each = λ i m. elim (below_or_last i (length ts) (omega (arith, m, count))) [
        | inl h ↦ (let u = is.each i h in (u.0, omega (arith, u.1), old i h ∙ u.2, u.3))
        | inr h ↦ (k, omega arith, rw h new, t)
      ];
      all = λ j l s. elim (below_or_last j k l) [
        | inl h ↦ (let u = is.all j h s in (u.0, omega (arith, u.1, count), old u.0 u.1 ∙ u.2))
        | inr h ↦ (length ts, omega (arith, count), rw h new)
      ];
    }
      where
        count : length (ts ++ (met_tile g r k ∷ [])) ≡ length ts + 1
        count = length_push ts (met_tile g r k)

        old : (i : ℕ) → i < length ts → slice_index (ts ++ (met_tile g r k ∷ [])) i ≡ slice_index ts i
        old i l = get_or_append_left ts (met_tile g r k ∷ []) 0 i l

        new : slice_index (ts ++ (met_tile g r k ∷ [])) (length ts) ≡ met_tile g r k
        new = get_or_push ts (met_tile g r k) 0 (length ts) refl

  -- ---- all of them
  pub met_all : (ts : List ℕ) → AreListedTiles g r (λ t. true) (count_met g r) ts → AreMet g r ts
  met_all ts l = record {
    rising = l.rising;
    exist = λ i m. (let n = at i m in let t = tiles_are_numbered g n.0 n.1 n.2 n.3 in omega (arith, t, n.5));
    met = at;
    all = λ t n. (let u = met_of n.0 n.1 n.4 in let a = l.all u.0 u.1 refl in (a.0, a.1, a.2 ∙ u.2 ∙ n.5));
  }
    where
      at : (i : ℕ) → i < length ts → Meets g r (slice_index ts i)
      at i m = (let u = l.each i m in rw u.2 (met_meets u.0 u.1))

  -- ---- the tiles in which an edit changes a pixel
  module _ (mask : Field Bool) (e : Edit) (same : r ≡ rect_of e) where
    pub listed_all : (ts : List ℕ) → AreListedTiles g r (differ_in g mask (edited e mask)) (count_met g r) ts → AreChanged g mask (edited e mask) ts
    listed_all ts l = record {
      rising = l.rising;
      exist = λ i m. (
          let u = l.each i m in
          let d = differ_tells g mask (edited e mask) (met_tile g r u.0) u.3 in
          let n = tiles_are_numbered g d.0 d.1 d.2 d.3 in
          omega (arith, n, d.4, u.2));
      changed = λ i m. (let u = l.each i m in rw u.2 u.3);
      all = λ t m h. (
          let d = differ_tells g mask (edited e mask) t h in
          let k = in_rect d.0 d.1 d.5 in
          let u = met_at d.0 d.1 k.0 k.1 k.2 k.3 in
          let s : met_tile g r u.0 ≡ t = u.2 ∙ d.4 in
          let a = l.all u.0 u.1 (rw s h) in
          (a.0, a.1, a.2 ∙ s));
    }
      where
        in_rect : (x y : ℕ) → mask x y ≢ edited e mask x y → (r.x0 ≤ x) × (x ≤ r.x1) × (r.y0 ≤ y) × (y ≤ r.y1)
        in_rect x y n = rw same (box_says (rect_of e) x y (chosen (has_pixel (rect_of e) x y) (opens e) (mask x y) n).0)
