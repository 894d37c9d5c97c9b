-- Counts of the pixels near a pixel, by counts of pixels above and to the left of a corner.
use mir.Val.{bool_byte}
use Rattle.std.proofs.Common.{◌≡◌, ℕ, zero, suc, ◌+◌, ◌-◌, ◌*◌, ◌/◌, ◌%◌, ◌<◌, ◌≤◌, min, sym, ◌∙◌, ap, ap₂, refl, arith, subst, Bool, true, false, inl, inr, List, length}
use Rattle.std.specs.Prelude.{◌&&◌, if◌then◌else◌, slice_index, slice_set}
use Rattle.std.proofs.lemmas.Bool.{cases_lt}
use Rattle.std.proofs.lemmas.Bool.Decides.{nat_tests}
use Rattle.std.proofs.lemmas.List.{get_or-set_same, get_or-set_other}
use Rattle.std.proofs.lemmas.Nat.{mod-mul-add, div-mul-add, mul-le, mul-add-lt}
use Rattle.raster_model.specs.Sums.{Field}
use Rattle.sums_and_lists.specs.Sums.{count_below, one_if}
use Rattle.sums_and_lists.proofs.CountLemmas.{count_below-more, count_below-zeros}
use Rattle.sums_and_lists.proofs.Orders.{below_or_last}
use Rattle.sums_and_lists.proofs.Tests.{one_at_most}
use Rattle.auto_masks.specs.Screened.{count_pixels, is_close, near_pixels}
use Rattle.auto_masks.specs.Sums.{AreSummed}

-- ---- counts below a bound
pub count_below-same : (n : ℕ) (f g : ℕ → ℕ) → ((i : ℕ) → f i ≡ g i) → count_below n f ≡ count_below n g
unfolding count_below
count_below-same zero f g h = refl
count_below-same (suc n) f g h = omega (arith, count_below-same n f g h, h n)

count_below-both : (n : ℕ) (f g : ℕ → ℕ) → count_below n (λ i. f i + g i) ≡ count_below n f + count_below n g
unfolding count_below
count_below-both zero f g = refl
count_below-both (suc n) f g = omega (arith, count_below-both n f g)

count_below-most : (n m : ℕ) (f : ℕ → ℕ) → ((i : ℕ) → f i ≤ m) → count_below n f ≤ n * m
unfolding count_below
count_below-most zero m f h = omega arith
count_below-most (suc n) m f h = omega (arith, count_below-most n m f h, h n)

count_ones : (n : ℕ) → count_below n (λ i. 1) ≡ n
unfolding count_below
count_ones zero = refl
count_ones (suc n) = omega (arith, count_ones n)

at_most_where : (b : Bool) (f m : ℕ) → f ≤ m → (if b then f else 0) ≤ one_if b * m
at_most_where true f m l = omega (arith, l)
at_most_where false f m l = omega arith

count_where : (n m : ℕ) (c : ℕ → Bool) (f : ℕ → ℕ) → ((i : ℕ) → f i ≤ m) → count_below n (λ i. if c i then f i else 0) ≤ count_below n (λ i. one_if (c i)) * m
unfolding count_below
count_where zero m c f h = omega arith
count_where (suc n) m c f h = step (count_below n (λ i. if c i then f i else 0)) (count_below n (λ i. one_if (c i))) (if c n then f n else 0) (one_if (c n)) m (count_where n m c f h) (at_most_where (c n) (f n) m (h n))
  where
    step : (a b u v m : ℕ) → a ≤ b * m → u ≤ v * m → a + u ≤ (b + v) * m
    step a b u v m p q = omega (arith, p, q)

-- ---- the places near a place
far_below : (r x a : ℕ) → a + r < x → is_close r x a ≡ false
far_below r x a l = grind (arith, nat_tests)

far_above : (r x a : ℕ) → x + r < a → is_close r x a ≡ false
far_above r x a l = grind (arith, nat_tests)

pub near_by : (r x a : ℕ) → x ≤ a + r → a ≤ x + r → is_close r x a ≡ true
near_by r x a l m = grind (arith, nat_tests)

module _ (r x : ℕ) (f : ℕ → ℕ) where
  abbrev close : ℕ → ℕ
  close a = if is_close r x a then f a else 0

  -- from its first to the last below n
  sum_close : (n : ℕ) → count_below n close + count_below (min (x - r) n) f ≡ count_below (min (x + r + 1) n) f
  unfolding count_below
  sum_close zero = ends (min (x - r) 0) (min (x + r + 1) 0) (omega arith) (omega arith)
    where
      ends : (a b : ℕ) → a ≡ 0 → b ≡ 0 → 0 + count_below a f ≡ count_below b f
      ends a b p q = rw (p, q) refl
  sum_close (suc n) = elim (cases_lt (n + r) x) [
    | inl l ↦ (
        let none : close n ≡ 0 = rw (far_below r x n l) refl in
        let a : min (x - r) n ≡ n = omega (arith, l) in
        let b : min (x + r + 1) n ≡ n = omega (arith, l) in
        let c : min (x - r) (suc n) ≡ n + 1 = omega (arith, l) in
        let d : min (x + r + 1) (suc n) ≡ n + 1 = omega (arith, l) in
        let before = rw (a, b) at (sum_close n) in
        rw (c, d) (omega (arith, before, none, count_below-more n f)))
    | inr m ↦ elim (cases_lt (x + r) n) [
      | inl l ↦ (
          let none : close n ≡ 0 = rw (far_above r x n l) refl in
          let a : min (x - r) (suc n) ≡ min (x - r) n = omega (arith, l) in
          let b : min (x + r + 1) (suc n) ≡ min (x + r + 1) n = omega (arith, l) in
          rw (a, b) (omega (arith, sum_close n, none)))
      | inr k ↦ (
          let here : close n ≡ f n = rw (near_by r x n m k) refl in
          let a : min (x - r) (suc n) ≡ min (x - r) n = omega (arith, m) in
          let b : min (x + r + 1) n ≡ n = omega (arith, k) in
          let d : min (x + r + 1) (suc n) ≡ n + 1 = omega (arith, k) in
          let before = rw b at (sum_close n) in
          rw (a, d) (omega (arith, before, here, count_below-more n f)))
    ]
  ]

  pub close_between : (n : ℕ) → x < n → count_below n close + count_below (x - r) f ≡ count_below (min (x + r + 1) n) f
  close_between n l =
      let e : min (x - r) n ≡ x - r = omega (arith, l) in
      rw e at (sum_close n)

-- how many places there are
few_close : (r x n : ℕ) → x < n → count_below n (λ a. one_if (is_close r x a)) ≤ 2 * r + 1
few_close r x n l =
    omega (arith, close_between r x (λ a. 1) n l, count_ones (x - r), count_ones (min (x + r + 1) n))

-- ---- a rectangle of pixels by its corners
one_where : (p q t : Bool) → one_if ((p && q) && t) ≡ (if q then (if p then one_if t else 0) else 0)
one_where true true t = refl
one_where true false t = refl
one_where false true t = refl
one_where false false t = refl

where_none : (n : ℕ) (q : Bool) (f : ℕ → ℕ) → count_below n (λ a. if q then f a else 0) ≡ (if q then count_below n f else 0)
where_none n true f = refl
where_none n false f = count_below-zeros n (λ a. 0) (λ i l. refl)

module _ (r w h x y : ℕ) (test : Field Bool) (across : x < w) (along : y < h) where
  abbrev row : ℕ → ℕ
  row b = count_below w (λ a. if is_close r x a then one_if (test a b) else 0)

  near_rows : near_pixels r w h test x y ≡ count_below h (λ b. if is_close r y b then row b else 0)
  near_rows = count_below-same h (λ b. count_below w (λ a. one_if ((is_close r x a && is_close r y b) && test a b))) (λ b. if is_close r y b then row b else 0) (λ b.
      count_below-same w (λ a. one_if ((is_close r x a && is_close r y b) && test a b)) (λ a. if is_close r y b then (if is_close r x a then one_if (test a b) else 0) else 0) (λ a. one_where (is_close r x a) (is_close r y b) (test a b))
      ∙ where_none w (is_close r y b) (λ a. if is_close r x a then one_if (test a b) else 0))

  -- the rows above a row
  rows_above : (k : ℕ) → count_below k row + count_pixels (x - r) k test ≡ count_pixels (min (x + r + 1) w) k test
  rows_above k =
      sym (count_below-both k row (λ b. count_below (x - r) (λ a. one_if (test a b))))
      ∙ count_below-same k (λ b. row b + count_below (x - r) (λ a. one_if (test a b))) (λ b. count_below (min (x + r + 1) w) (λ a. one_if (test a b))) (λ b. close_between r x (λ a. one_if (test a b)) w across)

  pub near_is : near_pixels r w h test x y + count_pixels (min (x + r + 1) w) (y - r) test + count_pixels (x - r) (min (y + r + 1) h) test ≡ count_pixels (min (x + r + 1) w) (min (y + r + 1) h) test + count_pixels (x - r) (y - r) test
  near_is =
      omega (arith, near_rows, close_between r y row h along, rows_above (y - r), rows_above (min (y + r + 1) h))

  pub near_few : near_pixels r w h test x y ≤ (2 * r + 1) * (2 * r + 1)
  near_few =
      let a = count_where h (2 * r + 1) (is_close r y) row (λ b. row_few b) in
      let b = mul-le (count_below h (λ b. one_if (is_close r y b))) (2 * r + 1) (2 * r + 1) (2 * r + 1) (few_close r y h along) (omega arith) in
      omega (arith, near_rows, a, b)
    where
      row_few : (b : ℕ) → row b ≤ 2 * r + 1
      row_few b =
          let a = count_where w 1 (is_close r x) (λ a. one_if (test a b)) (λ a. one_at_most (test a b)) in
          omega (arith, a, few_close r x w across)

-- a bool as a number
pub byte_is : (b : Bool) → bool_byte b ≡ one_if b
byte_is true = refl
byte_is false = refl

pub byte_few : (b : Bool) → bool_byte b ≤ 1
byte_few b = omega (arith, byte_is b, one_at_most b)

-- ---- sums of a raster that is w pixels wide
-- no more than there are pixels
pub pixels_at_most : (x y w h : ℕ) (test : Field Bool) → x ≤ w → y ≤ h → count_pixels x y test ≤ h * w
pixels_at_most x y w h test l m =
    let a = count_below-most y x (λ b. count_below x (λ a. one_if (test a b))) (λ b. row_most b) in
    omega (arith, a, mul-le y x h w m l)
  where
    row_most : (b : ℕ) → count_below x (λ a. one_if (test a b)) ≤ x
    row_most b = let a = count_below-most x 1 (λ a. one_if (test a b)) (λ a. one_at_most (test a b)) in omega (arith, a)

module _ (w : ℕ) (test : Field Bool) where
  -- the sum of a corner
  pub sum_at : (sums : List ℕ) (k x y : ℕ) → AreSummed w test k sums → x ≤ w → y * (w + 1) + x < k → slice_index sums (y * (w + 1) + x) ≡ count_pixels x y test
  sum_at sums k x y is l m = is.summed (y * (w + 1) + x) m ∙ at_corner x y l
    where
      at_corner : (x y : ℕ) → x ≤ w → count_pixels ((y * (w + 1) + x) % (w + 1)) ((y * (w + 1) + x) / (w + 1)) test ≡ count_pixels x y test
      at_corner x y l = rw (mod-mul-add y (w + 1) x (omega (arith, l)), div-mul-add y (w + 1) x (omega (arith, l))) refl

  no_columns : (y : ℕ) → count_pixels 0 y test ≡ 0
  unfolding count_below
  no_columns y = count_below-zeros y (λ b. count_below 0 (λ a. one_if (test a b))) (λ i l. refl)

  no_rows : (i : ℕ) → i < w + 1 → count_pixels (i % (w + 1)) (i / (w + 1)) test ≡ 0
  unfolding count_below
  no_rows i l =
      let e : i ≡ 0 * (w + 1) + i = omega arith in
      let d : i / (w + 1) ≡ 0 = ap (λ (n : ℕ). n / (w + 1)) e ∙ div-mul-add 0 (w + 1) i l in
      rw d refl

  -- nothing is above the first row
  pub summed_none : (sums : List ℕ) → ((i : ℕ) → slice_index sums i ≡ 0) → AreSummed w test (w + 1) sums
  summed_none sums z = record {
    summed = λ i l. z i ∙ sym (no_rows i l);
    rest = λ i l. z i;
  }

  -- nothing is to the left of the first column
  pub summed_begin : (sums : List ℕ) (y : ℕ) → AreSummed w test (y * (w + 1)) sums → AreSummed w test (y * (w + 1) + 0 + 1) sums
  summed_begin sums y is = record {
    summed = λ i l. elim (below_or_last i (y * (w + 1)) (omega (arith, l))) [
      | inl m ↦ is.summed i m
      | inr e ↦ is.rest i (omega (arith, e)) ∙ sym (first i e)
    ];
    rest = λ i l. is.rest i (omega (arith, l));
  }
    where
      first : (i : ℕ) → i ≡ y * (w + 1) → count_pixels (i % (w + 1)) (i / (w + 1)) test ≡ 0
      first i e =
          let f : i ≡ y * (w + 1) + 0 = omega (arith, e) in
          let m : i % (w + 1) ≡ 0 = ap (λ (n : ℕ). n % (w + 1)) f ∙ mod-mul-add y (w + 1) 0 (omega arith) in
          rw m (no_columns (i / (w + 1)))

  -- one more corner
  pub summed_more : (sums : List ℕ) (x y v : ℕ) → AreSummed w test ((y + 1) * (w + 1) + x + 1) sums → x < w → (y + 1) * (w + 1) + x + 1 < length sums → v ≡ slice_index sums (y * (w + 1) + x + 1) + count_below (x + 1) (λ a. one_if (test a y)) → AreSummed w test ((y + 1) * (w + 1) + x + 1 + 1) (slice_set sums ((y + 1) * (w + 1) + x + 1) v)
  summed_more sums x y v is across inside e = record {
    summed = λ i l. elim (below_or_last i ((y + 1) * (w + 1) + x + 1) (omega (arith, l))) [
      | inl m ↦ get_or-set_other sums ((y + 1) * (w + 1) + x + 1) i v 0 (omega (arith, m)) ∙ is.summed i m
      | inr f ↦ rw f (get_or-set_same sums ((y + 1) * (w + 1) + x + 1) v 0 inside ∙ e ∙ value)
    ];
    rest = λ i l. get_or-set_other sums ((y + 1) * (w + 1) + x + 1) i v 0 (omega (arith, l)) ∙ is.rest i (omega (arith, l));
  }
    where
      value : slice_index sums (y * (w + 1) + x + 1) + count_below (x + 1) (λ a. one_if (test a y)) ≡ count_pixels (((y + 1) * (w + 1) + x + 1) % (w + 1)) (((y + 1) * (w + 1) + x + 1) / (w + 1)) test
      value =
          let place : y * (w + 1) + x + 1 ≡ y * (w + 1) + (x + 1) = omega arith in
          let above : slice_index sums (y * (w + 1) + (x + 1)) ≡ count_pixels (x + 1) y test = sum_at sums ((y + 1) * (w + 1) + x + 1) (x + 1) y is (omega (arith, across)) (omega arith) in
          let f : (y + 1) * (w + 1) + x + 1 ≡ (y + 1) * (w + 1) + (x + 1) = omega arith in
          let m : ((y + 1) * (w + 1) + x + 1) % (w + 1) ≡ x + 1 = ap (λ (n : ℕ). n % (w + 1)) f ∙ mod-mul-add (y + 1) (w + 1) (x + 1) (omega (arith, across)) in
          let d : ((y + 1) * (w + 1) + x + 1) / (w + 1) ≡ y + 1 = ap (λ (n : ℕ). n / (w + 1)) f ∙ div-mul-add (y + 1) (w + 1) (x + 1) (omega (arith, across)) in
          rw (m, d, place) (omega (arith, above, count_below-more y (λ b. count_below (x + 1) (λ a. one_if (test a b)))))

  -- the sum of the corner above it
  pub sum_few : (sums : List ℕ) (x y h : ℕ) → AreSummed w test ((y + 1) * (w + 1) + x + 1) sums → x < w → y < h → slice_index sums (y * (w + 1) + x + 1) ≤ h * w
  sum_few sums x y h is across along =
      let place : y * (w + 1) + x + 1 ≡ y * (w + 1) + (x + 1) = omega arith in
      let sum = sum_at sums ((y + 1) * (w + 1) + x + 1) (x + 1) y is (omega (arith, across)) (omega arith) in
      rw place (omega (arith, sum, pixels_at_most (x + 1) y w h test (omega (arith, across)) (omega (arith, along))))

  -- the strong pixels of a row so far
  pub counted_few : (count x y : ℕ) → count ≡ count_below x (λ a. one_if (test a y)) → count ≤ x
  counted_few count x y e = omega (arith, e, count_below-most x 1 (λ a. one_if (test a y)) (λ a. one_at_most (test a y)))

  pub counted_next : (count byte x y : ℕ) (strong : Bool) → count ≡ count_below x (λ a. one_if (test a y)) → byte ≡ bool_byte strong → strong ≡ test x y → count + byte ≡ count_below (x + 1) (λ a. one_if (test a y))
  counted_next count byte x y strong e b s = omega (arith, e, b, byte_is strong, ap one_if s, count_below-more x (λ a. one_if (test a y)))

  pub summed_next : (sums : List ℕ) (count byte x y : ℕ) (strong : Bool) → AreSummed w test ((y + 1) * (w + 1) + x + 1) sums → x < w → y * (w + 1) + x + 1 + (w + 1) < length sums → count ≡ count_below x (λ a. one_if (test a y)) → byte ≡ bool_byte strong → strong ≡ test x y
      → AreSummed w test ((y + 1) * (w + 1) + (x + 1) + 1) (slice_set sums (y * (w + 1) + x + 1 + (w + 1)) (slice_index sums (y * (w + 1) + x + 1) + (count + byte)))
  summed_next sums count byte x y strong is across inside e b s =
      let spot : (y + 1) * (w + 1) + x + 1 ≡ y * (w + 1) + x + 1 + (w + 1) = omega arith in
      let end : (y + 1) * (w + 1) + x + 1 + 1 ≡ (y + 1) * (w + 1) + (x + 1) + 1 = omega arith in
      let v : ℕ = slice_index sums (y * (w + 1) + x + 1) + (count + byte) in
      let more = summed_more sums x y v is across (omega (arith, inside)) (ap (λ (n : ℕ). slice_index sums (y * (w + 1) + x + 1) + n) (counted_next count byte x y strong e b s)) in
      subst (λ (n : ℕ). AreSummed w test n (slice_set sums (y * (w + 1) + x + 1 + (w + 1)) v)) end (subst (λ (n : ℕ). AreSummed w test ((y + 1) * (w + 1) + x + 1 + 1) (slice_set sums n v)) spot more)

-- the pixels near a pixel, by the sums at the four corners of their rectangle
pub near_sums : (r w h x y : ℕ) (test : Field Bool) (sums : List ℕ) → AreSummed w test ((h + 1) * (w + 1)) sums → x < w → y < h
    → (left right top bottom a b c d : ℕ) → left ≡ x - r → right ≡ min (x + r + 1) w → top ≡ y - r → bottom ≡ min (y + r + 1) h
    → a ≡ slice_index sums (bottom * (w + 1) + right) → b ≡ slice_index sums (top * (w + 1) + left) → c ≡ slice_index sums (top * (w + 1) + right) → d ≡ slice_index sums (bottom * (w + 1) + left)
    → (near_pixels r w h test x y + c + d ≡ a + b) × (a ≤ h * w) × (b ≤ h * w)
near_sums r w h x y test sums is across along left right top bottom a b c d el er et eb ea eb' ec ed =
    let l : left ≤ w = omega (arith, el, across) in
    let m : right ≤ w = omega (arith, er) in
    let n : top ≤ h = omega (arith, et, along) in
    let o : bottom ≤ h = omega (arith, eb) in
    let A : a ≡ count_pixels right bottom test = ea ∙ at right bottom m o in
    let B : b ≡ count_pixels left top test = eb' ∙ at left top l n in
    let C : c ≡ count_pixels right top test = ec ∙ at right top m n in
    let D : d ≡ count_pixels left bottom test = ed ∙ at left bottom l o in
    let box : ℕ → ℕ → ℕ = λ u v. count_pixels u v test in
    let near = near_is r w h x y test across along in (
      omega (arith, near, A ∙ ap₂ box er eb, B ∙ ap₂ box el et, C ∙ ap₂ box er et, D ∙ ap₂ box el eb),
      omega (arith, A, pixels_at_most right bottom w h test m o),
      omega (arith, B, pixels_at_most left top w h test l n),
    )
  where
    at : (column row : ℕ) → column ≤ w → row ≤ h → slice_index sums (row * (w + 1) + column) ≡ count_pixels column row test
    at column row l m = sum_at w test sums ((h + 1) * (w + 1)) column row is l (
        let inside : row * (w + 1) + column < (w + 1) * (h + 1) = mul-add-lt row (w + 1) column (h + 1) (omega (arith, m)) (omega (arith, l)) in
        omega (arith, inside))
