-- What screening leaves, once and twice.
use Rattle.std.proofs.Common.{◌≡◌, ◌≢◌, ℕ, zero, suc, ◌+◌, ◌*◌, ◌<◌, ◌≤◌, ◌⊎◌, inl, inr, sym, ◌∙◌, ap, ap₂, refl, arith, Bool, true, false, length}
use Rattle.std.specs.Prelude.{IsTrue, ◌&&◌, ◌==◌, nat_le, cond}
use Rattle.std.proofs.lemmas.Bool.{and_from, cases_Bool, cases_eq, le-leb, leb-true, lt-leb}
use Rattle.std.proofs.lemmas.List.Sums.{count_by_more_yes, sum_by-take-le}
use Rattle.std.proofs.lemmas.Nat.{mul-add-lt}
use Rattle.raster_model.specs.declared.plane.Plane.{Plane}
use Rattle.raster_model.specs.MaskView.{MaskView}
use Rattle.raster_model.specs.Masks.{IsMaskOf, all_open, open_at}
use Rattle.raster_model.specs.Planes.{plane_sample}
use Rattle.raster_model.specs.Sums.{Field}
use Rattle.sums_and_lists.specs.Sums.{count_below, one_if}
use Rattle.sums_and_lists.proofs.CountLemmas.{count_below-le, count_below-more}
use Rattle.sums_and_lists.proofs.Orders.{below_at_above}
use Rattle.sums_and_lists.proofs.Tests.{and_first, and_second, one_at_most, same_number}
use Rattle.auto_masks.specs.declared.terms.ScreenTerms.{ScreenTerms}
use Rattle.auto_masks.specs.Laws.{AllPassingPixelsStay, OnlyPassingPixelsStay, TwiceCanBeLess, TwiceIsOnce, TwiceKeepsWhatPasses, three_near}
use Rattle.auto_masks.specs.Patches.{patch_label, patch_size}
use Rattle.auto_masks.specs.PatchesView.{PatchesView}
use Rattle.auto_masks.specs.Screened.{IsScreened, count_pixels, is_close, is_strong, near_count, near_pixels, passes}
use Rattle.auto_masks.proofs.SumLemmas.{near_by, near_few}

-- ---- counts of pixels: at least one for each that passes a test
one_counted : (n i k : ℕ) (f : ℕ → ℕ) → i < n → k ≤ f i → k ≤ count_below n f
one_counted n i k f l m = omega (arith, m, count_below-more i f, count_below-le (i + 1) n f (omega arith))

in_order : (n i j k m : ℕ) (f : ℕ → ℕ) → i < j → j < n → k ≤ f i → m ≤ f j → k + m ≤ count_below n f
in_order n i j k m f l p a b = omega (arith, b, one_counted j i k f l a, count_below-more j f, count_below-le (j + 1) n f (omega arith))

two_counted : (n i j : ℕ) (f : ℕ → ℕ) → i < n → j < n → i ≢ j → 1 ≤ f i → 1 ≤ f j → 2 ≤ count_below n f
two_counted n i j f l m d a b = elim (below_at_above i j) [
  | inl k ↦ in_order n i j 1 1 f k m a b
  | inr o ↦ elim o [ inl e ↦ absurd (d e) | inr k ↦ in_order n j i 1 1 f k l b a ]
]

counted_le : (n : ℕ) (f g : ℕ → ℕ) → ((i : ℕ) → i < n → f i ≤ g i) → count_below n f ≤ count_below n g
unfolding count_below
counted_le zero f g h = omega arith
counted_le (suc n) f g h = omega (arith, counted_le n f g (λ i l. h i (omega arith)), h n (omega arith))

one_of : (b : Bool) → b ≡ true → 1 ≤ one_if b
one_of b e = rw e (omega arith)

one_le : (b c : Bool) → (b ≡ true → c ≡ true) → one_if b ≤ one_if c
one_le true c h = one_of c (h refl)
one_le false c h = omega arith

module _ (w h : ℕ) (test : Field Bool) where
  in_row : (x y : ℕ) → x < w → test x y ≡ true → 1 ≤ count_below w (λ a. one_if (test a y))
  in_row x y l t = one_counted w x 1 (λ a. one_if (test a y)) l (one_of (test x y) t)

  two_pixels : (x y a b : ℕ) → x < w → y < h → a < w → b < h → (a ≢ x) ⊎ (b ≢ y) → test x y ≡ true → test a b ≡ true → 2 ≤ count_pixels w h test
  two_pixels x y a b l k m n d s t = elim (cases_eq b y) [
    | inl e ↦ elim d [
      | inl apart ↦ one_counted h y 2 (λ v. count_below w (λ u. one_if (test u v))) k (two_counted w a x (λ u. one_if (test u y)) m l apart (one_of (test a y) (ap (test a) (sym e) ∙ t)) (one_of (test x y) s))
      | inr apart ↦ absurd (apart e)
    ]
    | inr apart ↦ two_counted h b y (λ v. count_below w (λ u. one_if (test u v))) n k apart (in_row a b m t) (in_row x y l s)
  ]

  pixels_le : (other : Field Bool) → ((x y : ℕ) → x < w → y < h → test x y ≡ true → other x y ≡ true) → count_pixels w h test ≤ count_pixels w h other
  pixels_le other with_it = counted_le h (λ v. count_below w (λ u. one_if (test u v))) (λ v. count_below w (λ u. one_if (other u v))) (λ v n.
      counted_le w (λ u. one_if (test u v)) (λ u. one_if (other u v)) (λ u m. one_le (test u v) (other u v) (with_it u v m n)))

-- ---- nearness
close_self : (r x : ℕ) → is_close r x x ≡ true
close_self r x = near_by r x x (omega arith) (omega arith)

close_too : (r x a : ℕ) → is_close r x a ≡ true → is_close r a x ≡ true
close_too r x a c = and_from (nat_le a (x + r)) (nat_le x (a + r)) (and_second (nat_le x (a + r)) (nat_le a (x + r)) c) (and_first (nat_le x (a + r)) (nat_le a (x + r)) c)

-- ---- a patch has one pixel at least
size_some : (v : PatchesView) (x y : ℕ) → y * v.width + x < length v.labels → 1 ≤ patch_size v (patch_label v x y)
size_some v x y l =
    let n = patch_label v x y in
    let i = y * v.width + x in
    omega (arith, count_by_more_yes (λ label. label == n) v.labels i 0 l (same_number n), sum_by-take-le (λ label. cond (label == n) 1 0) v.labels (i + 1))

and_true : (p q : Bool) → q ≡ true → (p && q) ≡ p
and_true true q e = e
and_true false q e = refl

module _ (t : ScreenTerms) (weights : Plane) (clear : Field Bool) (m : MaskView) (is : IsScreened t weights clear m) where
  open_passes : (x y : ℕ) → x < weights.width → y < weights.height → IsTrue (open_at m x y) → IsTrue (passes t weights clear x y)
  open_passes x y l k o =
      let v = is.patches in
      and_first (passes t weights clear x y) (nat_le t.patch (patch_size v (patch_label v x y))) (sym (is.kept.clear_at x y l k) ∙ o)

  all_passing : t.patch ≤ 1 → IsMaskOf m weights.width weights.height (passes t weights clear)
  all_passing few = record {
    width = is.kept.width;
    height = is.kept.height;
    clear_at = λ x y l k. is.kept.clear_at x y l k ∙ and_true (passes t weights clear x y) (nat_le t.patch (patch_size is.patches (patch_label is.patches x y))) (large x y l k);
  }
    where
      large : (x y : ℕ) → x < weights.width → y < weights.height → nat_le t.patch (patch_size is.patches (patch_label is.patches x y)) ≡ true
      large x y l k =
          let v = is.patches in
          let inside : y * weights.width + x < weights.width * weights.height = mul-add-lt y weights.width x weights.height k l in
          let place : y * v.width + x ≡ y * weights.width + x = ap (λ (n : ℕ). y * n + x) is.of_passing.width in
          le-leb t.patch (patch_size v (patch_label v x y)) (omega (arith, few, size_some v x y (omega (arith, place, inside, is.of_passing.full))))

pub only_passing_stay : OnlyPassingPixelsStay
only_passing_stay t weights clear m x y l k is o =
    let p = open_passes t weights clear m is x y l k o in
    let s = and_first (is_strong t weights clear x y) (nat_le t.count (near_count t weights clear x y)) p in
    (and_first (clear x y) (nat_le t.weight (plane_sample weights x y)) s, p)

pub all_passing_stay : AllPassingPixelsStay
all_passing_stay t weights clear m few is = all_passing t weights clear m is few

pub twice_passing : TwiceKeepsWhatPasses
twice_passing t weights clear once twice few is again = all_passing t weights (open_at once) twice again few

-- ---- where two near pixels are enough
same_or_other : (a b x y : ℕ) → ((a ≡ x) × (b ≡ y)) ⊎ ((a ≢ x) ⊎ (b ≢ y))
same_or_other a b x y = elim (cases_eq a x) [
  | inr n ↦ inr (inl n)
  | inl e ↦ elim (cases_eq b y) [ inr n ↦ inr (inr n) | inl f ↦ inl (e, f) ]
]

module _ (t : ScreenTerms) (weights : Plane) (clear : Field Bool) (once : MaskView) (is : IsMaskOf once weights.width weights.height (passes t weights clear)) where
  abbrev strong : Field Bool
  strong = is_strong t weights clear

  abbrev near_to : ℕ → ℕ → Field Bool → Field Bool
  near_to x y test a b = is_close t.radius x a && is_close t.radius y b && test a b

  heavy : (x y : ℕ) → strong x y ≡ true → nat_le t.weight (plane_sample weights x y) ≡ true
  heavy x y s = and_second (clear x y) (nat_le t.weight (plane_sample weights x y)) s

  still_strong : (x y : ℕ) → x < weights.width → y < weights.height → passes t weights clear x y ≡ true → is_strong t weights (open_at once) x y ≡ true
  still_strong x y l k p = and_from (open_at once x y) (nat_le t.weight (plane_sample weights x y)) (is.clear_at x y l k ∙ p) (heavy x y (and_first (strong x y) (nat_le t.count (near_count t weights clear x y)) p))

  module _ (x y : ℕ) (l : x < weights.width) (k : y < weights.height) (p : passes t weights clear x y ≡ true) (few : t.count ≤ 2) where
    -- what is near a passing pixel passes too
    neighbour : (a b : ℕ) → a < weights.width → b < weights.height → near_to x y strong a b ≡ true → passes t weights clear a b ≡ true
    neighbour a b m n near =
        let c = and_first (is_close t.radius x a && is_close t.radius y b) (strong a b) near in
        let s = and_second (is_close t.radius x a && is_close t.radius y b) (strong a b) near in
        elim (same_or_other a b x y) [
          | inl e ↦ ap₂ (passes t weights clear) e.0 e.1 ∙ p
          | inr d ↦ and_from (strong a b) (nat_le t.count (near_count t weights clear a b)) s (
              le-leb t.count (near_count t weights clear a b) (omega (
                arith,
                few,
                two_pixels weights.width weights.height (near_to a b strong) x y a b l k m n d (
                    and_from (is_close t.radius a x && is_close t.radius b y) (strong x y) (
                    and_from (is_close t.radius a x) (is_close t.radius b y) (close_too t.radius x a (and_first (is_close t.radius x a) (is_close t.radius y b) c)) (close_too t.radius y b (and_second (is_close t.radius x a) (is_close t.radius y b) c))) (and_first (strong x y) (nat_le t.count (near_count t weights clear x y)) p)) (
                    and_from (is_close t.radius a a && is_close t.radius b b) (strong a b) (
                    and_from (is_close t.radius a a) (is_close t.radius b b) (close_self t.radius a) (close_self t.radius b)) s),
              )))
        ]

    near_too : near_count t weights clear x y ≤ near_count t weights (open_at once) x y
    near_too = pixels_le weights.width weights.height (near_to x y strong) (near_to x y (is_strong t weights (open_at once))) (λ a b m n near.
        and_from (is_close t.radius x a && is_close t.radius y b) (is_strong t weights (open_at once) a b) (and_first (is_close t.radius x a && is_close t.radius y b) (strong a b) near) (still_strong a b m n (neighbour a b m n near)))

    passes_again : passes t weights (open_at once) x y ≡ true
    passes_again = and_from (is_strong t weights (open_at once) x y) (nat_le t.count (near_count t weights (open_at once) x y)) (still_strong x y l k p) (
        le-leb t.count (near_count t weights (open_at once) x y) (omega (arith, near_too, leb-true t.count (near_count t weights clear x y) (and_second (strong x y) (nat_le t.count (near_count t weights clear x y)) p))))

  -- a pixel that passes needs at most two, if none but itself is near
  needs_two : (t.count ≤ 2) ⊎ (t.radius ≡ 0) → (x y : ℕ) → x < weights.width → y < weights.height → passes t weights clear x y ≡ true → t.count ≤ 2
  needs_two either x y l k p = elim either [
    | inl few ↦ few
    | inr e ↦ (
        let c = leb-true t.count (near_count t weights clear x y) (and_second (strong x y) (nat_le t.count (near_count t weights clear x y)) p) in
        omega (arith, c, no_radius t.radius (near_count t weights clear x y) e (near_few t.radius weights.width weights.height x y strong l k)))
  ]
    where
      no_radius : (r n : ℕ) → r ≡ 0 → n ≤ (2 * r + 1) * (2 * r + 1) → n ≤ 1
      no_radius r n e most = let one = rw e at most in omega (arith, one)

  passes_where_open : (t.count ≤ 2) ⊎ (t.radius ≡ 0) → (x y : ℕ) → x < weights.width → y < weights.height → passes t weights (open_at once) x y ≡ open_at once x y
  passes_where_open either x y l k = elim (cases_Bool (open_at once x y)) [
    | inl o ↦ (let p = sym (is.clear_at x y l k) ∙ o in passes_again x y l k p (needs_two either x y l k p) ∙ sym o)
    | inr c ↦ masked (open_at once x y) (nat_le t.weight (plane_sample weights x y)) (nat_le t.count (near_count t weights (open_at once) x y)) c
  ]
    where
      masked : (o p q : Bool) → o ≡ false → ((o && p) && q) ≡ o
      masked o p q c = rw c refl

pub twice_is_once : TwiceIsOnce
twice_is_once t weights clear once twice few either is again =
    let a = all_passing t weights clear once is few in
    let b = all_passing t weights (open_at once) twice again few in
    record { width = b.width; height = b.height; clear_at = λ x y l k. b.clear_at x y l k ∙ passes_where_open t weights clear once a either x y l k }

-- ---- three pixels in a row
module _ (test : Field Bool) where
  near_left : near_pixels 1 3 1 test 0 0 ≡ one_if (test 0 0) + one_if (test 1 0)
  unfolding count_below
  near_left = omega arith

  near_middle : near_pixels 1 3 1 test 1 0 ≡ one_if (test 0 0) + one_if (test 1 0) + one_if (test 2 0)
  unfolding count_below
  near_middle = omega arith

  near_right : near_pixels 1 3 1 test 2 0 ≡ one_if (test 1 0) + one_if (test 2 0)
  unfolding count_below
  near_right = omega arith

too_few : (p : Bool) (n : ℕ) → n < 3 → (p && nat_le 3 n) ≡ false
too_few true n l = lt-leb 3 n l
too_few false n l = refl

module _ (weights : Plane) (w : weights.width ≡ 3) (h : weights.height ≡ 1) where
  module _ (clear : Field Bool) where
    abbrev strong_now : Field Bool
    strong_now = is_strong three_near weights clear

    in_row_of_three : (x : ℕ) → near_count three_near weights clear x 0 ≡ near_pixels 1 3 1 strong_now x 0
    in_row_of_three x = ap₂ (λ (u v : ℕ). near_pixels 1 u v strong_now x 0) w h

    fails : (x : ℕ) → near_pixels 1 3 1 strong_now x 0 < 3 → passes three_near weights clear x 0 ≡ false
    fails x l = too_few (strong_now x 0) (near_count three_near weights clear x 0) (omega (arith, in_row_of_three x, l))

    left_fails : passes three_near weights clear 0 0 ≡ false
    left_fails = fails 0 (omega (arith, near_left strong_now, one_at_most (strong_now 0 0), one_at_most (strong_now 1 0)))

    right_fails : passes three_near weights clear 2 0 ≡ false
    right_fails = fails 2 (omega (arith, near_right strong_now, one_at_most (strong_now 1 0), one_at_most (strong_now 2 0)))

    alone_fails : clear 0 0 ≡ false → clear 2 0 ≡ false → passes three_near weights clear 1 0 ≡ false
    alone_fails e f = fails 1 (omega (arith, near_middle strong_now, weak (clear 0 0) (nat_le 0 (plane_sample weights 0 0)) e, one_at_most (strong_now 1 0), weak (clear 2 0) (nat_le 0 (plane_sample weights 2 0)) f))
      where
        weak : (o p : Bool) → o ≡ false → one_if (o && p) ≡ 0
        weak o p e = rw e refl

  middle_passes : passes three_near weights all_open 1 0 ≡ true
  middle_passes =
      let strong_at : (x : ℕ) → is_strong three_near weights all_open x 0 ≡ true = λ x. le-leb 0 (plane_sample weights x 0) (omega arith) in
      let near = near_middle (is_strong three_near weights all_open) in
      and_from (is_strong three_near weights all_open 1 0) (nat_le 3 (near_count three_near weights all_open 1 0)) (strong_at 1) (
      le-leb 3 (near_count three_near weights all_open 1 0) (omega (arith, in_row_of_three all_open 1, near, ap one_if (strong_at 0), ap one_if (strong_at 1), ap one_if (strong_at 2))))

pub twice_can_be_less : TwiceCanBeLess
twice_can_be_less weights once twice w h is again =
    let a = all_passing three_near weights all_open once is (omega arith) in
    let b = all_passing three_near weights (open_at once) twice again (omega arith) in
    let row : 0 < weights.height = omega (arith, h) in (
      a.clear_at 1 0 (omega (arith, w)) row ∙ middle_passes weights w h,
      b.clear_at 1 0 (omega (arith, w)) row ∙ alone_fails weights w h (open_at once) (
          a.clear_at 0 0 (omega (arith, w)) row ∙ left_fails weights w h all_open) (
          a.clear_at 2 0 (omega (arith, w)) row ∙ right_fails weights w h all_open),
    )
