-- The pixels of a mask in its words.
use Rattle.std.proofs.Common.{◌≡◌, ◌≢◌, ◌⊎◌, ℕ, ◌+◌, ◌-◌, ◌*◌, ◌/◌, ◌%◌, ◌^◌, ◌<◌, ◌≤◌, List, [], ◌∷◌, ◌++◌, length, replicate, Bool, true, false, sym, ◌∙◌, ap, ap₂, inl, inr, refl, arith, MatchBool, mul_comm, mul_assoc, eq-eqb}
use Rattle.std.specs.Int.{bit_at}
use Rattle.std.specs.Prelude.{◌↔◌, IsTrue, slice_index, ◌==◌}
use Rattle.std.proofs.lemmas.Bool.{cases_order}
use Rattle.std.proofs.lemmas.List.{get_or-replicate, get_or_append_left, get_or_push}
use Rattle.std.proofs.lemmas.Nat.Bits.{bit_at_ones}
use Rattle.sums_and_lists.proofs.Orders.{below_or_last}
use Rattle.std.proofs.lemmas.List.FromFn.{get_or-map-range_with_len, length-map-range_with_len}
use Rattle.std.proofs.lemmas.Nat.{mul-add-lt, mul-le, div-mul-add, mod-mul-add}
use Rattle.raster_model.specs.declared.plane.Plane.{Plane}
use Rattle.raster_model.specs.Bits.{has_bit, AreBitsSet, AreAllBits, HasOtherBit}
use Rattle.raster_model.specs.MaskView.{MaskView}
use Rattle.raster_model.specs.MaskWords.{words_across, bit_of, pixels_of, IsWordOf, AreWordsOf}
use Rattle.raster_model.specs.Masks.{open_at, all_open, open_by, IsMaskOf, IsSetAt, IsSpanSet, IsSpanOf, HasOtherInSpan}

-- two pixels with one place in row order are one pixel
pub same_place : (w x y a b : ℕ) → x < w → a < w → b * w + a ≡ y * w + x → (a ≡ x) × (b ≡ y)
same_place w x y a b l m e = (
  sym (mod-mul-add b w a m) ∙ ap (λ (n : ℕ). n % w) e ∙ mod-mul-add y w x l,
  sym (div-mul-add b w a m) ∙ ap (λ (n : ℕ). n / w) e ∙ div-mul-add y w x l,
)

-- ---- the bit of a pixel, in rows of k bits
before_row : (k y x a b : ℕ) → a < k → b < y → b * k + a < y * k + x
before_row k y x a b l m = omega (arith, mul-le (b + 1) k y k (omega arith) (omega arith))

in_order : (k y x0 x1 a b : ℕ) → x1 < k → a < k → (b ≢ y) ⊎ ((a < x0) ⊎ (x1 < a)) → (b * k + a < y * k + x0) ⊎ (y * k + x1 + 1 ≤ b * k + a)
in_order k y x0 x1 a b l m o = elim (cases_order b y) [
  | inl e ↦ elim o [
    | inl n ↦ absurd (n e)
    | inr (inl p) ↦ inl (rw e (omega (arith, p)))
    | inr (inr p) ↦ inr (rw e (omega (arith, p)))
  ]
  | inr (inl p) ↦ inl (before_row k y x0 a b m p)
  | inr (inr p) ↦ inr (omega (arith, before_row k b a x1 y l p))
]

row_holds : (w x : ℕ) → x < w → x < words_across w * 64
row_holds w x l = omega arith

-- it is one of the bits of all words, and lies in the word of its row and column
bit_inside : (w h x y : ℕ) → x < w → y < h → bit_of w x y < 64 * (words_across w * h)
bit_inside w h x y l m =
    let e : words_across w * 64 * h ≡ 64 * (words_across w * h) = ap (λ (n : ℕ). n * h) (mul_comm (words_across w) 64) ∙ mul_assoc 64 (words_across w) h in
    omega (arith, mul-add-lt y (words_across w * 64) x h m (row_holds w x l), e)

bit_word : (w x y : ℕ) → (bit_of w x y / 64 ≡ y * words_across w + x / 64) × (bit_of w x y % 64 ≡ x % 64)
bit_word w x y =
    let e : y * (words_across w * 64) ≡ y * words_across w * 64 = sym (mul_assoc y (words_across w) 64) in
    (omega (arith, e), omega (arith, e))

-- ---- pixels and bits
abbrev of_words : ℕ → ℕ → List ℕ → MaskView
of_words w h words = record { width = w; height = h; unmasked = pixels_of w h words }

module _ (w h : ℕ) where
  pub has_each_pixel : (words : List ℕ) → length (pixels_of w h words) ≡ w * h
  unfolding pixels_of
  has_each_pixel words = length-map-range_with_len (λ k. has_bit words (bit_of w (k % w) (k / w))) 0 (w * h)

  pub open_is : (words : List ℕ) (x y : ℕ) → x < w → y < h → open_at (of_words w h words) x y ≡ has_bit words (bit_of w x y)
  unfolding pixels_of
  open_is words x y l m =
      get_or-map-range_with_len (λ k. has_bit words (bit_of w (k % w) (k / w))) 0 (w * h) (y * w + x) (y * w + x) Bool.false (mul-add-lt y w x h m l) (omega arith)
      ∙ ap₂ (λ (a b : ℕ). has_bit words (bit_of w a b)) (mod-mul-add y w x l) (div-mul-add y w x l)

  -- a span of a row is a run of bits
  module _ (y x0 x1 : ℕ) (u : Bool) (m : y < h) (l : x1 < w) where
    pub span_set : (old new : List ℕ) → AreBitsSet old new (bit_of w x0 y) (bit_of w x1 y + 1) u → IsSpanSet (of_words w h old) (of_words w h new) y x0 x1 u
    span_set old new set = record {
      width = refl;
      height = refl;
      here = λ x p q. open_is new x y (omega arith) m ∙ set.inside (bit_of w x y) (omega arith) (omega arith);
      elsewhere = λ a b p q o. open_is new a b p q ∙ set.outside (bit_of w a b) (in_order (words_across w * 64) y x0 x1 a b (row_holds w x1 l) (row_holds w a p) o) ∙ sym (open_is old a b p q);
    }

    span_is : (words : List ℕ) → AreAllBits words (bit_of w x0 y) (bit_of w x1 y + 1) u → IsSpanOf (of_words w h words) y x0 x1 u
    span_is words all x p q = open_is words x y (omega arith) m ∙ all (bit_of w x y) (omega arith) (omega arith)

    span_has : (words : List ℕ) → HasOtherBit words (bit_of w x0 y) (bit_of w x1 y + 1) u → HasOtherInSpan (of_words w h words) y x0 x1 u
    span_has words other =
        let x = other.0 - y * (words_across w * 64) in
        let e : bit_of w x y ≡ other.0 = omega (arith, other.1) in
        let p : x0 ≤ x = omega (arith, other.1) in
        let q : x ≤ x1 = omega (arith, other.1, other.2) in
        (x, p, q, λ o. other.3 (ap (has_bit words) (sym e) ∙ sym (open_is words x y (omega (arith, q, l)) m) ∙ o))

    pub span_tells : (words : List ℕ) (changed : Bool) → MatchBool changed (HasOtherBit words (bit_of w x0 y) (bit_of w x1 y + 1) u) (AreAllBits words (bit_of w x0 y) (bit_of w x1 y + 1) u)
        → MatchBool changed (HasOtherInSpan (of_words w h words) y x0 x1 u) (IsSpanOf (of_words w h words) y x0 x1 u)
    span_tells words true h = span_has words h
    span_tells words false h = span_is words h

  pub span_judged : (y x0 x1 : ℕ) → y < h → x1 < w → (words : List ℕ) (answer : Bool) → MatchBool answer (AreAllBits words (bit_of w x0 y) (bit_of w x1 y + 1) true) (HasOtherBit words (bit_of w x0 y) (bit_of w x1 y + 1) true) → IsTrue answer ↔ IsSpanOf (of_words w h words) y x0 x1 true
  span_judged y x0 x1 m l words true all = (λ t. span_is y x0 x1 true m l words all, λ o. refl)
  span_judged y x0 x1 m l words false other = (λ t. cc, λ o. (let u = span_has y x0 x1 true m l words other in absurd (u.3 (o u.0 u.1 u.2))))

-- one pixel is a span
pub set_one : (old new : MaskView) (x y : ℕ) (u : Bool) → IsSpanSet old new y x x u → IsSetAt old new x y u
set_one old new x y u is = record {
  width = is.width;
  height = is.height;
  here = is.here x (omega arith) (omega arith);
  elsewhere = λ a b p q d. is.elsewhere a b p q (elim d [ inl n ↦ inr (apart a n) | inr n ↦ inl n ]);
}
  where
    apart : (a : ℕ) → a ≢ x → (a < x) ⊎ (x < a)
    apart a n = elim (cases_order a x) [ inl e ↦ absurd (n e) | inr o ↦ o ]

-- ---- every pixel open
all_ones : (n b : ℕ) → b < 64 * n → has_bit (replicate n (2 ^ 64 - 1)) b ≡ true
all_ones n b l =
    ap (λ (k : ℕ). bit_at k (b % 64) == 1) (get_or-replicate n (b / 64) (2 ^ 64 - 1) 0 (omega arith))
    ∙ eq-eqb (bit_at (2 ^ 64 - 1) (b % 64)) 1 (bit_at_ones 64 (b % 64) (omega arith))

pub opens_all : (w h n : ℕ) (words : List ℕ) → n ≡ words_across w * h → words ≡ replicate n (2 ^ 64 - 1) → IsMaskOf (of_words w h words) w h all_open
opens_all w h n words size same = record {
  width = refl;
  height = refl;
  clear_at = λ x y l m. open_is w h words x y l m ∙ ap (λ (list : List ℕ). has_bit list (bit_of w x y)) same ∙ all_ones n (bit_of w x y) (omega (arith, bit_inside w h x y l m, size));
}

-- ---- the words of a plane, row by row
bit_in_word : (words : List ℕ) (w x y : ℕ) → has_bit words (bit_of w x y) ≡ (bit_at (slice_index words (y * words_across w + x / 64)) (x % 64) == 1)
bit_in_word words w x y = ap₂ (λ (i k : ℕ). bit_at (slice_index words i) k == 1) (bit_word w x y).0 (bit_word w x y).1

pub more_words : (p : Plane) (n : ℕ) (words : List ℕ) (word : ℕ) → length words ≡ n → AreWordsOf p n words → IsWordOf p (n / words_across p.width) (n % words_across p.width) word → AreWordsOf p (n + 1) (words ++ word ∷ [])
more_words p n words word size are is x y l m b = elim (below_or_last (y * words_across p.width + x / 64) n b) [
  | inl k ↦ at (get_or_append_left words (word ∷ []) 0 (y * words_across p.width + x / 64) (omega (arith, k, size))) ∙ sym (bit_in_word words p.width x y) ∙ are x y l m k
  | inr e ↦ (
      let c : x / 64 < words_across p.width = omega (arith, l) in
      let row : y ≡ n / words_across p.width = sym (div-mul-add y (words_across p.width) (x / 64) c) ∙ ap (λ (k : ℕ). k / words_across p.width) e in
      let column : x / 64 ≡ n % words_across p.width = sym (mod-mul-add y (words_across p.width) (x / 64) c) ∙ ap (λ (k : ℕ). k % words_across p.width) e in
      at (get_or_push words word 0 (y * words_across p.width + x / 64) (size ∙ sym e)) ∙ is x l column ∙ ap (open_by p x) (sym row))
]
  where
    at : {k : ℕ} → slice_index (words ++ word ∷ []) (y * words_across p.width + x / 64) ≡ k → has_bit (words ++ word ∷ []) (bit_of p.width x y) ≡ (bit_at k (x % 64) == 1)
    at e = bit_in_word (words ++ word ∷ []) p.width x y ∙ ap (λ (i : ℕ). bit_at i (x % 64) == 1) e

pub all_words : (p : Plane) (n : ℕ) (words : List ℕ) → n ≡ words_across p.width * p.height → AreWordsOf p n words → IsMaskOf (of_words p.width p.height words) p.width p.height (open_by p)
all_words p n words whole are = record {
  width = refl;
  height = refl;
  clear_at = λ x y l m. open_is p.width p.height words x y l m ∙ are x y l m (omega (arith, mul-add-lt y (words_across p.width) (x / 64) p.height m (omega (arith, l)), whole));
}
