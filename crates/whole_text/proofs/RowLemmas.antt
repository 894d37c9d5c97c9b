-- Rows of a list of faces, and the list that rows make.
use Rattle.std.proofs.Common.{◌≡◌, ℕ, zero, suc, ◌+◌, ◌-◌, ◌*◌, ◌≤◌, ◌<◌, ℤ, List, [], ◌++◌, drop, length, take, inl, inr, refl, sym, ap, ◌∙◌, arith, mul-le-mul}
use Rattle.std.proofs.Math.Nat.{mul_comm}
use Rattle.std.specs.Prelude.{◌==◌}
use Rattle.std.proofs.lemmas.Bool.{cases_Bool, eqb-true}
use Rattle.std.proofs.lemmas.List.{drop-append-le, length-append, length-drop, length-take-le, drop-take, take-append-drop, take-append-le, take-take, take_all}
use Rattle.std.proofs.lemmas.List.Elements.{All-append, All-drop, All-take}
use Rattle.std.proofs.Math.Seq.{drop-append_seam}
use Rattle.sums_and_lists.proofs.Orders.{below_or_last}
use Rattle.text_lines.specs.Numbers.{AreLongs, FitsLong}
use Rattle.text_lines.proofs.TextLemmas.{texts_same}
use Rattle.text_parts.specs.Text.{ended_line}
use Rattle.text_parts.proofs.PartForms.{none_long}
use Rattle.whole_text.specs.Parts.{AreRows, lines_of_rows}
use Rattle.whole_text.specs.Text.{AreCellFaces, cell_rows, face_row, face_rows, row_of}

-- ---- a list and a row after it

row_start : (across t n : ℕ) → t < n → t * across + across ≤ n * across
row_start across t n lt = let more : (t + 1) * across ≤ n * across = mul-le-mul (omega (arith, lt)) (omega arith) in omega (arith, more)

pub row_before : (across n : ℕ) (faces row : List ℤ) → length faces ≡ n * across → (t : ℕ) → t < n → row_of across (faces ++ row) t ≡ row_of across faces t
row_before across n faces row e t lt =
    let within = row_start across t n lt in
    let start : t * across ≤ length faces = omega (arith, within, e) in
    let rest : across ≤ length (drop (t * across) faces) = omega (arith, within, e, length-drop (t * across) faces) in
    ap (take across) (drop-append-le (t * across) faces row start) ∙ take-append-le across (drop (t * across) faces) row rest

pub row_new : (across n : ℕ) (faces row : List ℤ) → length faces ≡ n * across → length row ≡ across → row_of across (faces ++ row) n ≡ row
row_new across n faces row e f =
    ap (λ (k : ℕ). take across (drop k (faces ++ row))) (sym e) ∙ ap (take across) (drop-append_seam faces row) ∙ take_all across row (omega (arith, f))

-- ---- rows of a list stand

pub row_stands : (across rows : ℕ) (faces : List ℤ) → AreLongs faces → length faces ≡ rows * across → AreRows across rows (row_of across faces)
row_stands across rows faces longs e t lt =
    let within = row_start across t rows lt in (
      All-take FitsLong across (drop (t * across) faces) (All-drop FitsLong (t * across) faces longs),
      length-take-le across (drop (t * across) faces) (omega (arith, within, e, length-drop (t * across) faces)),
    )

-- ---- the list that rows make

pub list_of : ℕ → (ℕ → List ℤ) → List ℤ
list_of zero f = []
list_of (suc n) f = list_of n f ++ f n

module _ (across : ℕ) (f : ℕ → List ℤ) where
  pub list_length : (n : ℕ) → AreRows across n f → length (list_of n f) ≡ n * across
  unfolding list_of
  list_length zero a = omega arith
  list_length (suc n) a = let before = list_length n (λ t lt. a t (omega (arith, lt))) in let last = a n (omega arith) in omega (arith, before, length-append (list_of n f) (f n), last.1)

  pub list_longs : (n : ℕ) → AreRows across n f → AreLongs (list_of n f)
  unfolding list_of
  list_longs zero a = none_long
  list_longs (suc n) a = let last = a n (omega arith) in All-append FitsLong (list_of n f) (f n) (list_longs n (λ t lt. a t (omega (arith, lt)))) last.0

  pub list_rows : (n : ℕ) → AreRows across n f → (t : ℕ) → t < n → row_of across (list_of n f) t ≡ f t
  unfolding list_of
  list_rows zero a t lt = absurd (omega (arith, lt))
  list_rows (suc n) a t lt =
      let before : AreRows across n f = λ u l. a u (omega (arith, l)) in
      let last = a n (omega arith) in
      let size = list_length n before in
      elim (below_or_last t n (omega (arith, lt))) [
        | inl l ↦ row_before across n (list_of n f) (f n) size t l ∙ list_rows n before t l
        | inr e ↦ rw e (row_new across n (list_of n f) (f n) size last.1)
      ]

-- the numbers of the first rows and of the next
next : (across : ℕ) (c : List ℤ) (k : ℕ) → take (k * across) c ++ take across (drop (k * across) c) ≡ take (suc k * across) c
next across c k =
    let n = k * across in
    let more : suc k * across ≡ n + across = omega arith in
    let front : take n (take (n + across) c) ≡ take n c = take-take n (n + across) c (omega arith) in
    ap (λ (l : List ℤ). l ++ take across (drop n c)) (sym front) ∙ ap (λ (l : List ℤ). take n (take (n + across) c) ++ l) (sym (drop-take n across c)) ∙ take-append-drop n (take (n + across) c) ∙ ap (λ (i : ℕ). take i c) (sym more)

-- two lists with equal rows are equal
pub same_rows : (across n : ℕ) (a b : List ℤ) → length a ≡ n * across → length b ≡ n * across → ((t : ℕ) → t < n → row_of across a t ≡ row_of across b t) → a ≡ b
unfolding list_of
same_rows across n a b e f rows = whole across n a e ∙ same n rows ∙ sym (whole across n b f)
  where
    front : (across : ℕ) (c : List ℤ) (k : ℕ) → list_of k (row_of across c) ≡ take (k * across) c
    front across c zero = ap (λ (k : ℕ). take k c) (let e : 0 ≡ 0 * across = omega arith in e)
    front across c (suc k) = ap (λ (l : List ℤ). l ++ row_of across c k) (front across c k) ∙ next across c k

    whole : (across n : ℕ) (c : List ℤ) → length c ≡ n * across → c ≡ list_of n (row_of across c)
    whole across n c e = sym (front across c n ∙ take_all (n * across) c (omega (arith, e)))

    same : (k : ℕ) → ((t : ℕ) → t < k → row_of across a t ≡ row_of across b t) → list_of k (row_of across a) ≡ list_of k (row_of across b)
    same zero r = refl
    same (suc k) r = ap (λ (l : List ℤ). l ++ row_of across a k) (same k (λ t lt. r t (omega (arith, lt)))) ∙ ap (λ (l : List ℤ). list_of k (row_of across b) ++ l) (r k (omega arith))

-- ---- the cells of a raster

pub cells_counted : (width height : ℕ) → cell_rows width height * (width - 1) ≡ (width - 1) * (height - 1)
cells_counted width height = elim (cases_Bool (width == 1)) [
  | inl one ↦ (let e = eqb-true width 1 one in rw e (omega arith))
  | inr more ↦ rw more (mul_comm (height - 1) (width - 1))
]

pub cells_stand : (width height : ℕ) (faces : List ℤ) → AreCellFaces width height faces → AreRows (width - 1) (cell_rows width height) (row_of (width - 1) faces)
cells_stand width height faces a = row_stands (width - 1) (cell_rows width height) faces a.0 (a.1 ∙ sym (cells_counted width height))

pub faces_are : (width height : ℕ) (faces : List ℤ) → face_rows width height faces ≡ lines_of_rows (cell_rows width height) (row_of (width - 1) faces)
unfolding face_rows
faces_are width height faces = refl

-- rows make the faces of a raster, with the same lines
module _ (width height : ℕ) (f : ℕ → List ℤ) (a : AreRows (width - 1) (cell_rows width height) f) where
  pub rows_make : AreCellFaces width height (list_of (cell_rows width height) f)
  rows_make = (list_longs (width - 1) f (cell_rows width height) a, list_length (width - 1) f (cell_rows width height) a ∙ cells_counted width height)

  pub rows_told : lines_of_rows (cell_rows width height) f ≡ face_rows width height (list_of (cell_rows width height) f)
  rows_told =
      let n = cell_rows width height in
      texts_same n (λ y. ended_line face_row (f y)) (λ y. ended_line face_row (row_of (width - 1) (list_of n f) y)) (λ t lt. ap (ended_line face_row) (sym (list_rows (width - 1) f n a t lt)))
      ∙ sym (faces_are width height (list_of n f))
