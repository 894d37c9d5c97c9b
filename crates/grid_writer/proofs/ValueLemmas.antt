-- Rows of values as lists.
use Rattle.std.proofs.Common.{◌≡◌, ℕ, zero, suc, ◌+◌, ◌*◌, ◌<◌, ◌≤◌, List, [], ◌∷◌, ◌++◌, length, take, drop, get_or, ℤ, pos, sym, ap, subst, refl, ◌∙◌, arith, inl, inr}
use Rattle.std.proofs.lemmas.Bool.{cases_lt}
use Rattle.std.proofs.lemmas.List.{get_or_append_left, get_or-append-add, get_or-drop, get_or-take, length-drop, length-take-le, length_push, same_from_push, take_all, take_more}
use Rattle.std.proofs.lemmas.List.Elements.{All-nil, All-push}
use Rattle.std.proofs.lemmas.Nat.{mul-add-lt}
use Rattle.raster_model.specs.Sums.{Field}
use Rattle.text_lines.specs.Numbers.{AreLongs, FitsLong, numbers_line}
use Rattle.text_lines.proofs.TextLemmas.{texts_more, texts_none, texts_same}
use Rattle.grid_writer.specs.Grid.{grid_row, grid_rows, values_below}
use Rattle.grid_writer.specs.Grids.{value_at}

pub length_values : (n : ℕ) (f : ℕ → ℤ) → length (values_below n f) ≡ n
unfolding values_below
length_values zero f = refl
length_values (suc n) f = length_push (values_below n f) (f n) ∙ (let e = length_values n f in omega (arith, e))

pub values_long : (n : ℕ) (f : ℕ → ℤ) → ((x : ℕ) → x < n → FitsLong (f x)) → AreLongs (values_below n f)
unfolding values_below
values_long zero f p = All-nil FitsLong
values_long (suc n) f p = All-push FitsLong (values_below n f) (f n) (values_long n f (λ x lt. p x (omega arith))) (p n (omega arith))

pub values_at : (n : ℕ) (f g : ℕ → ℤ) → values_below n f ≡ values_below n g → (x : ℕ) → x < n → f x ≡ g x
unfolding values_below
values_at zero f g e x lt = absurd (omega arith)
values_at (suc n) f g e x lt =
    let p = same_from_push (values_below n f) (values_below n g) (f n) (g n) e in
    elim (cases_lt x n) [
      | inl below ↦ values_at n f g p.0 x below
      | inr above ↦ let same : x ≡ n = omega arith in rw same p.1
    ]

values_same : (n : ℕ) (f g : ℕ → ℤ) → ((x : ℕ) → x < n → f x ≡ g x) → values_below n f ≡ values_below n g
unfolding values_below
values_same zero f g e = refl
values_same (suc n) f g e = ap (λ (l : List ℤ). l ++ f n ∷ []) (values_same n f g (λ x lt. e x (omega arith))) ∙ ap (λ (v : ℤ). values_below n g ++ v ∷ []) (e n (omega arith))

values_taken : (n : ℕ) (row : List ℤ) → n ≤ length row → values_below n (λ x. get_or row x (pos 0)) ≡ take n row
unfolding values_below
values_taken zero row le = refl
values_taken (suc n) row le =
    let lt : n < length row = omega arith in
    let e : n + 1 ≡ suc n = omega arith in
    ap (λ (l : List ℤ). l ++ get_or row n (pos 0) ∷ []) (values_taken n row (omega arith)) ∙ sym (take_more row n (pos 0) lt) ∙ ap (λ (m : ℕ). take m row) e

-- a list that begins with a row's values
pub row_taken : (width : ℕ) (row : List ℤ) (values : Field ℤ) (y : ℕ) → width ≤ length row → ((x : ℕ) → x < width → get_or row x (pos 0) ≡ values x y) → numbers_line (take width row) ++ 10 ∷ [] ≡ grid_row values width y
row_taken width row values y le same = ap (λ (l : List ℤ). numbers_line l ++ 10 ∷ []) (sym (values_taken width row le) ∙ values_same width (λ x. get_or row x (pos 0)) (λ x. values x y) same)

pub taken_long : (width : ℕ) (row : List ℤ) (values : Field ℤ) (y : ℕ) → width ≤ length row → ((x : ℕ) → x < width → get_or row x (pos 0) ≡ values x y) → AreLongs (take width row) → (x : ℕ) → x < width → FitsLong (values x y)
taken_long width row values y le same longs x lt = subst FitsLong (get_or-take width row x (pos 0) lt ∙ same x lt) (longs x (pos 0) (omega (arith, lt, le, length-take-le width row le)))

-- the row of a list in row order
module _ (width y : ℕ) (items : List ℤ) (within : y * width + width ≤ length items) where
  row_long : width ≤ length (drop (y * width) items)
  row_long = (let e = length-drop (y * width) items in omega (arith, e, within))

  row_there : (x : ℕ) → x < width → get_or (drop (y * width) items) x (pos 0) ≡ value_at width items x y
  row_there x lt = get_or-drop (y * width) items x (pos 0)

  pub row_of_slice : (row : List ℤ) → row ≡ take width (drop (y * width) items) → numbers_line row ++ 10 ∷ [] ≡ grid_row (value_at width items) width y
  row_of_slice row e = ap (λ (l : List ℤ). numbers_line l ++ 10 ∷ []) e ∙ row_taken width (drop (y * width) items) (value_at width items) y row_long row_there

  pub slice_long : (row : List ℤ) → row ≡ take width (drop (y * width) items) → AreLongs row → (x : ℕ) → x < width → FitsLong (value_at width items x y)
  slice_long row e longs = taken_long width (drop (y * width) items) (value_at width items) y row_long row_there (subst AreLongs e longs)

row_same : (width : ℕ) (v w : Field ℤ) (y : ℕ) → ((x : ℕ) → x < width → v x y ≡ w x y) → grid_row v width y ≡ grid_row w width y
row_same width v w y e = ap (λ (l : List ℤ). numbers_line l ++ 10 ∷ []) (values_same width (λ x. v x y) (λ x. w x y) e)

before_push : (width y x h : ℕ) (items : List ℤ) → length items ≡ h * width → y < h → x < width → y * width + x < length items
before_push width y x h items n ly lx = let lt = mul-add-lt y width x h ly lx in omega (arith, n, lt)

-- a row is added to the values that are there
pub rows_push : (width h : ℕ) (items row : List ℤ) → length items ≡ h * width → length row ≡ width → grid_rows width (h + 1) (value_at width (items ++ row)) ≡ grid_rows width h (value_at width items) ++ (numbers_line row ++ 10 ∷ [])
unfolding grid_rows
rows_push width h items row n m =
    let all = value_at width (items ++ row) in
    let old : (y : ℕ) → y < h → grid_row all width y ≡ grid_row (value_at width items) width y =
    λ y ly. row_same width all (value_at width items) y (λ x lx. get_or_append_left items row (pos 0) (y * width + x) (before_push width y x h items n ly lx)) in
    let new : numbers_line (take width row) ++ 10 ∷ [] ≡ grid_row all width h =
    row_taken width row all h (omega (arith, m)) (λ x lx. sym (ap (λ (k : ℕ). get_or (items ++ row) (k + x) (pos 0)) (sym n) ∙ get_or-append-add items row x (pos 0))) in
    texts_more h (grid_row all width)
    ∙ ap (λ (l : List ℕ). l ++ grid_row all width h) (texts_same h (grid_row all width) (grid_row (value_at width items) width) old)
    ∙ ap (λ (l : List ℕ). grid_rows width h (value_at width items) ++ l) (sym new ∙ ap (λ (l : List ℤ). numbers_line l ++ 10 ∷ []) (take_all width row (omega (arith, m))))

pub rows_none : (width : ℕ) (values : Field ℤ) → grid_rows width 0 values ≡ []
unfolding grid_rows
rows_none width values = texts_none (grid_row values width)
