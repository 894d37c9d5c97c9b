-- Places in lists in row order.
use Rattle.std.proofs.Common.{◌≡◌, ℕ, ◌+◌, ◌-◌, ◌*◌, ◌/◌, ◌%◌, ◌<◌, ◌∙◌, ap, arith, List}
use Rattle.std.specs.Prelude.{ℤ, pos, slice_index_or}
use Rattle.std.proofs.lemmas.Nat.{div-mul-add, mod-mul-add}
use Rattle.raster_model.specs.declared.tiling.Window.{Window}
use Rattle.raster_model.specs.Sums.{Field, right_edge}
use Rattle.wrapped_gradient.specs.Windows.{edge_value}

-- the place of column b in row a lies among h rows of s columns
pub place_within : (s h a b : ℕ) → a < h → b < s → a * s + b < s * h
place_within s h a b l m = grind arith

pub place_under : (s h a b n : ℕ) → n ≡ s * h → a < h → b < s → a * s + b < n
place_under s h a b n e l m = let p = place_within s h a b l m in omega (arith, e, p)

-- a place tells its column and its row
pub field_at : (f : Field ℤ) (s x0 y0 a b : ℕ) → b < s → f (x0 + (a * s + b) % s) (y0 + (a * s + b) / s) ≡ f (x0 + b) (y0 + a)
field_at f s x0 y0 a b l = ap (λ (k : ℕ). f (x0 + k) (y0 + (a * s + b) / s)) (mod-mul-add a s b l) ∙ ap (λ (k : ℕ). f (x0 + b) (y0 + k)) (div-mul-add a s b l)

-- where the numbers of a right edge and of a down edge stand
pub right_number : (v : Window) (right down : List ℤ) (x y : ℕ) → edge_value v right down (right_edge x y) ≡ slice_index_or right ((y - v.y0) * (v.x1 - v.x0) + (x - v.x0)) (pos 0)
right_number v right down x y =
    let e : v.x1 - v.x0 + 1 - 1 ≡ v.x1 - v.x0 = omega arith in
    ap (λ (s : ℕ). slice_index_or right ((y - v.y0) * s + (x - v.x0)) (pos 0)) e
