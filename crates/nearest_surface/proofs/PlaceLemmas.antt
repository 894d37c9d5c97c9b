-- Places of a list in row order, and the pixels that they stand for.
use Rattle.std.proofs.Common.{◌≡◌, ℕ, zero, suc, ◌+◌, ◌*◌, ◌/◌, ◌%◌, ◌<◌, ◌≤◌, ℤ, pos, List, set, arith, sym, ap, subst, ◌∙◌, inl, inr}
use Rattle.std.specs.Prelude.{IsTrue, length, slice_index_or}
use Rattle.std.proofs.lemmas.List.{get_or-set_other, get_or-set_same}
use Rattle.std.proofs.lemmas.Nat.{div-add-mod', div-mul-add, div_below, mod-mul-add, mod_below, mul-add-lt}
use Rattle.sums_and_lists.proofs.Orders.{below_or_last}
use Rattle.raster_model.proofs.RegionNumbers.{earlier_place}
use Rattle.grid_writer.specs.Grids.{value_at}
use Rattle.nearest_surface.specs.Nearest.{IsFirstOf, IsMissing, IsNearestSurface, IsTooWide, IsWide, MaskedPhase, Stands}
use Rattle.nearest_surface.proofs.ValueLemmas.{not_wide}

some_width : (w h k : ℕ) → k < w * h → 0 < w
some_width zero h k l = absurd (omega (arith, l))
some_width (suc w) h k l = omega arith

column_below : (w h k : ℕ) → k < w * h → k % w < w
column_below w h k l = mod_below k w (some_width w h k l)

row_below : (w h k : ℕ) → k < w * h → k / w < h
row_below w h k l = div_below k w h (some_width w h k l) (omega (arith, l))

-- the value at the pixel of a place
pub value_there : (w k : ℕ) (zs : List ℤ) → value_at w zs (k % w) (k / w) ≡ slice_index_or zs k (pos 0)
value_there w k zs = ap (λ (n : ℕ). slice_index_or zs n (pos 0)) (div-add-mod' k w)

-- P holds at none of the first n places
abbrev pub AtNone : ℕ → (ℕ → ℕ → Type 0) → ℕ → Type 0
AtNone w P n = (k : ℕ) → k < n → P (k % w) (k / w) → ⊥

module _ (w h : ℕ) (P : ℕ → ℕ → Type 0) where
  at_place : (x y : ℕ) → x < w → P x y → P ((y * w + x) % w) ((y * w + x) / w)
  at_place x y l p = subst (λ (i : ℕ). P i ((y * w + x) / w)) (sym (mod-mul-add y w x l)) (subst (λ (j : ℕ). P x j) (sym (div-mul-add y w x l)) p)

  pub first_place : (k : ℕ) → k < w * h → AtNone w P k → P (k % w) (k / w) → IsFirstOf w h P (k % w) (k / w)
  first_place k l none here = record {
    across = column_below w h k l;
    along = row_below w h k l;
    here = here;
    first = λ a b la e p.
        let before = earlier_place w a b (k % w) (k / w) la e in
        let whole = div-add-mod' k w in
        none (b * w + a) (omega (arith, before, whole)) (at_place a b la p);
  }

  pub at_no_pixel : AtNone w P (w * h) → (x y : ℕ) → x < w → y < h → P x y → ⊥
  at_no_pixel none x y l m p = none (y * w + x) (mul-add-lt y w x h m l) (at_place x y l p)

-- ---- values that are brought to the phase, place by place

-- what stands at a place
abbrev pub StandsAt : MaskedPhase → List ℤ → List ℤ → ℕ → Type 0
StandsAt p given values k = Stands (p.mask (k % p.width) (k / p.width)) (p.phase (k % p.width) (k / p.width)) (slice_index_or given k (pos 0)) (slice_index_or values k (pos 0))

-- the first n values are brought, and the others are the given ones
pub record AreBrought (p : MaskedPhase) (given : List ℤ) (n : ℕ) (values : List ℤ) : Type 0 where
  pub stand : (k : ℕ) → k < n → StandsAt p given values k
  pub rest : (k : ℕ) → n ≤ k → slice_index_or values k (pos 0) ≡ slice_index_or given k (pos 0)

pub brought_more : (p : MaskedPhase) (given values : List ℤ) (n : ℕ) (value : ℤ) → n < length values → AreBrought p given n values → Stands (p.mask (n % p.width) (n / p.width)) (p.phase (n % p.width) (n / p.width)) (slice_index_or values n (pos 0)) value → AreBrought p given (n + 1) (set values n value)
brought_more p given values n value there are s = record {
  stand = λ k l. elim (below_or_last k n l) [
    | inl below ↦ subst (Stands (p.mask (k % p.width) (k / p.width)) (p.phase (k % p.width) (k / p.width)) (slice_index_or given k (pos 0))) (sym (get_or-set_other values n k value (pos 0) (λ e. omega (arith, e, below)))) (are.stand k below)
    | inr last ↦ subst (StandsAt p given (set values n value)) (sym last)
        (subst (Stands (p.mask (n % p.width) (n / p.width)) (p.phase (n % p.width) (n / p.width)) (slice_index_or given n (pos 0))) (sym (get_or-set_same values n value (pos 0) there))
        (subst (λ (z : ℤ). Stands (p.mask (n % p.width) (n / p.width)) (p.phase (n % p.width) (n / p.width)) z value) (are.rest n (omega arith)) s))
  ];
  rest = λ k l. get_or-set_other values n k value (pos 0) (λ e. omega (arith, e, l)) ∙ are.rest k (omega (arith, l));
}

-- what is brought is not too wide; and the next is the first that is
module _ (p : MaskedPhase) (given values : List ℤ) (n : ℕ) (are : AreBrought p given n values) where
  pub none_wide : AtNone p.width (IsWide p (value_at p.width given)) n
  none_wide k l wide =
      not_wide (p.mask (k % p.width) (k / p.width)) (p.phase (k % p.width) (k / p.width)) (slice_index_or given k (pos 0)) (slice_index_or values k (pos 0)) (are.stand k l) wide.0
      (subst (IsTooWide (p.phase (k % p.width) (k / p.width))) (value_there p.width k given) wide.1)

  pub wide_here : IsTrue (p.mask (n % p.width) (n / p.width)) × IsTooWide (p.phase (n % p.width) (n / p.width)) (slice_index_or values n (pos 0)) → IsWide p (value_at p.width given) (n % p.width) (n / p.width)
  wide_here wide = (wide.0, subst (IsTooWide (p.phase (n % p.width) (n / p.width))) (are.rest n (omega arith) ∙ sym (value_there p.width n given)) wide.1)

-- all values are brought, by pixels
pub all_stand : (p : MaskedPhase) (given values : List ℤ) → AreBrought p given (p.width * p.height) values → (x y : ℕ) → x < p.width → y < p.height → Stands (p.mask x y) (p.phase x y) (value_at p.width given x y) (value_at p.width values x y)
all_stand p given values are x y l m =
    subst (λ (i : ℕ). Stands (p.mask i y) (p.phase i y) (value_at p.width given x y) (value_at p.width values x y)) (mod-mul-add y p.width x l)
    (subst (λ (j : ℕ). Stands (p.mask ((y * p.width + x) % p.width) j) (p.phase ((y * p.width + x) % p.width) j) (value_at p.width given x y) (value_at p.width values x y)) (div-mul-add y p.width x l)
    (are.stand (y * p.width + x) (mul-add-lt y p.width x p.height m l)))

-- ---- grids of the size of the phase

module _ (p : MaskedPhase) (w h : ℕ) (across : w ≡ p.width) (along : h ≡ p.height) where
  -- what holds at no pixel of the grid holds at none of the phase
  on_phase : (P : ℕ → ℕ → Type 0) → ((x y : ℕ) → x < w → y < h → P x y → ⊥) → (x y : ℕ) → x < p.width → y < p.height → P x y → ⊥
  on_phase P none x y l m q = none x y (omega (arith, l, across)) (omega (arith, m, along)) q

  pub surface_is : (given values : List ℤ) → ((x y : ℕ) → x < w → y < h → IsMissing p.mask (value_at w given) x y → ⊥) → ((x y : ℕ) → x < p.width → y < p.height → Stands (p.mask x y) (p.phase x y) (value_at p.width given x y) (value_at p.width values x y))
      → IsNearestSurface p (record { width = w; height = h; values = value_at w given }) (record { width = w; height = h; values = value_at w values })
  surface_is given values none stand = record {
    given_size = (across, along);
    size = (across, along);
    complete = on_phase (IsMissing p.mask (value_at w given)) none;
    values = subst (λ (k : ℕ). (x y : ℕ) → x < p.width → y < p.height → Stands (p.mask x y) (p.phase x y) (value_at k given x y) (value_at k values x y)) (sym across) stand;
  }
