-- How many tiles, cells and seam edges a raster has for its pixels, and how great faces and flows are that certify.
use Rattle.std.proofs.Common.{◌≡◌, ◌⊎◌, ℕ, zero, suc, ◌+◌, ◌-◌, ◌*◌, ◌/◌, ◌<◌, ◌≤◌, Bool, true, false, List, inl, inr, refl, ap, subst, arith, mul-le-mul}
use Rattle.std.specs.Prelude.{ℤ, pos, nat_lt, not, ◌&&◌, ◌==◌, slice_index_or, unsigned_abs, if◌then◌else◌}
use Rattle.std.proofs.lemmas.Bool.Decides.{nat_tests}
use Rattle.std.proofs.lemmas.Nat.{div_below}
use Rattle.raster_model.specs.declared.edge.Edge.{Edge}
use Rattle.raster_model.specs.declared.scene.Scene.{Scene}
use Rattle.raster_model.specs.declared.weights.RuleKind.{RuleKind}
use Rattle.raster_model.specs.declared.weights.RuleKind.TheVariants.{Least, Mean, Product}
use Rattle.raster_model.specs.Cells.{cell_count, cells_in_row}
use Rattle.raster_model.specs.Certificates.{is_cell}
use Rattle.raster_model.specs.Flows.{flow_at, is_seam_edge, seam_count, seam_place, seams_before, seams_from, seams_in_row}
use Rattle.raster_model.specs.Planes.{plane_sample}
use Rattle.raster_model.specs.Raster.{Raster, has_open_ends, is_seam, masked_weight}
use Rattle.raster_model.specs.Scene.{raster_of}
use Rattle.raster_model.specs.Seams.{IsSeamCertificate}
use Rattle.raster_model.specs.Sums.{Field, down_edge, end_x, end_y, is_edge, right_edge}
use Rattle.raster_model.specs.Weights.{rule_number}
use Rattle.raster_model.proofs.FlowLemmas.{before-next, before-none, before-row, place-down, place-right}
use Rattle.certificates.proofs.SeamLemmas.{limit_small}
use Rattle.sums_and_lists.specs.Sums.{count_below, one_if}
use Rattle.sums_and_lists.proofs.CountLemmas.{count_below-none}
use Rattle.sums_and_lists.proofs.Tests.{and_first, and_second, one_at_most}
use Rattle.report_text.proofs.CountSums.{count_below-add, count_below-single}

-- ---- tiles: no side is covered by more than half its pixels, rounded up
half_of : (q n side : ℕ) → q * side ≤ n + side - 1 → 1 ≤ n → 2 ≤ side → 2 * q ≤ n + 1
half_of zero n side below some le = omega arith
half_of (suc k) n side below some le =
    let less : k * 2 ≤ k * side = mul-le-mul (let same : k ≤ k = omega arith in same) le in
    omega (arith, below, less, some, le)

half : (n side : ℕ) → 1 ≤ n → 2 ≤ side → 2 * ((n + side - 1) / side) ≤ n + 1
half n side some le = half_of ((n + side - 1) / side) n side (omega (arith, le)) some le

halves : (a b n m : ℕ) → 2 * a ≤ n + 1 → 2 * b ≤ m + 1 → 1 ≤ n → 1 ≤ m → 2 * (a * b) ≤ n * m + 1
halves a b n m p q k l =
    let product : (2 * a) * (2 * b) ≤ (n + 1) * (m + 1) = mul-le-mul p q in
    let least : 1 * 1 ≤ n * m = mul-le-mul k l in
    let sides : n + m ≤ n * m + 1 = sum_small n m k l in
    omega (arith, product, sides, least)
  where
    sum_small : (n m : ℕ) → 1 ≤ n → 1 ≤ m → n + m ≤ n * m + 1
    sum_small (suc i) (suc j) k l = omega arith
    sum_small zero m k l = absurd (omega (arith, k))
    sum_small (suc i) zero k l = absurd (omega (arith, l))

pub few_tiles : (width height side : ℕ) → 1 ≤ width → 1 ≤ height → 2 ≤ side → 2 * (((height + side - 1) / side) * ((width + side - 1) / side)) ≤ height * width + 1
few_tiles width height side k l m = halves ((height + side - 1) / side) ((width + side - 1) / side) height width (half height side l m) (half width side k m) l k

-- ---- cells and seams: at a pixel a cell of one tile begins, or two seam edges at most
module _ (r : Raster) (n : ℕ) where
  abbrev cells_at : Field ℕ
  cells_at x y = count_below n (λ t. one_if (is_cell r t x y))

  other_tile : (t x y : ℕ) → (t ≡ r.tile x y → ⊥) → one_if (is_cell r t x y) ≡ 0
  other_tile t x y other = (let none : is_cell r t x y ≡ false = grind (arith, nat_tests, other) in ap one_if none)

  no_right : (a b c : Bool) (u v w z : ℕ) → (a && b && (u == u) && (v == u) && (w == u) && (z == u)) ≡ true → (c && not (u == v)) ≡ false
  no_right a b c u v w z t = grind (arith, nat_tests)

  no_down : (a b c : Bool) (u v w z : ℕ) → (a && b && (u == u) && (v == u) && (w == u) && (z == u)) ≡ true → (c && not (u == w)) ≡ false
  no_down a b c u v w z t = grind (arith, nat_tests)

  shared : (x y : ℕ) (b : Bool) → is_cell r (r.tile x y) x y ≡ b → 21 * cells_at x y + 9 * seams_from r x y ≤ 21
  shared x y true e =
      let one = count_below-single n (r.tile x y) 1 (λ t. one_if (is_cell r t x y)) (λ t other. other_tile t x y other) (one_at_most (is_cell r (r.tile x y) x y)) in
      let right : is_seam_edge r (right_edge x y) ≡ false = no_right (nat_lt (x + 1) r.width) (nat_lt (y + 1) r.height) (is_edge r.width r.height (right_edge x y)) (r.tile x y) (r.tile (x + 1) y) (r.tile x (y + 1)) (r.tile (x + 1) (y + 1)) e in
      let down : is_seam_edge r (down_edge x y) ≡ false = no_down (nat_lt (x + 1) r.width) (nat_lt (y + 1) r.height) (is_edge r.width r.height (down_edge x y)) (r.tile x y) (r.tile (x + 1) y) (r.tile x (y + 1)) (r.tile (x + 1) (y + 1)) e in
      omega (arith, one, ap one_if right, ap one_if down)
  shared x y false e =
      let none = count_below-single n (r.tile x y) 0 (λ t. one_if (is_cell r t x y)) (λ t other. other_tile t x y other) (omega (arith, ap one_if e)) in
      omega (arith, none, one_at_most (is_seam_edge r (right_edge x y)), one_at_most (is_seam_edge r (down_edge x y)))

  in_row : (x y : ℕ) → 21 * count_below n (λ t. cells_in_row r t x y) + 9 * seams_in_row r x y ≤ 21 * x
  unfolding count_below
  in_row zero y = omega (arith, none n)
    where
      none : (m : ℕ) → count_below m (λ t. 0) ≡ 0
      none zero = refl
      none (suc m) = omega (arith, none m)
  in_row (suc x) y = omega (arith, count_below-add n (λ t. cells_in_row r t x y) (λ t. one_if (is_cell r t x y)), in_row x y, shared x y (is_cell r (r.tile x y) x y) refl)

  in_rows : (y : ℕ) → 21 * count_below n (λ t. count_below y (cells_in_row r t r.width)) + 9 * count_below y (seams_in_row r r.width) ≤ 21 * (r.width * y)
  unfolding count_below
  in_rows zero = omega (arith, none n)
    where
      none : (m : ℕ) → count_below m (λ t. 0) ≡ 0
      none zero = refl
      none (suc m) = omega (arith, none m)
  in_rows (suc y) = omega (arith, count_below-add n (λ t. count_below y (cells_in_row r t r.width)) (λ t. cells_in_row r t r.width y), in_rows y, in_row r.width y)

  same_cells : (m : ℕ) → count_below m (cell_count r) ≡ count_below m (λ t. count_below r.height (cells_in_row r t r.width))
  unfolding count_below cell_count
  same_cells zero = refl
  same_cells (suc m) = omega (arith, same_cells m)

  pub few_cells_and_seams : 21 * count_below n (cell_count r) + 9 * seam_count r ≤ 21 * (r.width * r.height)
  unfolding seam_count
  few_cells_and_seams = omega (arith, same_cells n, in_rows r.height, count_below-none (λ i. seams_from r i r.height))

-- ---- weights
weight_small : (rule : RuleKind) (m a b : ℕ) → 1 ≤ m → a ≤ m → b ≤ m → rule_number rule m a b ≤ m
weight_small Least m a b some p q = omega (arith, p)
weight_small Mean m a b some p q = omega (arith, p, q)
weight_small Product m a b some p q =
    let product : a * b ≤ m * m = mul-le-mul p q in
    let below : a * b / m < m + 1 = div_below (a * b) m (m + 1) some (omega (arith, product, some)) in
    omega (arith, below)

module _ (s : Scene) (mask : Field Bool) (small : s.weights.maxval < 65536) where
  weight_at : (e : Edge) → (raster_of s).weight e ≤ 65535
  weight_at e =
      let m = s.weights.maxval in
      let first = plane_sample s.weights e.x e.y in
      let other = plane_sample s.weights (end_x e) (end_y e) in
      omega (arith, small, weight_small s.rule m first other s.weights.valued (s.weights.below (e.y * s.weights.width + e.x)) (s.weights.below (end_y e * s.weights.width + end_x e)))

  masked_at : (e : Edge) (b : Bool) → (if b then (raster_of s).weight e else 0) ≤ 65535
  masked_at e true = weight_at e
  masked_at e false = omega arith

  -- flows that certify, at each place of their list
  module _ (S : Field ℤ) (flows : List ℤ) (is : IsSeamCertificate (raster_of s) mask S (flow_at (raster_of s) flows)) where
    abbrev IsSmall : ℕ → Type 0
    IsSmall i = unsigned_abs (slice_index_or flows i (pos 0)) ≤ 1048560

    small_at : (e : Edge) → is_seam_edge (raster_of s) e ≡ true → IsSmall (seam_place (raster_of s) e)
    unfolding flow_at
    small_at e t = limit_small s.terms.steep (masked_weight (raster_of s) mask e) (unsigned_abs (slice_index_or flows (seam_place (raster_of s) e) (pos 0))) s.terms.steepness.1 (masked_at e (has_open_ends mask e))
        (is.bounded e (and_first (is_edge s.phase.width s.phase.height e) (is_seam (raster_of s) e) t) (and_second (is_edge s.phase.width s.phase.height e) (is_seam (raster_of s) e) t))

    at_right : (x y : ℕ) (b : Bool) → is_seam_edge (raster_of s) (right_edge x y) ≡ b → (i : ℕ) → seams_before (raster_of s) x y ≤ i → i < seams_before (raster_of s) x y + one_if b → IsSmall i
    at_right x y true t i l m = subst IsSmall (let e : seam_place (raster_of s) (right_edge x y) ≡ i = omega (arith, place-right (raster_of s) x y, l, m) in e) (small_at (right_edge x y) t)
    at_right x y false t i l m = absurd (omega (arith, l, m))

    at_down : (x y : ℕ) (b : Bool) → is_seam_edge (raster_of s) (down_edge x y) ≡ b → (i : ℕ) → seams_before (raster_of s) x y + one_if (is_seam_edge (raster_of s) (right_edge x y)) ≤ i → i < seams_before (raster_of s) x y + one_if (is_seam_edge (raster_of s) (right_edge x y)) + one_if b → IsSmall i
    at_down x y true t i l m = subst IsSmall (let e : seam_place (raster_of s) (down_edge x y) ≡ i = omega (arith, place-down (raster_of s) x y, l, m) in e) (small_at (down_edge x y) t)
    at_down x y false t i l m = absurd (omega (arith, l, m))

    at_pixel : (x y i : ℕ) → (i < seams_before (raster_of s) x y → IsSmall i) → i < seams_before (raster_of s) x y + seams_from (raster_of s) x y → IsSmall i
    at_pixel x y i before l = elim (split i (seams_before (raster_of s) x y)) [
      | inl m ↦ before m
      | inr m ↦ elim (split i (seams_before (raster_of s) x y + one_if (is_seam_edge (raster_of s) (right_edge x y)))) [
        | inl k ↦ at_right x y (is_seam_edge (raster_of s) (right_edge x y)) refl i m k
        | inr k ↦ at_down x y (is_seam_edge (raster_of s) (down_edge x y)) refl i k (omega (arith, l))
      ]
    ]
      where
        split : (a b : ℕ) → (a < b) ⊎ (b ≤ a)
        split a b = grind arith

    up_to_pixel : (y i : ℕ) → (i < seams_before (raster_of s) 0 y → IsSmall i) → (x : ℕ) → i < seams_before (raster_of s) x y → IsSmall i
    up_to_pixel y i before zero l = before l
    up_to_pixel y i before (suc x) l =
        let next : i < seams_before (raster_of s) (x + 1) y = subst (λ (k : ℕ). i < seams_before (raster_of s) k y) (let e : suc x ≡ x + 1 = omega arith in e) l in
        at_pixel x y i (up_to_pixel y i before x) (omega (arith, next, before-next (raster_of s) x y))

    up_to_row : (i y : ℕ) → i < seams_before (raster_of s) 0 y → IsSmall i
    up_to_row i zero l = absurd (omega (arith, l, before-none (raster_of s)))
    up_to_row i (suc y) l =
        let next : i < seams_before (raster_of s) 0 (y + 1) = subst (λ (k : ℕ). i < seams_before (raster_of s) 0 k) (let e : suc y ≡ y + 1 = omega arith in e) l in
        up_to_pixel y i (up_to_row i y) s.phase.width (omega (arith, next, before-row (raster_of s) y))

    pub flows_small : (i : ℕ) → i < seam_count (raster_of s) → unsigned_abs (slice_index_or flows i (pos 0)) ≤ 1048560
    unfolding seam_count
    flows_small i l = up_to_row i s.phase.height l
