-- The cycles of a whole window depart by the corrections, and stay small.
use Rattle.std.proofs.Common.{◌≡◌, ◌∙◌, ℕ, zero, suc, ◌+◌, ◌-◌, ◌*◌, ◌<◌, ◌≤◌, subst, arith, List, Bool, true, false}
use Rattle.std.specs.Prelude.{ℤ, neg_ℤ, ◌+ℤ◌, ◌-ℤ◌, map, unsigned_abs}
use Rattle.std.proofs.lemmas.Int.{ints}
use Rattle.std.proofs.lemmas.List.{map-id}
use Rattle.raster_model.specs.declared.edge.Edge.{Edge}
use Rattle.raster_model.specs.declared.sheet.Sheet.{Sheet}
use Rattle.raster_model.specs.declared.tiling.Window.{Window}
use Rattle.raster_model.specs.Raster.{Raster, cycle_departure, turns_of}
use Rattle.raster_model.specs.Sheets.{sheet_raster}
use Rattle.raster_model.specs.Tilings.{tiled_by}
use Rattle.raster_model.specs.Sums.{Field, right_edge, down_edge}
use Rattle.raster_model.proofs.Exact.{cycles_depart}
use Rattle.raster_model.proofs.TileLeast.{residue_is}
use Rattle.wrapped_gradient.specs.declared.corrections.Corrections.{Corrections}
use Rattle.wrapped_gradient.specs.Gradients.{AreGradientsOf}
use Rattle.wrapped_gradient.specs.GradientsView.{GradientsView}
use Rattle.wrapped_gradient.specs.Corrections.{CancelResidues, correction_at, greatest_of}
use Rattle.raster_model.specs.Tiles.{height_of}
use Rattle.wrapped_gradient.specs.Windows.{IsEdgeOf}
use Rattle.wrapped_gradient.proofs.CorrectionLemmas.{correction_within}
use Rattle.surface_integration.specs.Cycles.{DepartBy, StaySmall, cycles_at}
use Rattle.surface_integration.specs.Rows.{AreIntegrated, rise_of}
use Rattle.surface_integration.proofs.Filled.{IsFilled}
use Rattle.surface_integration.proofs.RiseLemmas.{rise_bounded, turns_of_small}
use Rattle.surface_integration.proofs.RowLemmas.{bound_next}

-- a rise makes the departure
departs : (a b k t : ℤ) → b ≡ a +ℤ (k -ℤ t) → b -ℤ a +ℤ t ≡ k
departs a b k t e = omega (arith, ints, e)

-- and a departure tells the rise
rises : (a b k t : ℤ) → b -ℤ a +ℤ t ≡ k → b ≡ a +ℤ (k -ℤ t)
rises a b k t e = omega (arith, ints, e)

-- round a cell three departures tell the fourth
fourth : (top right bottom left t q b l z : ℤ) → top +ℤ right -ℤ bottom -ℤ left ≡ neg_ℤ z → z ≡ b +ℤ l -ℤ t -ℤ q → t ≡ top → b ≡ bottom → l ≡ left → q ≡ right
fourth top right bottom left t q b l z k e f g h = omega (arith, ints, k, e, f, g, h)

module _ (r : Raster) (v : Window) (k : Corrections) (zs : List ℤ) (across : v.x0 ≤ v.x1) (filled : IsFilled r v k (height_of v) zs) (cancel : CancelResidues r v k) where
  right_departs : (x y : ℕ) → v.x0 ≤ x → x < v.x1 → v.y0 ≤ y → y ≤ v.y1 → cycle_departure r (cycles_at v zs) (right_edge x y) ≡ correction_at v k (right_edge x y)
  right_departs x y a b c d = departs _ _ _ _ (filled.rights x y a b c (omega arith))

  first_departs : (y : ℕ) → v.y0 ≤ y → y < v.y1 → cycle_departure r (cycles_at v zs) (down_edge v.x0 y) ≡ correction_at v k (down_edge v.x0 y)
  first_departs y c d = departs _ _ _ _ (filled.downs y c (omega arith))

  -- column by column: the corrections round a cell cancel its residue, which is what goes round it
  down_after : (n x y : ℕ) → x ≡ v.x0 + n → x ≤ v.x1 → v.y0 ≤ y → y < v.y1 → cycle_departure r (cycles_at v zs) (down_edge x y) ≡ correction_at v k (down_edge x y)
  down_after zero x y e b c d =
      let f : v.x0 ≡ x = omega (arith, e) in
      subst (λ (u : ℕ). cycle_departure r (cycles_at v zs) (down_edge u y) ≡ correction_at v k (down_edge u y)) f (first_departs y c d)
  down_after (suc n) x y e b c d =
      let p = v.x0 + n in
      let f : v.x0 + n + 1 ≡ x = omega (arith, e) in
      let here : cycle_departure r (cycles_at v zs) (down_edge (v.x0 + n + 1) y) ≡ correction_at v k (down_edge (v.x0 + n + 1) y) =
      fourth _ _ _ _ _ _ _ _ _ (cancel (v.x0 + n) y (omega arith, omega (arith, e, b), c, d)) (residue_is r (cycles_at v zs) (v.x0 + n) y)
      (right_departs (v.x0 + n) y (omega arith) (omega (arith, e, b)) c (omega (arith, d)))
      (right_departs (v.x0 + n) (y + 1) (omega arith) (omega (arith, e, b)) (omega (arith, c)) (omega (arith, d)))
      (down_after n (v.x0 + n) y (omega arith) (omega (arith, e, b)) c d) in
      subst (λ (u : ℕ). cycle_departure r (cycles_at v zs) (down_edge u y) ≡ correction_at v k (down_edge u y)) f here

  down_departs : (x y : ℕ) → v.x0 ≤ x → x ≤ v.x1 → v.y0 ≤ y → y < v.y1 → cycle_departure r (cycles_at v zs) (down_edge x y) ≡ correction_at v k (down_edge x y)
  down_departs x y a b c d = down_after (x - v.x0) x y (omega arith) b c d

  pub they_depart : DepartBy r v (cycles_at v zs) k
  they_depart e i = cycles_depart r (cycles_at v zs) e ∙ go e.x e.y e.down i
    where
      go : (x y : ℕ) (d : Bool) → IsEdgeOf v (record { x = x; y = y; down = d }) → cycle_departure r (cycles_at v zs) (record { x = x; y = y; down = d }) ≡ correction_at v k (record { x = x; y = y; down = d })
      go x y false i = right_departs x y i.start.0 (omega (arith, i.end.1)) i.start.2 i.start.3
      go x y true i = down_departs x y i.start.0 i.start.1 i.start.2 (omega (arith, i.end.3))

pub rise_small : (s : Sheet) (v : Window) (k : Corrections) (e : Edge) → unsigned_abs (rise_of (sheet_raster s) v k e) ≤ greatest_of k + 1
rise_small s v k e =
    let p = rise_bounded (correction_at v k e) (turns_of (sheet_raster s) e) (turns_of_small s e) in
    let q = correction_within v k e in
    omega (arith, p, q)

module _ (s : Sheet) (v : Window) (k : Corrections) (zs : List ℤ) (across : v.x0 ≤ v.x1) (filled : IsFilled (sheet_raster s) v k (height_of v) zs) where
  first_small : (n y : ℕ) → y ≡ v.y0 + n → y ≤ v.y1 → unsigned_abs (cycles_at v zs v.x0 y) ≤ n * (greatest_of k + 1)
  first_small zero y e d =
      let f : y ≡ v.y0 = omega (arith, e) in
      let z = filled.begins in
      rw (f, z) (omega (arith, ints))
  first_small (suc n) y e d =
      let f : v.y0 + n + 1 ≡ y = omega (arith, e) in
      let more : unsigned_abs (cycles_at v zs v.x0 (v.y0 + n + 1)) ≤ (n + 1) * (greatest_of k + 1) =
      rw (filled.downs (v.y0 + n) (omega arith) (omega (arith, e, d))) (bound_next (cycles_at v zs v.x0 (v.y0 + n)) (rise_of (sheet_raster s) v k (down_edge v.x0 (v.y0 + n))) n (greatest_of k + 1) (first_small n (v.y0 + n) (omega arith) (omega (arith, e, d))) (rise_small s v k (down_edge v.x0 (v.y0 + n)))) in
      let g : n + 1 ≡ suc n = omega arith in
      subst (λ (u : ℕ). unsigned_abs (cycles_at v zs v.x0 u) ≤ suc n * (greatest_of k + 1)) f (subst (λ (m : ℕ). unsigned_abs (cycles_at v zs v.x0 (v.y0 + n + 1)) ≤ m * (greatest_of k + 1)) g more)

  row_small : (n x y : ℕ) → x ≡ v.x0 + n → x ≤ v.x1 → v.y0 ≤ y → y ≤ v.y1 → unsigned_abs (cycles_at v zs x y) ≤ (n + (y - v.y0)) * (greatest_of k + 1)
  row_small zero x y e b c d =
      let f : v.x0 ≡ x = omega (arith, e) in
      let g : y - v.y0 ≡ 0 + (y - v.y0) = omega arith in
      subst (λ (u : ℕ). unsigned_abs (cycles_at v zs u y) ≤ (0 + (y - v.y0)) * (greatest_of k + 1)) f
      (subst (λ (m : ℕ). unsigned_abs (cycles_at v zs v.x0 y) ≤ m * (greatest_of k + 1)) g (first_small (y - v.y0) y (omega arith) d))
  row_small (suc n) x y e b c d =
      let f : v.x0 + n + 1 ≡ x = omega (arith, e) in
      let more : unsigned_abs (cycles_at v zs (v.x0 + n + 1) y) ≤ (n + (y - v.y0) + 1) * (greatest_of k + 1) =
      rw (filled.rights (v.x0 + n) y (omega arith) (omega (arith, e, b)) c (omega (arith, d))) (bound_next (cycles_at v zs (v.x0 + n) y) (rise_of (sheet_raster s) v k (right_edge (v.x0 + n) y)) (n + (y - v.y0)) (greatest_of k + 1) (row_small n (v.x0 + n) y (omega arith) (omega (arith, e, b)) c d) (rise_small s v k (right_edge (v.x0 + n) y))) in
      let g : n + (y - v.y0) + 1 ≡ suc n + (y - v.y0) = omega arith in
      subst (λ (u : ℕ). unsigned_abs (cycles_at v zs u y) ≤ (suc n + (y - v.y0)) * (greatest_of k + 1)) f (subst (λ (m : ℕ). unsigned_abs (cycles_at v zs (v.x0 + n + 1) y) ≤ m * (greatest_of k + 1)) g more)

  pub they_stay_small : StaySmall v (cycles_at v zs) (greatest_of k)
  they_stay_small x y i = row_small (x - v.x0) x y (omega (arith, i.0)) i.1 i.2 i.3

-- numbers that are kept as they are
pub kept_plainly : (r : Raster) (v : Window) (k : Corrections) (zs : List ℤ) → AreIntegrated r v k (map (λ (z : ℤ). z) zs) → AreIntegrated r v k zs
kept_plainly r v k zs are = subst (AreIntegrated r v k) (map-id zs) are

-- what holds of a raster holds of it with other tiles
pub gradients_tiled : (r : Raster) (tile : Field ℕ) (n : ℕ) (g : GradientsView) → AreGradientsOf r g → AreGradientsOf (tiled_by r tile n) g
gradients_tiled r tile n g h = record { inside = h.inside; differences = h.differences }

-- and the other way round, for numbers that are kept as they are
pub kept_retiled : (r : Raster) (tile : Field ℕ) (n : ℕ) (whole : Raster) (v : Window) (k : Corrections) (zs : List ℤ) → whole ≡ tiled_by r tile n → AreIntegrated whole v k (map (λ (z : ℤ). z) zs) → AreIntegrated r v k zs
kept_retiled r tile n whole v k zs e are =
    let same = kept_plainly (tiled_by r tile n) v k zs (subst (λ (other : Raster). AreIntegrated other v k (map (λ (z : ℤ). z) zs)) e are) in
    record { count = same.count; first = same.first; departs = same.departs; bounded = same.bounded }
