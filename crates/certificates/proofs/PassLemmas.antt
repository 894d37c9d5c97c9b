-- A pass from seam to seam: pixels at which no seam edge starts change no count, no sum and no fact.
use Rattle.std.proofs.Common.{◌≡◌, ◌∙◌, ℕ, ◌+◌, ◌-◌, ◌*◌, ◌/◌, ◌%◌, ◌<◌, ◌≤◌, sym, ap, refl, arith, Bool, true, false, List, inl, inr}
use Rattle.std.specs.Prelude.{ℤ, pos, ◌+ℤ◌, ◌&&◌, ◌==◌, IsTrue}
use Rattle.std.proofs.lemmas.Int.{ints}
use Rattle.std.proofs.lemmas.Nat.{div-add-mod', mod_below, mod-mul-add}
use Rattle.std.proofs.lemmas.Bool.{cases_lt, ne_eqb}
use Rattle.raster_model.specs.declared.edge.Edge.{Edge}
use Rattle.raster_model.specs.declared.scene.Scene.{Scene}
use Rattle.raster_model.specs.Scene.{raster_of}
use Rattle.raster_model.specs.Sums.{Field, edges_from, is_edge, right_edge, down_edge, sum_grid, sum_row}
use Rattle.raster_model.specs.Raster.{Raster, is_seam, lifted, seam_cost_from, seam_edge_cost}
use Rattle.raster_model.specs.Flows.{is_seam_edge, seams_before, seams_from}
use Rattle.certificates.specs.Ends.{PassNoEnd, passes_end}
use Rattle.certificates.specs.declared.seam_flows.SeamFlows.{SeamFlows}
use Rattle.certificates.specs.EdgeWords.{HoldsBefore}
use Rattle.certificates.specs.FlowWords.{flow_of, held_mask, moved_from, net_flow, parts_from, held_raster, region_in, seam_part}
use Rattle.certificates.specs.SeamVerdicts.{IsSeamEdge}
use Rattle.certificates.specs.Starts.{HasNoSeams}
use Rattle.certificates.proofs.EdgeBlocks.{passes_leads}
use Rattle.certificates.proofs.FlowSums.{AreSoFar, both_terms}
use Rattle.sums_and_lists.proofs.CountLemmas.{count_below-rest}
use Rattle.sums_and_lists.proofs.SumLemmas.{sum_below-upto}
use Rattle.sums_and_lists.proofs.Tests.{true_and_false}
use Rattle.sums_and_lists.specs.Sums.{where_true}

-- ---- from a column to the last of its tile
no_multiple : (x side i : ℕ) → 0 < side → x ≤ i → i < x - x % side + (side - 1) → (i + 1) % side == 0 ≡ false
no_multiple x side i p l m =
    let q = x - x % side in
    let s = div-add-mod' x side in
    let b = mod_below x side p in
    let r = i + 1 - q in
    let e : i + 1 ≡ (x / side) * side + r = omega (arith, s, l) in
    let t : (i + 1) % side ≡ r = ap (λ (n : ℕ). n % side) e ∙ mod-mul-add (x / side) side r (omega (arith, s, m)) in
    ne_eqb ((i + 1) % side) 0 (λ z. omega (arith, s, b, l, t, z))

-- in a row that is not the last of its tiles no edge before that column leads beyond an end
pub no_end : (x y side : ℕ) → 0 < side → (y + 1) % side == 0 ≡ false → PassNoEnd side x (x - x % side + (side - 1)) y
no_end x y side p row e ey l m = go e.down
  where
    go : (d : Bool) → passes_end side (record { x = e.x; y = e.y; down = d }) ≡ false
    go true = rw ey row
    go false = no_multiple x side e.x p l m

-- so no seam edge starts there
pub no_seams : (s : Scene) (a b y : ℕ) → PassNoEnd s.tiling.side a b y → HasNoSeams (raster_of s) a b y
no_seams s a b y none e ey l m = go (is_edge s.phase.width s.phase.height e) (is_seam (raster_of s) e) (λ i. sym (passes_leads s e i) ∙ none e ey l m)
  where
    go : (i t : Bool) → (IsTrue i → t ≡ false) → (i && t) ≡ false
    go true t h = h refl
    go false t h = refl

-- ---- what a pass has when it goes on from column a to column b
module _ (r : Raster) (a b y : ℕ) (none : HasNoSeams r a b y) (l : a ≤ b) where
  pub before_past : seams_before r b y ≡ seams_before r a y
  before_past =
      let e : b ≡ a + (b - a) = omega arith in
      rw e (omega (arith, count_below-rest a (b - a) (λ i. seams_from r i y) (λ i m n. starts_none i m (omega (arith, n, l)))))
    where
      starts_none : (i : ℕ) → a ≤ i → i < b → seams_from r i y ≡ 0
      starts_none i m n = rw (none (right_edge i y) refl m n, none (down_edge i y) refl m n) refl

  pub holds_past : (Fact : Edge → Type 0) → HoldsBefore (IsSeamEdge r) Fact a y → HoldsBefore (IsSeamEdge r) Fact b y
  holds_past Fact before e i (inl m) = before e i (inl m)
  holds_past Fact before e i (inr m) = elim (cases_lt e.x a) [ inl n ↦ before e i (inr (m.0, n)) | inr n ↦ absurd (true_and_false (is_seam_edge r e) i (none e m.0 n m.1)) ]

  pub row_past : (F : Edge → ℤ) → ((e : Edge) → is_seam r e ≡ false → F e ≡ pos 0) → b ≤ r.width → y < r.height → sum_row b (edges_from r.width r.height F) y ≡ sum_row a (edges_from r.width r.height F) y
  row_past F zero m n = sum_below-upto a b (λ x. edges_from r.width r.height F x y) l (λ i p q. adds_none i p q)
    where
      no_term : (e : Edge) → is_seam_edge r e ≡ false → where_true (is_edge r.width r.height e) (F e) ≡ pos 0
      no_term e t = go (is_edge r.width r.height e) (is_seam r e) t (zero e)
        where
          go : (i s : Bool) → (i && s) ≡ false → (s ≡ false → F e ≡ pos 0) → where_true i (F e) ≡ pos 0
          go true s t z = z t
          go false s t z = refl

      adds_none : (i : ℕ) → a ≤ i → i < b → edges_from r.width r.height F i y ≡ pos 0
      adds_none i p q =
          let right = no_term (right_edge i y) (none (right_edge i y) refl p q) in
          let down = no_term (down_edge i y) (none (down_edge i y) refl p q) in
          omega (arith, ints, right, down, both_terms r.width r.height i y F (omega (arith, q, m)) n)

-- the cost of a row
pub cost_past : (r : Raster) (mask : Field Bool) (S : Field ℤ) (a b y : ℕ) (z : ℤ) → HasNoSeams r a b y → a ≤ b → b ≤ r.width → y < r.height → z ≡ sum_row a (seam_cost_from r mask S) y → z ≡ sum_row b (seam_cost_from r mask S) y
unfolding seam_cost_from
cost_past r mask S a b y z none l m n e = e ∙ sym (row_past r a b y none l (seam_edge_cost r mask S) (λ e s. rw s refl) m n)

-- the sum of products, and the sums at the regions
module _ (k : SeamFlows) (a b y : ℕ) (none : HasNoSeams (held_raster k) a b y) (l : a ≤ b) (m : b ≤ k.scene.now.phase.width) (n : y < k.scene.now.phase.height) where
  product_row : (cycles : Field ℤ) → sum_row b (parts_from k cycles) y ≡ sum_row a (parts_from k cycles) y
  unfolding seam_part
  product_row cycles = row_past (held_raster k) a b y none l (seam_part (held_raster k) (held_mask k) (lifted (held_raster k) cycles) (flow_of k)) (λ e s. rw s refl) m n

  pub part_past : (cycles : Field ℤ) (z R : ℤ) → z ≡ R +ℤ sum_row a (parts_from k cycles) y → z ≡ R +ℤ sum_row b (parts_from k cycles) y
  part_past cycles z R e = e ∙ sym (ap (λ (s : ℤ). R +ℤ s) (product_row cycles))

  moved_row : (labels : List ℕ) (v : ℕ) → sum_row b (moved_from k labels v) y ≡ sum_row a (moved_from k labels v) y
  unfolding net_flow
  moved_row labels v = row_past (held_raster k) a b y none l (net_flow (held_raster k) (flow_of k) (region_in k labels v)) (λ e s. rw s refl) m n

  pub so_far_past : (labels : List ℕ) (sums : List ℤ) → AreSoFar k labels a y sums → AreSoFar k labels b y sums
  so_far_past labels sums s = record { each = λ v i. s.each v i ∙ sym (ap (λ (t : ℤ). sum_grid k.scene.now.phase.width y (moved_from k labels v) +ℤ t) (moved_row labels v)) }
