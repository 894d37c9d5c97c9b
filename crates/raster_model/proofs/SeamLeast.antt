-- Certified seams cost no more under any offsets of the regions.
use Rattle.std.proofs.Common.{◌≡◌, ℕ, ◌+◌, ◌*◌, ◌<◌, ◌≤◌, sym, ◌∙◌, ap, refl, arith, Bool, true, false}
use Rattle.std.specs.Prelude.{ℤ, pos, ◌+ℤ◌, ◌-ℤ◌, ◌*ℤ◌, ◌≤ℤ◌, IsTrue, nat_lt, ◌==◌, ◌&&◌, int_div, unsigned_abs, if◌then◌else◌}
use Rattle.std.proofs.lemmas.Int.{ints}
use Rattle.std.proofs.lemmas.Bool.Decides.{nat_tests}
use Rattle.raster_model.specs.declared.edge.Edge.{Edge}
use Rattle.raster_model.specs.Sums.{Field, at_edge_start, at_edge_end, is_edge, sum_edges, right_edge, down_edge}
use Rattle.raster_model.specs.Phase.{wrapped_by, turns_by}
use Rattle.raster_model.specs.Raster.{Raster, IsCongruent, departure, has_open_ends, is_seam, over, steps, edge_cost, seam_cost}
use Rattle.raster_model.specs.Seams.{AreJoined, IsOpenPixel, AreOffsets, IsRegion, shifted, flow_in, flow_out, flow_over, flow_over_total, flow_total, IsSeamCertificate, IsLabelling, IsLeastAtSeams}
use Rattle.raster_model.specs.Seams.AreJoined.{here, rightward, leftward, downward, upward}
use Rattle.raster_model.proofs.Regions.{labelling, sure_le}
use Rattle.raster_model.specs.Best.{CertifiedIsBest}
use Rattle.raster_model.specs.Cells.{face_at}
use Rattle.raster_model.specs.Flows.{flow_at}
use Rattle.raster_model.proofs.PhaseLemmas.{div_exact, turns_exact}
use Rattle.raster_model.proofs.Steps.{product_at_most_steps}
use Rattle.raster_model.proofs.SumLemmas.{sum_edges-same, sum_edges-le, sum_edges-add, sum_edges-below, sum_edges-scale, on_each_edge, right_is_edge, down_is_edge}
use Rattle.raster_model.proofs.TileLeast.{least_in_tile, cycles_of, cycles_exact}
use Rattle.sums_and_lists.specs.Sums.{sum_below, where_true}
use Rattle.sums_and_lists.proofs.Products.{products, mul_comm}
use Rattle.sums_and_lists.proofs.SumLemmas.{sum_below-same, sum_below-zeros, sum_below-pick, no_number, where_true-scale, where_true-zero}
use Rattle.sums_and_lists.proofs.Orders.{is_lt}
use Rattle.sums_and_lists.proofs.Tests.{and_first, and_second}

-- an offset is one number on each region
pub offset_along : (r : Raster) (mask : Field Bool) (o : Field ℤ) → AreOffsets r mask o → {x y a b : ℕ} → AreJoined r mask x y a b → o x y ≡ o a b
offset_along r mask o h here = refl
offset_along r mask o h (rightward {a} {b} j i) = offset_along r mask o h j ∙ h (right_edge a b) i
offset_along r mask o h (leftward {a} {b} j i) = offset_along r mask o h j ∙ sym (h (right_edge a b) i)
offset_along r mask o h (downward {a} {b} j i) = offset_along r mask o h j ∙ h (down_edge a b) i
offset_along r mask o h (upward {a} {b} j i) = offset_along r mask o h j ∙ sym (h (down_edge a b) i)

-- the number that an offset has on the region v
number_if : (r : Raster) (mask : Field Bool) (labels : Field ℕ) (count : ℕ) → IsLabelling r mask labels count → Field ℤ → (v : ℕ) (t : Bool) → nat_lt v count ≡ t → ℤ
number_if r mask labels count lab o v true e = let u = lab.used v (is_lt v count e) in o u.0 u.1
number_if r mask labels count lab o v false e = pos 0

number_is : (r : Raster) (mask : Field Bool) (labels : Field ℕ) (count : ℕ) (lab : IsLabelling r mask labels count) (o : Field ℤ) → AreOffsets r mask o → (a b : ℕ) → IsOpenPixel r mask a b → (t : Bool) (e : nat_lt (labels a b) count ≡ t) → number_if r mask labels count lab o (labels a b) t e ≡ o a b
unfolding number_if
number_is r mask labels count lab o off a b p true e =
    let u = lab.used (labels a b) (is_lt (labels a b) count e) in
    offset_along r mask o off ((lab.same u.0 u.1 a b u.2 p).0 u.3)
number_is r mask labels count lab o off a b p false e =
    absurd (not_below (labels a b) count (lab.below a b p) e)
  where
    not_below : (m n : ℕ) → m < n → nat_lt m n ≡ false → ⊥
    not_below m n l e = grind (arith, nat_tests)

first_off : (a b : Bool) → a ≡ false → (a && b) ≡ false
first_off a b h = rw h

second_off : (a b : Bool) → b ≡ false → (a && b) ≡ false
second_off true b h = h
second_off false b h = refl

finish : (a b c n x y p q m : ℤ) → p ≤ℤ q → p ≡ a +ℤ x → q ≡ m +ℤ y → m ≡ b +ℤ n → x ≡ y → a -ℤ n ≡ c → c ≤ℤ b
finish a b c n x y p q m h i j k l e = omega (arith, ints)

-- offsets add their difference to a departure
departure_moved : (slope : ℤ) (p q : ℕ) (sp sq cp cq op oq : ℤ) → sp ≡ pos p +ℤ pos 65536 *ℤ cp → sq ≡ pos q +ℤ pos 65536 *ℤ cq → int_div ((sq +ℤ pos 65536 *ℤ oq) -ℤ (sp +ℤ pos 65536 *ℤ op) -ℤ wrapped_by slope p q) (pos 65536) ≡ int_div (sq -ℤ sp -ℤ wrapped_by slope p q) (pos 65536) +ℤ oq -ℤ op
departure_moved slope p q sp sq cp cq op oq hp hq =
    let t = turns_exact slope p q in
    let d : sq -ℤ sp -ℤ wrapped_by slope p q ≡ pos 65536 *ℤ (cq -ℤ cp +ℤ turns_by slope p q) = omega (arith, ints, hp, hq, t) in
    let m : (sq +ℤ pos 65536 *ℤ oq) -ℤ (sp +ℤ pos 65536 *ℤ op) -ℤ wrapped_by slope p q ≡ pos 65536 *ℤ ((cq -ℤ cp +ℤ turns_by slope p q) +ℤ oq -ℤ op) = omega (arith, ints, d) in
    rw (d, m, div_exact (cq -ℤ cp +ℤ turns_by slope p q), div_exact ((cq -ℤ cp +ℤ turns_by slope p q) +ℤ oq -ℤ op)) refl

-- one edge: its flow times its departure, and what the offsets add, at most its cost when shifted and that by which the flow is above the weight
edge_step : (s k : Bool) (f d e u v : ℤ) (w q : ℕ) → (s ≡ true → unsigned_abs f ≤ q * (if k then w else 0)) → (k ≡ true → e ≡ d +ℤ v -ℤ u)
    → (where_true (s && k) (f *ℤ d) +ℤ where_true s (f *ℤ v)) ≤ℤ ((where_true s (where_true k (pos ((if k then w else 0) * steps q e))) +ℤ where_true s (pos (over (if k then w else 0) f))) +ℤ where_true s (f *ℤ u))
edge_step true true f d e u v w q h g =
    let p : (e *ℤ f) ≤ℤ (pos (w * steps q e) +ℤ pos (over w f)) = product_at_most_steps e f w q (h refl) in
    let m : e *ℤ f ≡ f *ℤ d +ℤ f *ℤ v -ℤ f *ℤ u = rw (g refl) (simp products (omega (arith, ints))) in
    omega (arith, ints, p, m)
edge_step true false f d e u v w q h g =
    let z : f ≡ pos 0 = omega (arith, ints, h refl) in
    rw z (omega (arith, ints))
edge_step false k f d e u v w q h g = omega (arith, ints)

term_open : (s p q k e : Bool) (n f : ℤ) → s ≡ true → p ≡ true → q ≡ true → k ≡ true → n *ℤ where_true (s && (p && q && k && e)) f ≡ where_true e (n *ℤ f)
term_open s p q k e n f h₀ h₁ h₂ h₃ = rw (h₀, h₁, h₂, h₃) (sym (where_true-scale e n f))

term_off : (s t : Bool) (n f : ℤ) → s ≡ false → n *ℤ where_true (s && t) f ≡ pos 0
term_off s t n f h = rw h (omega (arith, ints))

term_zero : (t : Bool) (n f : ℤ) → f ≡ pos 0 → n *ℤ where_true t f ≡ pos 0
term_zero t n f h = rw (h, where_true-zero t) (omega (arith, ints))

region_tells : (a b w h l v : ℕ) (k : Bool) → IsTrue (nat_lt a w && nat_lt b h && k && (l == v)) → (a < w) × (b < h) × IsTrue k × (l ≡ v)
region_tells a b w h l v k t = (grind (arith, nat_tests), grind (arith, nat_tests), grind (arith, nat_tests), grind (arith, nat_tests))

region_from : (a b w h l v : ℕ) (k : Bool) → a < w → b < h → IsTrue k → l ≡ v → IsTrue (nat_lt a w && nat_lt b h && k && (l == v))
region_from a b w h l v k p q t e = grind (arith, nat_tests)

lt_is : (a b : ℕ) → a < b → nat_lt a b ≡ true
lt_is a b l = grind (arith, nat_tests)

module _ (r : Raster) (mask : Field Bool) (labels : Field ℕ) (count : ℕ) (lab : IsLabelling r mask labels count) (o : Field ℤ) (off : AreOffsets r mask o) where
  number : ℕ → ℤ
  number v = number_if r mask labels count lab o v (nat_lt v count) refl

  number_at : (a b : ℕ) → IsOpenPixel r mask a b → number (labels a b) ≡ o a b
  unfolding number
  number_at a b p = number_is r mask labels count lab o off a b p (nat_lt (labels a b) count) refl

  -- the test of the region v
  abbrev region : ℕ → Field Bool
  region v a b = nat_lt a r.width && nat_lt b r.height && mask a b && (labels a b == v)

  -- a flow's number, taken apart by the region of one of its ends
  taken : (a b : ℕ) (seam : Bool) (f : ℤ) → a < r.width → b < r.height → (seam ≡ true → mask a b ≡ false → f ≡ pos 0)
      → sum_below count (λ v. number v *ℤ where_true (seam && region v a b) f) ≡ where_true seam (f *ℤ o a b)
  taken a b seam f l m z = go seam (mask a b) refl refl
    where
      go : (s k : Bool) → seam ≡ s → mask a b ≡ k → sum_below count (λ v. number v *ℤ where_true (seam && region v a b) f) ≡ where_true seam (f *ℤ o a b)
      go false k hs hk =
          sum_below-zeros count (λ v. number v *ℤ where_true (seam && region v a b) f) (λ v n. term_off seam (region v a b) (number v) f hs) ∙ sym (no_number seam (f *ℤ o a b) hs)
      go true false hs hk =
          let e : f *ℤ o a b ≡ pos 0 = rw (z hs hk) (omega (arith, ints)) in
          sum_below-zeros count (λ v. number v *ℤ where_true (seam && region v a b) f) (λ v n. term_zero (seam && region v a b) (number v) f (z hs hk)) ∙ sym (rw e (where_true-zero seam))
      go true true hs hk =
          sum_below-same count (λ v. number v *ℤ where_true (seam && region v a b) f) (λ v. where_true (labels a b == v) (number v *ℤ f)) (λ v n. term_open seam (nat_lt a r.width) (nat_lt b r.height) (mask a b) (labels a b == v) (number v) f hs (lt_is a r.width l) (lt_is b r.height m) hk)
          ∙ sum_below-pick count (labels a b) (λ v. number v *ℤ f) (lab.below a b (l, m, hk))
          ∙ ap (λ (n : ℤ). n *ℤ f) (number_at a b (l, m, hk))
          ∙ mul_comm (o a b) f
          ∙ sym (rw hs)

  region_is : (v : ℕ) → v < count → IsRegion r mask (region v)
  region_is v n =
      let u = lab.used v n in
      record {
        x = u.0;
        y = u.1;
        inside = u.2;
        joined = λ a b l m. (
          λ h. (
              let t = region_tells a b r.width r.height (labels a b) v (mask a b) h in
              (t.2, (lab.same u.0 u.1 a b u.2 (l, m, t.2)).0 (u.3 ∙ sym t.3))),
          λ h. (
              let j = (lab.same u.0 u.1 a b u.2 (l, m, h.0)).1 h.1 in
              region_from a b r.width r.height (labels a b) v (mask a b) l m h.0 (sym j ∙ u.3)),
        );
      }

  module _ (S : Field ℤ) (good : IsCongruent r mask S) (F : Edge → ℤ) (cert : IsSeamCertificate r mask S F) where
    -- a flow under a masked end is 0
    none_masked : (e : Edge) → IsTrue (is_edge r.width r.height e) → is_seam r e ≡ true → has_open_ends mask e ≡ false → F e ≡ pos 0
    none_masked e i s k = zero_by (F e) (has_open_ends mask e) (r.weight e) r.steep k (cert.bounded e i s)
      where
        zero_by : (f : ℤ) (t : Bool) (w q : ℕ) → t ≡ false → unsigned_abs f ≤ q * (if t then w else 0) → f ≡ pos 0
        zero_by f true w q h l = cc
        zero_by f false w q h l = omega (arith, ints)

    ends : sum_edges r.width r.height (λ e. where_true (is_seam r e) (F e *ℤ at_edge_end o e)) ≡ sum_below count (λ v. number v *ℤ flow_in r F (region v))
    ends =
        sum_edges-same r.width r.height (λ e. where_true (is_seam r e) (F e *ℤ at_edge_end o e)) (λ e. sum_below count (λ v. number v *ℤ where_true (is_seam r e && at_edge_end (region v) e) (F e)))
        (on_each_edge r.width r.height (λ e. where_true (is_seam r e) (F e *ℤ at_edge_end o e) ≡ sum_below count (λ v. number v *ℤ where_true (is_seam r e && at_edge_end (region v) e) (F e)))
        (λ x y l m n. sym (taken (x + 1) y (is_seam r (right_edge x y)) (F (right_edge x y)) n m (λ s k. none_masked (right_edge x y) (right_is_edge r.width r.height x y l m n) s (second_off (mask x y) (mask (x + 1) y) k))))
        (λ x y l m n. sym (taken x (y + 1) (is_seam r (down_edge x y)) (F (down_edge x y)) l n (λ s k. none_masked (down_edge x y) (down_is_edge r.width r.height x y l m n) s (second_off (mask x y) (mask x (y + 1)) k)))))
        ∙ sum_edges-below r.width r.height count (λ v e. number v *ℤ where_true (is_seam r e && at_edge_end (region v) e) (F e))
        ∙ sum_below-same count (λ v. sum_edges r.width r.height (λ e. number v *ℤ where_true (is_seam r e && at_edge_end (region v) e) (F e))) (λ v. number v *ℤ flow_in r F (region v)) (λ v n. sum_edges-scale r.width r.height (number v) (λ e. where_true (is_seam r e && at_edge_end (region v) e) (F e)))

    starts : sum_edges r.width r.height (λ e. where_true (is_seam r e) (F e *ℤ at_edge_start o e)) ≡ sum_below count (λ v. number v *ℤ flow_out r F (region v))
    starts =
        sum_edges-same r.width r.height (λ e. where_true (is_seam r e) (F e *ℤ at_edge_start o e)) (λ e. sum_below count (λ v. number v *ℤ where_true (is_seam r e && at_edge_start (region v) e) (F e)))
        (on_each_edge r.width r.height (λ e. where_true (is_seam r e) (F e *ℤ at_edge_start o e) ≡ sum_below count (λ v. number v *ℤ where_true (is_seam r e && at_edge_start (region v) e) (F e)))
        (λ x y l m n. sym (taken x y (is_seam r (right_edge x y)) (F (right_edge x y)) l m (λ s k. none_masked (right_edge x y) (right_is_edge r.width r.height x y l m n) s (first_off (mask x y) (mask (x + 1) y) k))))
        (λ x y l m n. sym (taken x y (is_seam r (down_edge x y)) (F (down_edge x y)) l m (λ s k. none_masked (down_edge x y) (down_is_edge r.width r.height x y l m n) s (first_off (mask x y) (mask x (y + 1)) k)))))
        ∙ sum_edges-below r.width r.height count (λ v e. number v *ℤ where_true (is_seam r e && at_edge_start (region v) e) (F e))
        ∙ sum_below-same count (λ v. sum_edges r.width r.height (λ e. number v *ℤ where_true (is_seam r e && at_edge_start (region v) e) (F e))) (λ v. number v *ℤ flow_out r F (region v)) (λ v n. sum_edges-scale r.width r.height (number v) (λ e. where_true (is_seam r e && at_edge_start (region v) e) (F e)))

    -- the offsets add as much at the ends as at the starts
    level : sum_edges r.width r.height (λ e. where_true (is_seam r e) (F e *ℤ at_edge_end o e)) ≡ sum_edges r.width r.height (λ e. where_true (is_seam r e) (F e *ℤ at_edge_start o e))
    level =
        ends
        ∙ sum_below-same count (λ v. number v *ℤ flow_in r F (region v)) (λ v. number v *ℤ flow_out r F (region v)) (λ v n. ap (λ (z : ℤ). number v *ℤ z) (cert.balanced (region v) (region_is v n)))
        ∙ sym starts

    at_edge : Edge → Type 0
    at_edge e = (where_true (is_seam r e && has_open_ends mask e) (F e *ℤ departure r S e) +ℤ where_true (is_seam r e) (F e *ℤ at_edge_end o e)) ≤ℤ ((where_true (is_seam r e) (edge_cost r mask (shifted S o) e) +ℤ flow_over r mask F e) +ℤ where_true (is_seam r e) (F e *ℤ at_edge_start o e))

    step_right : (x y : ℕ) → x < r.width → y < r.height → x + 1 < r.width → at_edge (right_edge x y)
    unfolding at_edge
    step_right x y l m n =
        edge_step (is_seam r (right_edge x y)) (has_open_ends mask (right_edge x y)) (F (right_edge x y)) (departure r S (right_edge x y)) (departure r (shifted S o) (right_edge x y)) (o x y) (o (x + 1) y) (r.weight (right_edge x y)) r.steep
        (cert.bounded (right_edge x y) (right_is_edge r.width r.height x y l m n))
        (λ k. departure_moved (r.slope false) (r.phase x y) (r.phase (x + 1) y) (S x y) (S (x + 1) y) (cycles_of r S x y) (cycles_of r S (x + 1) y) (o x y) (o (x + 1) y) (cycles_exact r mask S good x y l m (and_first (mask x y) (mask (x + 1) y) k)) (cycles_exact r mask S good (x + 1) y n m (and_second (mask x y) (mask (x + 1) y) k)))

    step_down : (x y : ℕ) → x < r.width → y < r.height → y + 1 < r.height → at_edge (down_edge x y)
    unfolding at_edge
    step_down x y l m n =
        edge_step (is_seam r (down_edge x y)) (has_open_ends mask (down_edge x y)) (F (down_edge x y)) (departure r S (down_edge x y)) (departure r (shifted S o) (down_edge x y)) (o x y) (o x (y + 1)) (r.weight (down_edge x y)) r.steep
        (cert.bounded (down_edge x y) (down_is_edge r.width r.height x y l m n))
        (λ k. departure_moved (r.slope true) (r.phase x y) (r.phase x (y + 1)) (S x y) (S x (y + 1)) (cycles_of r S x y) (cycles_of r S x (y + 1)) (o x y) (o x (y + 1)) (cycles_exact r mask S good x y l m (and_first (mask x y) (mask x (y + 1)) k)) (cycles_exact r mask S good x (y + 1) l n (and_second (mask x y) (mask x (y + 1)) k)))

    least : seam_cost r mask S ≤ℤ seam_cost r mask (shifted S o)
    unfolding seam_cost flow_total flow_over_total at_edge
    least =
        finish _ _ _ _ _ _ _ _ _
        (sum_edges-le r.width r.height (λ e. where_true (is_seam r e && has_open_ends mask e) (F e *ℤ departure r S e) +ℤ where_true (is_seam r e) (F e *ℤ at_edge_end o e)) (λ e. (where_true (is_seam r e) (edge_cost r mask (shifted S o) e) +ℤ flow_over r mask F e) +ℤ where_true (is_seam r e) (F e *ℤ at_edge_start o e))
        (on_each_edge r.width r.height at_edge step_right step_down))
        (sum_edges-add r.width r.height (λ e. where_true (is_seam r e && has_open_ends mask e) (F e *ℤ departure r S e)) (λ e. where_true (is_seam r e) (F e *ℤ at_edge_end o e)))
        (sum_edges-add r.width r.height (λ e. where_true (is_seam r e) (edge_cost r mask (shifted S o) e) +ℤ flow_over r mask F e) (λ e. where_true (is_seam r e) (F e *ℤ at_edge_start o e)))
        (sum_edges-add r.width r.height (λ e. where_true (is_seam r e) (edge_cost r mask (shifted S o) e)) (flow_over r mask F))
        level
        cert.equal

pub least_by_labels : (r : Raster) (mask : Field Bool) (labels : Field ℕ) (count : ℕ) → IsLabelling r mask labels count → (S : Field ℤ) → IsCongruent r mask S → (F : Edge → ℤ) → IsSeamCertificate r mask S F → IsLeastAtSeams r mask S
least_by_labels r mask labels count lab S good F cert o off = least r mask labels count lab o off S good F cert

-- no labels are needed: the regions can be numbered, and an order of numbers needs no more than that this cannot be refuted
pub least_at_seams : (r : Raster) (mask : Field Bool) (S : Field ℤ) → IsCongruent r mask S → (F : Edge → ℤ) → IsSeamCertificate r mask S F → IsLeastAtSeams r mask S
least_at_seams r mask S good F cert o off =
    sure_le (seam_cost r mask S) (seam_cost r mask (shifted S o)) (λ n. labelling r mask (λ l. n (least_by_labels r mask l.0 l.1 l.2 S good F cert o off)))

pub certified_is_best : CertifiedIsBest
certified_is_best r mask S faces flows cert =
    record {
      congruent = cert.congruent;
      in_tiles = λ t l. least_in_tile r mask S t (face_at r t (faces t)) (cert.tiles t l).1;
      at_seams = least_at_seams r mask S cert.congruent (flow_at r flows) cert.seams.1;
    }
