-- Flows that are all 0 fit any weight, and add up to 0 at each region and with any departures.
use Rattle.std.proofs.Common.{◌≡◌, ◌∙◌, ℕ, arith, Bool, List}
use Rattle.std.specs.Prelude.{◌&&◌, ℤ, pos, ◌-ℤ◌, ◌*ℤ◌, slice_index_or}
use Rattle.std.proofs.lemmas.Int.{ints}
use Rattle.raster_model.specs.declared.edge.Edge.{Edge}
use Rattle.raster_model.specs.Sums.{Field, at_edge_start, at_edge_end, sum_edges}
use Rattle.raster_model.specs.Raster.{departure, has_open_ends, is_seam, lifted}
use Rattle.raster_model.specs.Flows.{flow_at, seam_place}
use Rattle.raster_model.specs.Seams.{flow_in, flow_out, flow_total, region_of}
use Rattle.raster_model.proofs.SumLemmas.{sum_edges-same, sum_edges-zeros}
use Rattle.raster_model.proofs.Unsteep.{no_flow_over}
use Rattle.certificates.specs.declared.seam_flows.SeamFlows.{SeamFlows}
use Rattle.certificates.specs.FlowWords.{AreExcesses, FlowsFit, flow_of, held_mask, held_raster, bound_of}
use Rattle.certificates.specs.Growth.{AreZeros}
use Rattle.certificates.specs.SeamVerdicts.{label_at}
use Rattle.certificates.proofs.ZeroLemmas.{read_zero}
use Rattle.sums_and_lists.proofs.SumLemmas.{where_zero}
use Rattle.sums_and_lists.specs.Sums.{where_true}

no_times : (z : ℤ) → pos 0 *ℤ z ≡ pos 0
no_times z = omega (arith, ints)

module _ (k : SeamFlows) (zeros : AreZeros k.flows.now) where
  none : (e : Edge) → flow_of k e ≡ pos 0
  unfolding flow_at
  none e = read_zero k.flows.now zeros (seam_place (held_raster k) e)

  pub zero_flows_fit : FlowsFit k
  zero_flows_fit = (λ e p. rw (none e) (omega arith), λ e p. rw (none e) (omega arith))

  no_sum : (test : Edge → Bool) → sum_edges (held_raster k).width (held_raster k).height (λ e. where_true (test e) (flow_of k e)) ≡ pos 0
  no_sum test =
      sum_edges-same (held_raster k).width (held_raster k).height (λ e. where_true (test e) (flow_of k e)) (λ e. pos 0) (λ e i. where_zero (test e) (flow_of k e) (none e))
      ∙ sum_edges-zeros (held_raster k).width (held_raster k).height

  pub zero_flows_balance : (labels : List ℕ) (sums : List ℤ) → ((v : ℕ) → slice_index_or sums v (pos 0) ≡ pos 0) → AreExcesses k labels sums
  zero_flows_balance labels sums z v l =
      let region : Field Bool = region_of (held_mask k) (label_at k.scene.now.phase.width labels) v in
      let come : flow_in (held_raster k) (flow_of k) region ≡ pos 0 = no_sum (λ e. is_seam (held_raster k) e && at_edge_end region e) in
      let go : flow_out (held_raster k) (flow_of k) region ≡ pos 0 = no_sum (λ e. is_seam (held_raster k) e && at_edge_start region e) in
      omega (arith, ints, z v, come, go)

  pub zero_flows_bound : (cycles : Field ℤ) → pos 0 ≡ bound_of k cycles
  unfolding flow_total
  zero_flows_bound cycles =
      let r = held_raster k in
      let term : Edge → ℤ = λ e. where_true (is_seam r e && has_open_ends (held_mask k) e) (flow_of k e *ℤ departure r (lifted r cycles) e) in
      less _ _ (no_flow_over r (held_mask k) (flow_of k) (λ e i s. rw (none e) (omega arith)))
      (
      sum_edges-same r.width r.height term (λ e. pos 0) (λ e i. where_zero (is_seam r e && has_open_ends (held_mask k) e) (flow_of k e *ℤ departure r (lifted r cycles) e) (rw (none e) (no_times (departure r (lifted r cycles) e))))
      ∙ sum_edges-zeros r.width r.height)
    where
      less : (a b : ℤ) → b ≡ pos 0 → a ≡ pos 0 → pos 0 ≡ a -ℤ b
      less a b p q = omega (arith, ints, p, q)
