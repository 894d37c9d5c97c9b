use Rattle.std.specs.Prelude.{pos, slice_index_or, unsigned_abs}
use Rattle.std.proofs.Common.{◌≡◌, ℕ, ◌≤◌, ◌+◌, ◌∙◌, ap, sym, subst, arith, rules, List, ℤ, to_z, of_z, w64}
use Rattle.std.proofs.lemmas.Int.{to_z-of_z}
use Rattle.flow_network.specs.Views.{shape_of, state_of}
use Rattle.offset_network.specs.Lanes.{arcs_before, lane_at}
use Rattle.offset_network.specs.Networks.{AreFlows, IsArcOf, flow_left}
use Rattle.offset_network.proofs.LaneLemmas.{arcs-few, arcs-more, arcs-none, two_at_most}
use Rattle.offset_network.proofs.AnswerLemmas.{flows_more, flows_none, small_more, small_none}
use Rattle.offset_network.proofs.answer.flows.Goals as goal

pub loop-lane-init : goal.loop-lane-init
loop-lane-init c =
    let lanes = c.args.lanes.now in
    record {
      arcs = sym (arcs-none lanes);
      flows = flows_none lanes (state_of c.args.net.now) c.in_ok-flows.flows.items c.in_ok-flows.ensures.items;
      small = small_none c.in_ok-flows.flows.items c.in_ok-flows.ensures.items;
    }

pub flow-requires-clause-arc : goal.flow-requires-clause-arc
flow-requires-clause-arc c = λ k e. (
    let net = c.args.net.now in
    let at : c.loop-lane.arc ≡ arcs_before c.args.lanes.now c.loop-lane.lane-index = c.loop-lane.invariant.arcs in
    subst (λ (a : ℕ). IsArcOf (shape_of net) (state_of net) a k) (sym at) (c.requires.arcs.each c.loop-lane.lane-index k c.loop-lane-test.true e))

pub flow-requires-clause-range : goal.flow-requires-clause-range
flow-requires-clause-range c = λ k e. (let is = c.requires.lanes.each c.loop-lane.lane-index k e in (is.low, is.high))

pub overflow_add-arc : goal.overflow_add-arc
overflow_add-arc c =
    let lanes = c.args.lanes.now in
    let i = c.loop-lane.lane-index in
    omega (arith, c.loop-lane.invariant.arcs, c.arcs_of-arc.ensures, arcs-few lanes i, two_at_most (lane_at lanes i), c.requires.lanes.few, c.loop-lane-test.true)

pub loop-lane-preserved : goal.loop-lane-preserved
loop-lane-preserved c =
    let lanes = c.args.lanes.now in
    let i = c.loop-lane.lane-index in
    let f = state_of c.args.net.now in
    let fits : to_z w64 (of_z w64 c.flow.result) ≡ c.flow.result = to_z-of_z w64 c.flow.result (search rules) in
    let at : c.loop-lane.arc ≡ arcs_before lanes i = c.loop-lane.invariant.arcs in
    record {
      arcs = omega (arith, at, c.arcs_of-arc.ensures, arcs-more lanes i);
      flows = subst (AreFlows lanes f (i + 1)) (sym {A = List ℤ} c.in_ok-push.ensures.items)
          (flows_more lanes f i c.loop-lane.flows.items _ (fits ∙ c.flow.ensures.value ∙ ap (λ (a : ℕ). flow_left (lane_at lanes i) (f.residual a)) at) c.loop-lane.invariant.flows);
      small = subst (λ (zs : List ℤ). (j : ℕ) → unsigned_abs (slice_index_or zs j (pos 0)) ≤ 983025) (sym {A = List ℤ} c.in_ok-push.ensures.items)
          (small_more c.loop-lane.flows.items _ (rw fits c.flow.ensures.small) c.loop-lane.invariant.small);
    }
