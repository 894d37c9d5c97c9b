use Rattle.std.proofs.Common.{◌≡◌, ℕ, ◌<◌, subst, arith, inl, inr}
use Rattle.std.specs.Prelude.{◌<ℤ◌, ◌≤ℤ◌, ◌^◌, ℤ, pos, None}
use Rattle.std.proofs.lemmas.Int.{ints, by_lt_z}
use Rattle.std.proofs.lemmas.Bool.{cases_lt}
use Rattle.flow_network.specs.Nets.{Shape, total_excess}
use Rattle.shortest_augment.specs.Labels.{AreDistances}
use Rattle.shortest_augment.specs.Balance.{IsServed}
use Rattle.shortest_augment.proofs.Blocking.{served-refl, served-trans, has_depths, measure, total_excess-not_below, zero-all}
use Rattle.shortest_augment.proofs.balancing.serve_all.Goals as goal
use Rattle.shortest_augment.proofs.balancing.serve_all.Goals.{After-serve}
use Rattle.shortest_augment.proofs.balancing.serve_all.Given.{Over}

not_more : (f g : ℤ) → f ≤ℤ pos 0 → (pos 0 <ℤ g → pos 0 <ℤ f) → g ≤ℤ pos 0
not_more f g l h = by_lt_z (pos 0) g (λ m. absurd (let k : pos 0 <ℤ f = h m in omega (arith, ints, k, l))) (λ k. k)

-- from entry to after the serve
served : (g : Over) (c : After-serve g) → IsServed (g.N.FlowNet.shape c.args.net.now) (g.N.FlowNet.shape c.serve.new.net) (g.N.FlowNet.state c.args.net.now) (g.N.FlowNet.state c.serve.new.net)
served g c = served-trans (g.N.FlowNet.shape c.args.net.now) (g.N.FlowNet.shape c.loop-source.net) (g.N.FlowNet.shape c.serve.new.net) (g.N.FlowNet.state c.args.net.now) (g.N.FlowNet.state c.loop-source.net) (g.N.FlowNet.state c.serve.new.net) c.loop-source.invariant.served c.serve.ensures.served

pub returns-in-Err-clause-served : goal.returns-in-Err-clause-served
returns-in-Err-clause-served g c = served g (goal.at.returns-in-Err-clause-served g c).After-serve

pub returns-in-Ok-false-clause-served : goal.returns-in-Ok-false-clause-served
returns-in-Ok-false-clause-served g c = served g (goal.at.returns-in-Ok-false-clause-served g c).After-serve

pub serve-requires-clause-depths : goal.serve-requires-clause-depths
serve-requires-clause-depths g c = has_depths (g.N.FlowNet.shape c.args.net.now) (g.N.FlowNet.shape c.loop-source.net) (g.N.FlowNet.state c.args.net.now) (g.N.FlowNet.state c.loop-source.net) c.loop-source.invariant.served c.requires.depths

pub loop-source-init : goal.loop-source-init
loop-source-init g c = record {
  served = served-refl (g.N.FlowNet.shape c.args.net.now) (g.N.FlowNet.state c.args.net.now) (g.met.N.FlowNet.is_network c.args.net.now);
  origin = g.met.N.FlowNet.origin_stays c.args.net.now;
  ready = c.requires.ready;
  low = omega arith;
  before = λ v l. absurd (omega (arith, l));
}

pub loop-source-smaller : goal.loop-source-smaller
loop-source-smaller g c =
    let s = g.N.FlowNet.shape c.args.net.now in
    let now = g.N.FlowNet.state c.loop-source.net in
    let then = g.N.FlowNet.state c.serve.new.net in
    let falls : total_excess s then <ℤ total_excess s now = subst (λ (t : Shape). total_excess t then <ℤ total_excess t now) c.loop-source.invariant.served.shape (c.in-Ok-true.ensures.falls c.in-Ok-true.field-0-test) in
    measure (total_excess s then) (total_excess s now) (total_excess-not_below s then) falls

pub loop-source-preserved : goal.loop-source-preserved
loop-source-preserved g c =
    let some = c.in-Some.ensures.some in
    let step = c.serve.ensures.served.stepped in
    let now = g.N.FlowNet.state c.loop-source.net in
    let then = g.N.FlowNet.state c.serve.new.net in
    let inv = c.loop-source.invariant in
    record {
      served = served g (goal.at.loop-source-preserved g c).After-serve;
      origin = g.met.N.FlowNet.origin_follows c.args.net.now c.loop-source.net c.serve.new.net inv.origin c.serve.ensures.origin;
      ready = c.in-Ok-true.ensures.ready;
      low = rw c.serve.ensures.served.shape (let l = some.0 in omega (arith, l));
      before = λ v l. (
          let m = some.0 in
          elim (cases_lt v c.loop-source.from) [
            | inl q ↦ not_more (now.excess v) (then.excess v) (inv.before v q) (step.sources v (omega (arith, l, m)))
            | inr q ↦ not_more (now.excess v) (then.excess v) (c.in-Some.ensures.before v (omega (arith, q)) l) (step.sources v (omega (arith, l, m)))
          ]);
    }

pub returns-clause-balanced : goal.returns-clause-balanced
returns-clause-balanced g c =
    let s = g.N.FlowNet.shape c.loop-source.net in
    let f = g.N.FlowNet.state c.loop-source.net in
    subst (λ (t : Shape). (v : ℕ) → v < t.nodes → f.excess v ≡ pos 0) c.loop-source.invariant.served.shape (zero-all s.nodes f.excess (λ v l. (elim (cases_lt v c.loop-source.from) [
      | inl q ↦ c.loop-source.invariant.before v q
      | inr q ↦ c.in_default.ensures.none v (omega (arith, q)) l
    ])) (g.met.N.FlowNet.has_reduced_costs c.loop-source.net).even)

pub fault_of-requires-clause-source : goal.fault_of-requires-clause-source
fault_of-requires-clause-source g c =
    let some = c.in-Some.ensures.some in
    let e = c.in-Ok-false.ensures in
    let none = c.in-Ok-false.field-0-test in
    let now = g.N.FlowNet.state c.loop-source.net in
    let then = g.N.FlowNet.state c.serve.new.net in
    let same : then ≡ now = e.still none in
    let z = g.N.FlowNet.shape c.serve.new.net in
    let node : c.in-Some.source < z.nodes = rw c.serve.ensures.served.shape some.0 in
    let holds : pos 0 <ℤ then.excess c.in-Some.source = rw same some.1 in
    let far : AreDistances z then c.in-Some.source c.serve.new.search.labels.items (2 ^ 62) (2 ^ 62) None = rw c.serve.ensures.served.shape (e.far none) in
    (c.in-Some.source, (node, holds, far))

pub returns-in-Ok-false-clause-blocked : goal.returns-in-Ok-false-clause-blocked
returns-in-Ok-false-clause-blocked g c = rw (← (served g (goal.at.returns-in-Ok-false-clause-blocked g c).After-serve).shape) c.fault_of.ensures

pub with_excess-requires : goal.with_excess-requires
with_excess-requires g c = c.loop-source.invariant.low

pub serve-requires-clause-source : goal.serve-requires-clause-source
serve-requires-clause-source g c = c.in-Some.ensures.some.0

pub serve-requires-clause-holds : goal.serve-requires-clause-holds
serve-requires-clause-holds g c = c.in-Some.ensures.some.1

pub serve-requires-clause-ready : goal.serve-requires-clause-ready
serve-requires-clause-ready g c = c.loop-source.invariant.ready

pub returns-in-Err-clause-origin : goal.returns-in-Err-clause-origin
returns-in-Err-clause-origin g c = g.met.N.FlowNet.origin_follows c.args.net.now c.loop-source.net c.serve.new.net c.loop-source.invariant.origin c.serve.ensures.origin

pub fault_of-requires-clause-depths : goal.fault_of-requires-clause-depths
fault_of-requires-clause-depths g c = has_depths (g.N.FlowNet.shape c.args.net.now) (g.N.FlowNet.shape c.serve.new.net) (g.N.FlowNet.state c.args.net.now) (g.N.FlowNet.state c.serve.new.net) (served g (goal.at.fault_of-requires-clause-depths g c).After-serve) c.requires.depths

pub returns-in-Ok-false-clause-origin : goal.returns-in-Ok-false-clause-origin
returns-in-Ok-false-clause-origin g c = g.met.N.FlowNet.origin_follows c.args.net.now c.loop-source.net c.serve.new.net c.loop-source.invariant.origin c.serve.ensures.origin

pub returns-clause-served : goal.returns-clause-served
returns-clause-served g c = c.loop-source.invariant.served

pub returns-clause-origin : goal.returns-clause-origin
returns-clause-origin g c = c.loop-source.invariant.origin
