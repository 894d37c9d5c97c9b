use Rattle.std.proofs.Common.{◌≡◌, ◌+◌, arith, subst, sym, to_z}
use Rattle.std.specs.Int.{w64}
use Rattle.std.specs.Prelude.{ℤ, ◌<ℤ◌, ◌≤ℤ◌}
use Rattle.std.proofs.lemmas.Int.{ints}
use Rattle.shortest_augment.proofs.Lowering.{IsLow, low_less, low_same}
use Rattle.shortest_augment.proofs.balancing.lowest.Goals as goal
use Rattle.shortest_augment.proofs.balancing.lowest.Goals.{then-potential-least, else-potential-least}

pub loop-node-preserved : goal.loop-node-preserved
loop-node-preserved g c =
    let f = g.N.FlowNet.state c.args.net.now in
    let n = c.loop-node.node in
    let inv = c.loop-node.invariant in
    let old : ℤ = to_z w64 c.loop-node.least-bits in
    let new : ℤ = to_z w64 c.if-potential-least.least-bits in
    let low : IsLow f n old = record { below = inv.below; most = inv.most; known = inv.known } in
    let more : IsLow f (n + 1) new =
    elim c.if-potential-least.branch [
      | then-potential-least w ↦ (
          let is : new ≡ f.potential n = omega (arith, ints, w.least-is, c.if-potential-least.least-is, c.potential-potential.ensures) in
          let less : new <ℤ old = omega (arith, ints, is, c.potential-potential.ensures, w.if-potential-least.true, c.loop-node.least-is) in
          low_less f n old new low is less)
      | else-potential-least w ↦ (
          let same : new ≡ old = omega (arith, ints, w.least-is, c.if-potential-least.least-is, c.loop-node.least-is) in
          let least : old ≤ℤ f.potential n = omega (arith, ints, w.if-potential-least.false, c.potential-potential.ensures, c.loop-node.least-is) in
          subst (λ (z : ℤ). IsLow f (n + 1) z) (sym same) (low_same f n old low least))
    ] in
    record { below = more.below; most = more.most; known = more.known }

pub returns : goal.returns
returns g c =
    let inv = c.loop-node.invariant in
    record {
      least = λ v l. inv.below v (omega (arith, l, c.nodes-node-end.ensures, c.loop-node-test.false));
      most = inv.most;
      node = λ k. (let h = inv.known k in (h.0, (let l = h.1.0 in omega (arith, l, c.nodes-node-end.ensures, c.loop-node.auto.node-end), h.1.1)));
    }
