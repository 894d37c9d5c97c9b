use Rattle.std.proofs.Common.{◌≡◌, ◌<◌, ◌∙◌, refl, sym, ap, arith}
use Rattle.std.specs.Prelude.{Some}
use Rattle.shortest_augment.specs.Trees.{LedTo, mark_at, choices}
use Rattle.shortest_augment.specs.declared.mark.Mark.{Mark}
use Rattle.shortest_augment.proofs.TreeLemmas.{mark_read}
use Rattle.shortest_augment.proofs.augment.reaches.Goals as goal
use Rattle.shortest_augment.proofs.augment.reaches.Goals.{In-Some}
use Rattle.shortest_augment.proofs.augment.reaches.Given.{Over}

-- the arc of the node's mark
is : (g : Over) (c : In-Some g) → (mark_at c.loop-arc.marks.items c.loop-arc.node).arc ≡ Some c.in-Some.arc
is g c =
    let at = mark_read (g.N.FlowNet.shape c.args.net.now) c.loop-arc.marks.items c.loop-arc.node c.loop-arc.node c.index.result.now c.loop-arc.invariant.forest.count c.loop-arc.invariant.node refl c.index.ensures in
    ap (λ (m : Mark). m.arc) (sym at) ∙ c.in-Some.is

led : (g : Over) (c : In-Some g) → LedTo (g.N.FlowNet.shape c.args.net.now) (g.N.FlowNet.state c.args.net.now) c.loop-arc.marks.items c.loop-arc.node c.in-Some.arc
led g c = c.loop-arc.invariant.forest.led c.loop-arc.node c.in-Some.arc c.loop-arc.invariant.node (is g c)

pub loop-arc-init : goal.loop-arc-init
loop-arc-init g c = record { forest = c.requires.forest; node = c.requires.end; reached = c.requires.reached; most = omega arith }

pub index-requires : goal.index-requires
index-requires g c = omega (arith, c.loop-arc.invariant.node, c.loop-arc.invariant.forest.count, c.loop-arc.marks.ok.0)

pub heads_unmarked-requires-clause-arc : goal.heads_unmarked-requires-clause-arc
heads_unmarked-requires-clause-arc g c = (led g c).is_arc

pub tail-node-requires : goal.tail-node-requires
tail-node-requires g c = (led g (goal.at.tail-node-requires g c).In-Some).is_arc

pub loop-arc-smaller-then-heads_unmarked : goal.loop-arc-smaller-then-heads_unmarked
loop-arc-smaller-then-heads_unmarked g c =
    let marks = c.loop-arc.marks.items in
    let less : (mark_at marks c.tail-node.result).depth < (mark_at marks c.loop-arc.node).depth = rw c.tail-node.ensures (led g (goal.at.loop-arc-smaller-then-heads_unmarked g c).In-Some).deeper in
    omega (arith, less)

pub loop-arc-preserved-then-heads_unmarked : goal.loop-arc-preserved-then-heads_unmarked
loop-arc-preserved-then-heads_unmarked g c =
    let s = g.N.FlowNet.shape c.args.net.now in
    let net = g.met.N.FlowNet.is_network c.args.net.now in
    let d = led g (goal.at.loop-arc-preserved-then-heads_unmarked g c).In-Some in
    record {
      forest = c.loop-arc.invariant.forest;
      node = rw c.tail-node.ensures (net.ends (s.twin c.in-Some.arc) (net.has_twin c.in-Some.arc d.is_arc));
      reached = rw c.tail-node.ensures (c.heads_unmarked.ensures c.if-heads_unmarked.true);
      most = c.loop-arc.invariant.most;
    }

pub relink-requires-clause-arc : goal.relink-requires-clause-arc
relink-requires-clause-arc g c = is g (goal.at.relink-requires-clause-arc g c).In-Some

pub returns-then-not-relink-clause-closed : goal.returns-then-not-relink-clause-closed
returns-then-not-relink-clause-closed g c = λ e. (
    let same = ap (choices (g.N.FlowNet.shape c.args.net.now)) (c.relink.ensures.same c.if-not-relink.true) in
    omega (arith, same, c.close.ensures.falls, c.loop-arc.invariant.most))

pub loop-arc-smaller : goal.loop-arc-smaller
loop-arc-smaller g c = omega (arith, c.relink.ensures.falls c.if-not-relink.false, c.relink.ensures.depth)

pub loop-arc-preserved : goal.loop-arc-preserved
loop-arc-preserved g c = record {
  forest = c.relink.ensures.forest;
  node = c.loop-arc.invariant.node;
  reached = c.relink.ensures.reached;
  most = omega (arith, c.relink.ensures.falls c.if-not-relink.false, c.loop-arc.invariant.most);
}
