use Rattle.std.proofs.Common.{◌≡◌, ◌<◌, ◌≤◌, ◌+◌, true}
use Rattle.shortest_augment.specs.Trees.{IsMarkForest, mark_at, choices}
use Rattle.shortest_augment.proofs.augment.reaches.Given as goal

abbrev pub invariant-loop-arc : goal.invariant-loop-arc
invariant-loop-arc g l =
    let s = g.N.FlowNet.shape l.net in
    record {
      forest : IsMarkForest s (g.N.FlowNet.state l.net) l.marks.items;
      node : l.node < s.nodes;
      reached : (mark_at l.marks.items l.node).reached ≡ true;
      most : choices s l.marks.items ≤ choices s l.fn.marks.items;
    }

abbrev pub decreases-loop-arc : goal.decreases-loop-arc
decreases-loop-arc g l = choices (g.N.FlowNet.shape l.net) l.marks.items + (mark_at l.marks.items l.node).depth
