use Rattle.std.proofs.Common.{arith, false, ◌∙◌, sym, ap, refl}
use Rattle.shortest_augment.specs.Trees.{mark_at}
use Rattle.shortest_augment.proofs.LinkLemmas.{choices_set, choice_open, set_forest}
use Rattle.shortest_augment.specs.declared.mark.Mark.{Mark}
use Rattle.shortest_augment.proofs.TreeLemmas.{mark_read}
use Rattle.shortest_augment.proofs.augment.close.Goals as goal

pub returns-clause-falls : goal.returns-clause-falls
returns-clause-falls g c =
    let s = g.N.FlowNet.shape c.args.net.now in
    let marks = c.args.marks.now.items in
    let m = c.index-mark.result.now in
    let set = choices_set s marks c.args.node (record { reached = false; depth = m.depth; arc = m.arc }) c.requires.forest.count c.requires.node in
    let some = choice_open s (mark_at marks c.args.node) c.requires.reached in
    omega (arith, set, some)

pub index-mark-requires : goal.index-mark-requires
index-mark-requires g c = omega (arith, c.requires.node, c.requires.forest.count, c.args.marks.now.ok.0)

pub index_mut-requires : goal.index_mut-requires
index_mut-requires g c = omega (arith, c.requires.node, c.requires.forest.count, c.args.marks.now.ok.0)

pub returns-clause-forest : goal.returns-clause-forest
returns-clause-forest g c =
    let marks = c.args.marks.now.items in
    let m = c.index-mark.result.now in
    let at = mark_read (g.N.FlowNet.shape c.args.net.now) marks c.args.node c.args.node m c.requires.forest.count c.requires.node refl c.index-mark.ensures in
    set_forest (g.N.FlowNet.shape c.args.net.now) (g.N.FlowNet.state c.args.net.now) marks c.args.node (record { reached = false; depth = m.depth; arc = m.arc }) c.requires.forest c.requires.node (ap (λ (k : Mark). k.depth) at) (λ b e. c.requires.forest.led c.args.node b c.requires.node (ap (λ (k : Mark). k.arc) (sym at) ∙ e))
