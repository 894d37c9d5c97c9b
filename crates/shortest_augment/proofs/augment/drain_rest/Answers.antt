use Rattle.shortest_augment.proofs.SendLemmas.{augmented-refl}
use Rattle.shortest_augment.specs.declared.mark.Mark.{Mark}
use Rattle.shortest_augment.specs.Trees.{IsMarkForest}
use Rattle.std.proofs.Common.{List, sym, subst}
use Rattle.shortest_augment.proofs.augment.drain_rest.Goals as goal

pub returns-then-excess-le0-clause-origin : goal.returns-then-excess-le0-clause-origin
returns-then-excess-le0-clause-origin g c = g.met.N.FlowNet.origin_stays c.args.net.now

pub returns-then-excess-le0-clause-augmented : goal.returns-then-excess-le0-clause-augmented
returns-then-excess-le0-clause-augmented g c = augmented-refl (g.N.FlowNet.shape c.args.net.now) (g.N.FlowNet.state c.args.net.now)

pub returns-in_err-copy-clause-origin : goal.returns-in_err-copy-clause-origin
returns-in_err-copy-clause-origin g c = g.met.N.FlowNet.origin_stays c.args.net.now

pub returns-in_err-copy-clause-augmented : goal.returns-in_err-copy-clause-augmented
returns-in_err-copy-clause-augmented g c = augmented-refl (g.N.FlowNet.shape c.args.net.now) (g.N.FlowNet.state c.args.net.now)

pub drain-requires-clause-forest : goal.drain-requires-clause-forest
drain-requires-clause-forest g c = subst (λ (xs : List Mark). IsMarkForest (g.N.FlowNet.shape c.args.net.now) (g.N.FlowNet.state c.args.net.now) xs) (sym (c.in_ok-copy.ensures.items_if_clones_equal (λ x y e. e))) (rw c.deref.ensures.value c.requires.forest)

pub drain-requires-clause-ends : goal.drain-requires-clause-ends
drain-requires-clause-ends g c = c.requires.ends

pub returns-clause-shape : goal.returns-clause-shape
returns-clause-shape g c = c.drain.ensures.shape

pub returns-clause-origin : goal.returns-clause-origin
returns-clause-origin g c = c.drain.ensures.origin

pub returns-clause-augmented : goal.returns-clause-augmented
returns-clause-augmented g c = c.drain.ensures.augmented
