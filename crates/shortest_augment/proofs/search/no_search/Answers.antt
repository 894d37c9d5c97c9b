use Rattle.std.proofs.Common.{◌∙◌, ap}
use Rattle.std.specs.Prelude.{replicate}
use Rattle.shortest_augment.specs.declared.mark.Mark.{Mark}
use Rattle.shortest_augment.proofs.SearchLemmas.{fresh_kept}
use Rattle.shortest_augment.proofs.search.no_search.Goals as goal

pub returns : goal.returns
returns g c =
    let n = c.nodes-nodes.result in
    let steps = c.in_ok-steps.ensures.items_if_clones_equal (λ y h. h) ∙ ap (λ (m : Mark). replicate n m) c.root.ensures in
    fresh_kept (g.N.FlowNet.shape c.args.net.now) n _ c.nodes-nodes.ensures (c.in_ok-labels.ensures.items_if_clones_equal (λ y h. h)) (c.in_ok-amounts.ensures.items_if_clones_equal (λ y h. h)) steps c.new.ensures.items
