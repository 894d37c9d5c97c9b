use Rattle.std.proofs.Common.{◌≡◌, refl, Some, None, arith}
use Rattle.std.specs.BinaryHeap.{heap_items}
use Rattle.shortest_augment.proofs.LabelLemmas.{first_labels, first_only, first_nearest}
use Rattle.shortest_augment.proofs.FrontLemmas.{front_start}
use Rattle.shortest_augment.proofs.SearchLemmas.{kept_lowered}
use Rattle.shortest_augment.proofs.search.start.Goals as goal

pub returns-clause-searching : goal.returns-clause-searching
returns-clause-searching g c =
    let s = g.N.FlowNet.shape c.args.net.now in
    let f = g.N.FlowNet.state c.args.net.now in
    let r = c.args.source in
    let e = c.wipe.ensures in
    let was = c.wipe.new.search in
    let far = e.labels in
    let labels = first_labels s f r was.labels.items e.kept.labels far c.requires.source in
    let only = first_only s f r was.labels.items e.kept.labels far in
    record {
      front = front_start s f r c.args.limit _ (heap_items c.push-2.new.self) (heap_items was.queue) labels c.requires.limit (c.in_ok-push-2.ensures.heap_order e.heap) c.in_ok-push-2.ensures.permutation only;
      nearest = first_nearest s f r was.labels.items e.kept.labels far c.args.limit c.requires.limit c.requires.holds;
      kept = kept_lowered s was _ r 0 _ e.kept c.requires.source (λ a q. absurd (let k : None ≡ Some a = rw c.root.ensures at q in cc)) refl refl refl c.in_ok-push.ensures.items;
      limit = c.requires.limit;
    }

pub index_mut-requires : goal.index_mut-requires
index_mut-requires g c = omega (arith, c.requires.source, c.wipe.ensures.kept.labels, c.wipe.new.search.labels.ok.0)

pub index_mut-requires-2 : goal.index_mut-requires-2
index_mut-requires-2 g c = omega (arith, c.requires.source, c.wipe.ensures.kept.steps.count, c.wipe.new.search.steps.ok.0)
