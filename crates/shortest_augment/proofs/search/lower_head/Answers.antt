use Rattle.std.proofs.Common.{◌≡◌, ◌<◌, sym, refl, arith, get_or, length}
use Rattle.std.specs.Prelude.{◌-◌, ◌^◌}
use Rattle.std.specs.BinaryHeap.{heap_items, heap_len}
use Rattle.std.proofs.lemmas.Int.{ints}
use Rattle.flow_network.specs.Nets.{tail_of}
use Rattle.shortest_augment.proofs.LabelLemmas.{lower, lower_at, lower_tells}
use Rattle.shortest_augment.proofs.FrontLemmas.{front_nearer, front_lowered}
use Rattle.shortest_augment.proofs.SearchLemmas.{work_lowered, kept_lowered, nearest_nearer, nearest_same}
use Rattle.shortest_augment.proofs.search.lower_head.Goals as goal

pub returns-then-excess-lt0-clause-lowered : goal.returns-then-excess-lt0-clause-lowered
returns-then-excess-lt0-clause-lowered g c =
    let s = g.N.FlowNet.shape c.args.net.now in
    let f = g.N.FlowNet.state c.args.net.now in
    let old = c.args.search.now in
    let low = (g.met.N.FlowNet.has_reduced_costs c.args.net.now).at_least c.args.arc c.requires.arc c.requires.left in
    lower_tells s f old.source old.labels.items c.args.arc c.args.head c.args.length old.bound (g.met.N.FlowNet.is_network c.args.net.now) c.requires.arc c.requires.searching.front.exact c.requires.head low c.requires.length (rw c.requires.head c.requires.shorter) c.args.length (omega (arith, c.requires.near))

pub returns-clause-lowered : goal.returns-clause-lowered
returns-clause-lowered g c =
    let s = g.N.FlowNet.shape c.args.net.now in
    let f = g.N.FlowNet.state c.args.net.now in
    let old = c.args.search.now in
    let low = (g.met.N.FlowNet.has_reduced_costs c.args.net.now).at_least c.args.arc c.requires.arc c.requires.left in
    lower_tells s f old.source old.labels.items c.args.arc c.args.head c.args.length old.bound (g.met.N.FlowNet.is_network c.args.net.now) c.requires.arc c.requires.searching.front.exact c.requires.head low c.requires.length (rw c.requires.head c.requires.shorter) old.bound (omega arith)

pub returns-then-excess-lt0-clause-searching : goal.returns-then-excess-lt0-clause-searching
returns-then-excess-lt0-clause-searching g c =
    let s = g.N.FlowNet.shape c.args.net.now in
    let f = g.N.FlowNet.state c.args.net.now in
    let net = g.met.N.FlowNet.is_network c.args.net.now in
    let old = c.args.search.now in
    let a = c.args.arc in
    let h = c.args.head in
    let y = c.args.length in
    let low = (g.met.N.FlowNet.has_reduced_costs c.args.net.now).at_least a c.requires.arc c.requires.left in
    let shorter : c.args.length < get_or old.labels.items h 0 = rw c.requires.head c.requires.shorter in
    let was = c.requires.searching in
    let tells = lower_tells s f old.source old.labels.items a h y old.bound net c.requires.arc was.front.exact c.requires.head low c.requires.length shorter y (omega (arith, c.requires.near)) in
    let labels = lower s f old.source old.labels.items a h y old.bound net c.requires.arc was.front.exact c.requires.head low c.requires.length shorter c.requires.left in
    let at = lower_at s f old.source old.labels.items a h y old.bound net c.requires.arc was.front.exact c.requires.head low c.requires.length shorter in
    record {
      front = front_nearer s f old.source old.bound y a (tail_of s a) old.labels.items _ (heap_items old.queue) was.front labels tells at;
      nearest = nearest_nearer s f a h old.limit old.bound y old.labels.items _ old.end net c.requires.arc c.requires.head was.nearest tells at c.requires.near (omega (arith, ints, c.excess.ensures, c.if-excess-lt0.true));
      kept = kept_lowered s old _ h y _ was.kept (rw c.requires.head (net.ends a c.requires.arc)) (λ b e. (let same : a ≡ b = cc in (rw (← same) c.requires.arc, rw (← same) (sym c.requires.head)))) refl refl refl c.in_ok-push.ensures.items;
      limit = was.limit;
    }

pub returns-clause-searching : goal.returns-clause-searching
returns-clause-searching g c =
    let s = g.N.FlowNet.shape c.args.net.now in
    let f = g.N.FlowNet.state c.args.net.now in
    let net = g.met.N.FlowNet.is_network c.args.net.now in
    let old = c.args.search.now in
    let a = c.args.arc in
    let h = c.args.head in
    let y = c.args.length in
    let low = (g.met.N.FlowNet.has_reduced_costs c.args.net.now).at_least a c.requires.arc c.requires.left in
    let shorter : c.args.length < get_or old.labels.items h 0 = rw c.requires.head c.requires.shorter in
    let was = c.requires.searching in
    let tells = lower_tells s f old.source old.labels.items a h y old.bound net c.requires.arc was.front.exact c.requires.head low c.requires.length shorter old.bound (omega arith) in
    let labels = lower s f old.source old.labels.items a h y old.bound net c.requires.arc was.front.exact c.requires.head low c.requires.length shorter c.requires.left in
    let at = lower_at s f old.source old.labels.items a h y old.bound net c.requires.arc was.front.exact c.requires.head low c.requires.length shorter in
    record {
      front = front_lowered s f old.source old.bound a (tail_of s a) old.labels.items _ (heap_items old.queue) (heap_items c.push-2.new.self) (2 ^ 62 - y, h) was.front labels tells (rw (at, c.requires.head) refl) c.in_ok-push-2.ensures.permutation (c.in_ok-push-2.ensures.heap_order was.front.heap);
      nearest = nearest_same s f a old.limit old.bound old.labels.items _ old.end was.nearest tells (rw (← c.requires.head) (omega (arith, ints, c.excess.ensures, c.if-excess-lt0.false)));
      kept = kept_lowered s old _ h y _ was.kept (rw c.requires.head (net.ends a c.requires.arc)) (λ b e. (let same : a ≡ b = cc in (rw (← same) c.requires.arc, rw (← same) (sym c.requires.head)))) refl refl refl c.in_ok-push.ensures.items;
      limit = was.limit;
    }

pub index-requires : goal.index-requires
index-requires g c =
    let s = g.N.FlowNet.shape c.args.net.now in
    let net = g.met.N.FlowNet.is_network c.args.net.now in
    omega (arith, net.ends (s.twin c.args.arc) (net.has_twin c.args.arc c.requires.arc), c.requires.tail, c.requires.searching.kept.steps.count, c.args.search.now.steps.ok.0)

pub index_mut-requires : goal.index_mut-requires
index_mut-requires g c =
    let l = (g.met.N.FlowNet.is_network c.args.net.now).ends c.args.arc c.requires.arc in
    omega (arith, l, c.requires.head, c.requires.searching.kept.labels, c.args.search.now.labels.ok.0)

pub index_mut-requires-2 : goal.index_mut-requires-2
index_mut-requires-2 g c =
    let l = (g.met.N.FlowNet.is_network c.args.net.now).ends c.args.arc c.requires.arc in
    omega (arith, l, c.requires.head, c.requires.searching.kept.steps.count, c.args.search.now.steps.ok.0)

pub excess-requires : goal.excess-requires
excess-requires g c = rw c.requires.head ((g.met.N.FlowNet.is_network c.args.net.now).ends c.args.arc c.requires.arc)

pub overflow_sub-length : goal.overflow_sub-length
overflow_sub-length g c = omega (arith, c.requires.near, c.requires.searching.nearest.most, c.requires.searching.limit)

pub returns-then-excess-lt0-clause-on : goal.returns-then-excess-lt0-clause-on
returns-then-excess-lt0-clause-on g c =
    let z = c.args.search.now in
    let h = c.args.head in
    let below : h < length z.labels.items = omega (arith, (g.met.N.FlowNet.is_network c.args.net.now).ends c.args.arc c.requires.arc, c.requires.head, c.requires.searching.kept.labels) in
    let shorter : c.args.length < get_or z.labels.items h 0 = rw c.requires.head c.requires.shorter in
    record { source = refl; limit = refl; work = work_lowered z.labels.items h c.args.length (heap_len z.queue) (heap_len z.queue) below shorter (omega arith) }

pub returns-clause-on : goal.returns-clause-on
returns-clause-on g c =
    let z = c.args.search.now in
    let h = c.args.head in
    let below : h < length z.labels.items = omega (arith, (g.met.N.FlowNet.is_network c.args.net.now).ends c.args.arc c.requires.arc, c.requires.head, c.requires.searching.kept.labels) in
    let shorter : c.args.length < get_or z.labels.items h 0 = rw c.requires.head c.requires.shorter in
    record { source = refl; limit = refl; work = work_lowered z.labels.items h c.args.length (heap_len z.queue) (heap_len c.push-2.new.self) below shorter (omega (arith, c.in_ok-push-2.ensures.len)) }
