use Rattle.std.proofs.Common.{◌<◌, ap, arith, length, subst, List, ◌≡◌, ◌≤◌, ◌∙◌, ◌^◌, refl, sym, get_or, inl}
use Rattle.std.specs.Prelude.{ℕ, Contains, pos, []}
use Rattle.shortest_augment.proofs.SearchLemmas.{held_at, wiped_next, wiped_end}
use Rattle.std.proofs.lemmas.List.{get_or_default, length-set}
use Rattle.shortest_augment.proofs.search.wipe.Goals as goal
use Rattle.shortest_augment.proofs.search.wipe.Goals.{After-index}
use Rattle.shortest_augment.proofs.search.wipe.Given.{Over}

below : (g : Over) (c : After-index g) → c.index.result.now < (g.N.FlowNet.shape c.args.net.now).nodes
below g c =
    let touched = c.loop-place.search.touched.items in
    let same = c.loop-place.invariant.touched in
    let size = ap length same in
    let l : c.loop-place.place < length touched = omega (arith, c.loop-place-test.true, c.len-place-end.ensures, size, c.args.search.now.touched.ok.0) in
    let m : Contains touched c.index.result.now = held_at touched c.loop-place.place c.index.result.now l c.index.ensures in
    c.requires.nodes c.index.result.now (subst (λ (xs : List ℕ). Contains xs c.index.result.now) same m)

pub index_mut-requires : goal.index_mut-requires
index_mut-requires g c =
    let l = below g (goal.at.index_mut-requires g c).After-index in
    omega (arith, l, c.loop-place.invariant.labels, c.loop-place.search.labels.ok.0)

pub index_mut-requires-in-loop-place : goal.index_mut-requires-in-loop-place
index_mut-requires-in-loop-place g c =
    let l = below g (goal.at.index_mut-requires-in-loop-place g c).After-index in
    omega (arith, l, c.loop-place.invariant.amounts, c.loop-place.search.amounts.ok.0)

pub loop-place-init : goal.loop-place-init
loop-place-init g c = record { labels = c.requires.labels; amounts = c.requires.amounts; steps = refl; touched = refl; fresh = c.requires.fresh }

pub index-requires : goal.index-requires
index-requires g c =
    let size = ap length c.loop-place.invariant.touched in
    omega (arith, c.loop-place-test.true, c.len-place-end.ensures, size, c.args.search.now.touched.ok.0, c.loop-place.search.touched.ok.0)

pub loop-place-preserved : goal.loop-place-preserved
loop-place-preserved g c =
    let now = c.loop-place.search in
    let u = c.index.result.now in
    let size = ap length c.loop-place.invariant.touched in
    let l : c.loop-place.place < length now.touched.items = omega (arith, c.loop-place-test.true, c.len-place-end.ensures, size, c.args.search.now.touched.ok.0) in
    let at : get_or now.touched.items c.loop-place.place 0 ≡ u = get_or_default now.touched.items c.loop-place.place 0 u l ∙ sym c.index.ensures in
    let lu = below g (goal.at.loop-place-preserved g c).After-index in
    record {
      labels = length-set now.labels.items u (2 ^ 62) ∙ c.loop-place.invariant.labels;
      amounts = length-set now.amounts.items u (pos 0) ∙ c.loop-place.invariant.amounts;
      steps = c.loop-place.invariant.steps;
      touched = c.loop-place.invariant.touched;
      fresh = λ v m. wiped_next now.labels.items now.amounts.items now.touched.items c.loop-place.place u v (omega (arith, lu, c.loop-place.invariant.labels)) (omega (arith, lu, c.loop-place.invariant.amounts)) at (c.loop-place.invariant.fresh v m);
    }

pub returns-clause-kept : goal.returns-clause-kept
returns-clause-kept g c =
    let now = c.loop-place.search in
    let size = ap length c.loop-place.invariant.touched in
    let done : length now.touched.items ≤ c.loop-place.place = omega (arith, c.loop-place-test.false, c.len-place-end.ensures, size, c.args.search.now.touched.ok.0) in
    record {
      labels = c.loop-place.invariant.labels;
      amounts = c.loop-place.invariant.amounts;
      steps = rw c.loop-place.invariant.steps c.requires.steps;
      nodes = λ v m. absurd (let k : Contains [] v = rw c.clear.ensures.items at m in let l = k.1 in omega (arith, l));
      fresh = λ v l. inl (wiped_end now c.loop-place.place v done (c.loop-place.invariant.fresh v l));
    }

pub returns-clause-labels : goal.returns-clause-labels
returns-clause-labels g c = λ v l. (
    let now = c.loop-place.search in
    let size = ap length c.loop-place.invariant.touched in
    let done : length now.touched.items ≤ c.loop-place.place = omega (arith, c.loop-place-test.false, c.len-place-end.ensures, size, c.args.search.now.touched.ok.0) in
    (wiped_end now c.loop-place.place v done (c.loop-place.invariant.fresh v l)).0)
