use Rattle.std.proofs.Common.{◌<◌, arith, length, ◌≡◌, ◌∙◌, refl, get_or, to_z, of_z, sym, ◌≤◌}
use Rattle.shortest_augment.proofs.SearchLemmas.{held_at, falling_next, falling_end}
use Rattle.std.specs.Int.{w64}
use Rattle.std.proofs.lemmas.Int.{ints}
use Rattle.std.proofs.lemmas.List.{get_or_default, length-set}
use Rattle.shortest_augment.specs.Labels.{fall_to}
use Rattle.shortest_augment.proofs.search.set_falls.Goals as goal

pub index_mut-requires : goal.index_mut-requires
index_mut-requires c =
    let touched = c.args.touched.now.items in
    let l : c.loop-place.place < length touched = omega (arith, c.loop-place-test.true, c.len-place-end.ensures, c.args.touched.now.ok.0) in
    let e = c.index.ensures in
    omega (arith, c.requires.nodes c.index.result.now (held_at touched c.loop-place.place c.index.result.now l e), c.loop-place.invariant.count, c.loop-place.amounts.ok.0)

pub index-requires-in-loop-place : goal.index-requires-in-loop-place
index-requires-in-loop-place c =
    let touched = c.args.touched.now.items in
    let l : c.loop-place.place < length touched = omega (arith, c.loop-place-test.true, c.len-place-end.ensures, c.args.touched.now.ok.0) in
    let e = c.index.ensures in
    omega (arith, c.requires.nodes c.index.result.now (held_at touched c.loop-place.place c.index.result.now l e), c.requires.count, c.args.labels.now.ok.0)

pub loop-place-init : goal.loop-place-init
loop-place-init c = record { count = refl; falling = c.requires.others }

pub index-requires : goal.index-requires
index-requires c = omega (arith, c.loop-place-test.true, c.len-place-end.ensures)

pub loop-place-preserved : goal.loop-place-preserved
loop-place-preserved c =
    let touched = c.args.touched.now.items in
    let labels = c.args.labels.now.items in
    let u = c.index.result.now in
    let x = c.args.at in
    let l : c.loop-place.place < length touched = omega (arith, c.loop-place-test.true, c.len-place-end.ensures, c.args.touched.now.ok.0) in
    let e = c.index.ensures in
    let below = c.requires.nodes u (held_at touched c.loop-place.place u l e) in
    let at : get_or touched c.loop-place.place 0 ≡ u = get_or_default touched c.loop-place.place 0 u l ∙ sym e in
    let from : c.index-in-loop-place.result.now ≡ get_or labels u 0 = c.index-in-loop-place.ensures ∙ get_or_default labels u c.index-in-loop-place.result.now 0 (omega (arith, below, c.requires.count)) in
    let value : to_z w64 (of_z w64 c.fall.result) ≡ fall_to x labels u = omega (arith, ints, c.fall.ensures, from, c.requires.most) in
    record {
      count = length-set c.loop-place.amounts.items u (to_z w64 (of_z w64 c.fall.result)) ∙ c.loop-place.invariant.count;
      falling = λ v m. rw value (falling_next labels touched x c.loop-place.amounts.items c.loop-place.place u v (omega (arith, below, c.loop-place.invariant.count)) at (c.loop-place.invariant.falling v m));
    }

pub returns : goal.returns
returns c =
    let touched = c.args.touched.now.items in
    let done : length touched ≤ c.loop-place.place = omega (arith, c.loop-place-test.false, c.len-place-end.ensures, c.args.touched.now.ok.0) in
    record { count = c.loop-place.invariant.count; each = λ v l. falling_end c.args.labels.now.items touched c.args.at c.loop-place.amounts.items c.loop-place.place v done (c.loop-place.invariant.falling v l) }
