use Rattle.std.proofs.Common.{◌≤◌, ◌<◌, length, arith}
use Rattle.text_pages.proofs.DealLemmas.{begin_after, begin_goes, begin_within}
use Rattle.text_pages.proofs.TextsFrom.{adds_joined, adds_none, known_joined}
use Rattle.text_pages.proofs.spread.add_rounds.Goals as goal

pub loop-deal-init : goal.loop-deal-init
loop-deal-init g c = record {
  until = c.of-deal.ensures.until;
  left = λ l. omega (arith, c.of-deal.ensures.start, c.of-deal.ensures.some (omega (arith, c.of-deal.ensures.start, l)));
  share = omega (arith, c.of-deal.ensures.share, c.min-share.ensures, c.max-safe.ensures, c.even_share.ensures);
  some = (omega (arith, c.fill_pages.ensures.same, c.requires.some), c.requires.some.1);
  dealt = c.fill_pages.ensures.filled;
  added = adds_none _ (g.P.Passages.words c.args.passages.now) 0 c.of-deal.result.start c.of-deal.ensures.start;
  known = λ i lt. absurd (omega (arith, lt, c.of-deal.ensures.start));
}

pub next_deal-next-requires-clause-until : goal.next_deal-next-requires-clause-until
next_deal-next-requires-clause-until g c = (let w = begin_within c.loop-deal.deal (length c.loop-deal.pages) in omega (arith, w, c.loop-deal.invariant.until))

pub add_and_fill-requires-clause-until : goal.add_and_fill-requires-clause-until
add_and_fill-requires-clause-until g c κs within = (omega (arith, c.loop-deal.invariant.until, c.count-count.ensures), omega (arith, c.next_deal-next.ensures.until, c.count-count.ensures))

pub add_and_fill-requires-clause-dealt : goal.add_and_fill-requires-clause-dealt
add_and_fill-requires-clause-dealt g c κs within = c.loop-deal.invariant.dealt

pub next_deal-deal-requires-clause-until : goal.next_deal-deal-requires-clause-until
next_deal-deal-requires-clause-until g c = (let w = begin_within c.next_deal-next.result (length c.add_and_fill.new.others) in omega (arith, w, c.next_deal-next.ensures.until))

pub add_and_fill-requires-in-loop-deal-clause-until : goal.add_and_fill-requires-in-loop-deal-clause-until
add_and_fill-requires-in-loop-deal-clause-until g c κs within = (omega (arith, c.next_deal-next.ensures.until, c.count-count.ensures), omega (arith, c.next_deal-deal.ensures.until, c.count-count.ensures))

pub loop-deal-smaller : goal.loop-deal-smaller
loop-deal-smaller g c =
    let d = c.loop-deal.deal in
    let inv = c.loop-deal.invariant in
    let next = c.next_deal-next in
    let last = c.next_deal-deal in
    let before : d.start < d.until = inv.left c.loop-deal-test.true in
    let onward : d.start < next.result.start = omega (arith, next.ensures.start, begin_goes d (length c.loop-deal.pages) inv.share inv.some.0 before) in
    let later : next.result.start ≤ last.result.start = omega (arith, last.ensures.start, begin_after next.result (length c.add_and_fill.new.others)) in
    omega (arith, onward, later, c.loop-deal-test.true)

pub loop-deal-preserved : goal.loop-deal-preserved
loop-deal-preserved g c =
    let words = g.P.Passages.words c.args.passages.now in
    let known = g.P.Passages.known c.args.passages.now in
    let d = c.loop-deal.deal in
    let inv = c.loop-deal.invariant in
    let next = c.next_deal-next in
    let last = c.next_deal-deal in
    let first = c.add_and_fill.ensures in
    let second = c.add_and_fill-in-loop-deal.ensures in
    let onward : d.start ≤ next.result.start = omega (arith, next.ensures.start, begin_after d (length c.loop-deal.pages)) in
    let later : next.result.start ≤ last.result.start = omega (arith, last.ensures.start, begin_after next.result (length c.add_and_fill.new.others)) in
    let one = rw (← next.ensures.start) at first.added in
    let two = rw (← last.ensures.start) at second.added in
    let told = rw (← next.ensures.start) at first.known in
    let told_too = rw (← last.ensures.start) at second.known in
    record {
      until = last.ensures.until;
      left = last.ensures.some;
      share = last.ensures.share;
      some = (omega (arith, second.same, inv.some), omega (arith, first.same, inv.some));
      dealt = second.filled;
      added = adds_joined words 0 next.result.start last.result.start (omega arith) later (adds_joined words 0 d.start next.result.start (omega arith) onward inv.added one) two;
      known = λ i lt. known_joined known 0 next.result.start last.result.start (known_joined known 0 d.start next.result.start (λ j l k. inv.known j k) told) told_too i (omega arith) lt;
    }
