use Rattle.std.proofs.Common.{arith, ◌+◌}
use Rattle.text_pages.specs.Dealing.{begin_of}
use Rattle.text_pages.proofs.DealLemmas.{begin_after, begin_first, begin_more, page_there}
use Rattle.text_pages.proofs.TextsFrom.{adds_joined, adds_none, known_joined}
use Rattle.text_pages.proofs.spread.add_pages.Goals as goal

pub loop-place-init : goal.loop-place-init
loop-place-init g c = record {
  added = adds_none _ (g.P.Passages.words c.args.passages.now) c.args.deal.start (begin_of c.args.deal 0) (begin_first c.args.deal);
  known = λ i l k. absurd (omega (arith, l, k, begin_first c.args.deal));
}

pub add_page-requires-clause-page : goal.add_page-requires-clause-page
add_page-requires-clause-page g c =
    page_there (g.P.Passages.words c.args.passages.now) (g.P.Passages.known c.args.passages.now) c.args.deal c.args.pages.now c.loop-place.place c.index-pages-place.result _ _ c.requires.dealt c.loop-place-test.true c.index-pages-place.is c.begin.ensures c.end.ensures

pub loop-place-preserved : goal.loop-place-preserved
loop-place-preserved g c =
    let d = c.args.deal in
    let p = c.loop-place.place in
    let words = g.P.Passages.words c.args.passages.now in
    let added = rw (c.begin.ensures, c.end.ensures) at c.add_page.ensures.added in
    let known = rw (c.begin.ensures, c.end.ensures) at c.add_page.ensures.known in
    record {
      added = adds_joined words d.start (begin_of d p) (begin_of d (p + 1)) (begin_after d p) (begin_more d p) c.loop-place.invariant.added added;
      known = known_joined (g.P.Passages.known c.args.passages.now) d.start (begin_of d p) (begin_of d (p + 1)) c.loop-place.invariant.known known;
    }
