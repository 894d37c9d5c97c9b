use Rattle.std.proofs.Common.{◌≡◌, ◌≤◌, ◌∙◌, List, ℕ, false, length, take, arith, sym, ap, subst}
use Rattle.pgm_planes.proofs.Words.{length-take, length-take-le, take-take, ready_of, IsRaster}
use Rattle.pgm_planes.proofs.PieceLemmas.{raster_of_bytes}
use Rattle.pgm_planes.proofs.pieces.take_narrow.Goals as goal

pub returns-clause-taken : goal.returns-clause-taken
returns-clause-taken g c =
    let ready : c.waiting-bytes.result.now ≡ ready_of c.args.feed.now = c.waiting-bytes.ensures.value in
    let good : c.count_within-good.result ≤ length c.widen.new.samples = c.count_within-good.ensures.count in
    let size : length c.widen.new.samples ≡ c.min-count.result = omega (arith, c.widen.ensures.same, length-take {A = ℕ}) in
    let most : c.min-count.result ≤ c.args.most = omega arith in
    let there : c.min-count.result ≤ length c.waiting-bytes.result.now = omega (arith, c.min.ensures, c.min-count.ensures) in
    let low : c.count_within-good.result ≤ length (ready_of c.args.feed.now) = omega (arith, ap length ready) in
    let front : take (length (take c.min-count.result c.waiting-bytes.result.now)) c.widen.new.samples ≡ take c.min-count.result c.waiting-bytes.result.now = c.widen.ensures.front in
    let same : take c.count_within-good.result c.widen.new.samples ≡ take c.count_within-good.result (ready_of c.args.feed.now) =
    sym (take-take c.count_within-good.result (length (take c.min-count.result c.waiting-bytes.result.now)) c.widen.new.samples (omega (arith, length-take-le c.min-count.result c.waiting-bytes.result.now there)))
    ∙ ap (take c.count_within-good.result) front
    ∙ take-take c.count_within-good.result c.min-count.result c.waiting-bytes.result.now (omega arith)
    ∙ ap (take c.count_within-good.result) ready in
    record {
      bytes = take c.count_within-good.result (ready_of c.args.feed.now);
      added = take c.count_within-good.result c.widen.new.samples;
      gains = c.in_ok-extend_from_slice.ensures.items;
      few = omega (arith, length-take-le c.count_within-good.result c.widen.new.samples good);
      below = c.count_within-good.ensures.below;
      are = subst (λ (vs : List ℕ). IsRaster false (take c.count_within-good.result (ready_of c.args.feed.now)) vs) (sym same) (raster_of_bytes (take c.count_within-good.result (ready_of c.args.feed.now)));
      parts = c.consume.ensures.left;
      place = omega (arith, c.consume.ensures.handed, length-take-le c.count_within-good.result (ready_of c.args.feed.now) low);
      within = omega (arith, c.consume.ensures.handed, c.waiting-bytes.ensures.allowed, low, ap length ready);
      grows = omega (arith, ap g.S.Source.faults c.consume.ensures.source);
    }
