use Rattle.std.proofs.Common.{◌≡◌, ◌*◌, ◌≤◌, ◌∙◌, List, ℕ, true, length, take, arith, sym, ap, subst}
use Rattle.pgm_planes.proofs.Words.{length-take, length-take-le, take-take, ready_of, IsRaster}
use Rattle.pgm_planes.proofs.PieceLemmas.{raster_of_read, raster_front}
use Rattle.pgm_planes.proofs.pieces.take_wide.Goals as goal

pub returns-clause-taken : goal.returns-clause-taken
returns-clause-taken g c =
    let ready : c.waiting-bytes.result.now ≡ ready_of c.args.feed.now = c.waiting-bytes.ensures.value in
    let good : c.count_within-good.result ≤ length c.read_u16_into.new.dst = c.count_within-good.ensures.count in
    let size : length c.read_u16_into.new.dst ≡ c.min-count.result = omega (arith, c.read_u16_into.auto.dst, length-take {A = ℕ}) in
    let most : c.min-count.result ≤ c.args.most = omega arith in
    let there : 2 * c.min-count.result ≤ length c.waiting-bytes.result.now = omega (arith, c.min.ensures, c.min-count.ensures) in
    let low : 2 * c.count_within-good.result ≤ length (ready_of c.args.feed.now) = omega (arith, ap length ready) in
    let whole : IsRaster true (take (2 * c.min-count.result) c.waiting-bytes.result.now) c.read_u16_into.new.dst =
    raster_of_read (take (2 * c.min-count.result) c.waiting-bytes.result.now) c.read_u16_into.new.dst (length-take-le (2 * c.min-count.result) c.waiting-bytes.result.now there ∙ ap (λ (n : ℕ). 2 * n) (sym size)) c.read_u16_into.ensures in
    let front = raster_front c.count_within-good.result (take (2 * c.min-count.result) c.waiting-bytes.result.now) c.read_u16_into.new.dst whole in
    let same : take (2 * c.count_within-good.result) (take (2 * c.min-count.result) c.waiting-bytes.result.now) ≡ take (2 * c.count_within-good.result) (ready_of c.args.feed.now) =
    take-take (2 * c.count_within-good.result) (2 * c.min-count.result) c.waiting-bytes.result.now (omega arith) ∙ ap (take (2 * c.count_within-good.result)) ready in
    record {
      bytes = take (2 * c.count_within-good.result) (ready_of c.args.feed.now);
      added = take c.count_within-good.result c.read_u16_into.new.dst;
      gains = c.in_ok-extend_from_slice.ensures.items;
      few = omega (arith, length-take-le c.count_within-good.result c.read_u16_into.new.dst good);
      below = c.count_within-good.ensures.below;
      are = subst (λ (b : List ℕ). IsRaster true b (take c.count_within-good.result c.read_u16_into.new.dst)) same front;
      parts = c.consume.ensures.left;
      place = omega (arith, c.consume.ensures.handed, length-take-le (2 * c.count_within-good.result) (ready_of c.args.feed.now) low);
      within = omega (arith, c.consume.ensures.handed, c.waiting-bytes.ensures.allowed, low, ap length ready);
      grows = omega (arith, ap g.S.Source.faults c.consume.ensures.source);
    }
