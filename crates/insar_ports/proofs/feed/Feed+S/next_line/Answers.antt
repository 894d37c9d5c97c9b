use Rattle.std.proofs.Common.{arith, ◌∙◌, ◌<◌, length, length-set, ap, ℕ}
use Rattle.insar_ports.proofs.LineLemmas.{gone-more}
use Rattle.insar_ports.proofs.feed.Feed+S.next_line.Goals as goal

pub loop-byte-preserved : goal.loop-byte-preserved
loop-byte-preserved g c =
    let room : c.loop-byte.count < length c.loop-byte.into = let ne = c.if-count-into.false in omega arith in
    record {
      within = omega (arith, length-set {A = ℕ});
      name = c.step-in-loop-byte.ensures.same_source ∙ c.peek.ensures.same_source ∙ c.loop-byte.invariant.name;
      limit = c.step-in-loop-byte.ensures.limit ∙ c.peek.ensures.limit ∙ c.loop-byte.invariant.limit;
      grows =
          let same = ap g.S.Source.faults c.step-in-loop-byte.ensures.source in
          omega (arith, c.loop-byte.invariant.grows, c.peek.ensures.grows, same);
      gone = gone-more c.loop-byte.into c.loop-byte.count c.in-Some.byte _ _ _ _ room c.if-byte-eq-LINE_FEED.false
          c.loop-byte.invariant.gone c.peek.ensures.left (rw c.in-Some.is at c.in_ok-byte.ensures.byte) c.step-in-loop-byte.ensures.left;
      handed = omega (arith, c.step-in-loop-byte.ensures.handed, c.peek.ensures.handed, c.loop-byte.invariant.handed);
    }
