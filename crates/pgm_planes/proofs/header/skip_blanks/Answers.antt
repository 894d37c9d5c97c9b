use Rattle.std.proofs.Common.{refl, ◌∙◌, sym}
use Rattle.pgm_planes.proofs.Words.{sight_at}
use Rattle.pgm_planes.proofs.CallLemmas.{passed, as_got, as_nothing, reads_then}
use Rattle.pgm_planes.proofs.StepLemmas.{then_passes, then_finds, looks, scan_goes}
use Rattle.pgm_planes.proofs.header.skip_blanks.Goals as goal

pub returns-in_err-byte-clause-reads : goal.returns-in_err-byte-clause-reads
returns-in_err-byte-clause-reads g c = passed _ c.from_residual.ensures.1 (reads_then (looks _ _ _ c.loop-byte.invariant.goes) c.loop-byte.invariant.limit (then_passes as_got as_nothing _ _ sight_at _ c.in_err-byte.ensures.reads))

pub returns-in_default-clause-reads : goal.returns-in_default-clause-reads
returns-in_default-clause-reads g c =
    reads_then (looks _ _ _ c.loop-byte.invariant.goes) c.loop-byte.invariant.limit (then_finds as_got as_nothing _ _ tt sight_at _ c.in_ok-byte.ensures.reads (λ more rest. rw c.in_default.is refl))

pub returns-then-not-is_space-clause-reads : goal.returns-then-not-is_space-clause-reads
returns-then-not-is_space-clause-reads g c =
    reads_then (looks _ _ _ c.loop-byte.invariant.goes) c.loop-byte.invariant.limit (then_finds as_got as_nothing _ _ tt sight_at _ c.in_ok-byte.ensures.reads (λ more rest. rw (c.in-Some.is, sym c.is_space.ensures ∙ c.if-not-is_space.true) refl))

pub loop-byte-preserved : goal.loop-byte-preserved
loop-byte-preserved g c =
    let limit = c.see_byte.ensures.limit ∙ c.loop-byte.invariant.limit in
    record {
      same_source = c.take_byte.ensures.same_source ∙ c.see_byte.ensures.same_source ∙ c.loop-byte.invariant.same_source;
      limit = c.take_byte.ensures.limit ∙ limit;
      goes = scan_goes _ _ _ _ c.loop-byte.invariant.goes c.loop-byte.invariant.limit limit c.in_ok-byte.ensures.reads c.in_ok-take_byte.ensures.reads c.in-Some.is (rw (sym c.is_space.ensures ∙ c.if-not-is_space.false) refl);
    }
