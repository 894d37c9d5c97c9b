use Rattle.std.proofs.Common.{◌≡◌, ◌∙◌, ◌+◌, ◌-◌, ℕ, List, ◌∷◌, [], ◌++◌, suc, length, ap, arith, refl, sym}
use Rattle.pgm_planes.proofs.Words.{samples_at, limit_of}
use Rattle.insar_ports.proofs.CallLemmas.{Moves-then}
use Rattle.pgm_planes.proofs.CallLemmas.{passed, reads_then, goes_then, finds}
use Rattle.pgm_planes.proofs.PieceLemmas.{below_append, piece_below, piece_goes, piece_size}
use Rattle.pgm_planes.proofs.StepLemmas.{and_others, others_begin, others_end, others_gone, others_fail, nothing_read, none_below}
use Rattle.pgm_planes.proofs.samples.read_samples.Goals as goal

pub loop-index-init : goal.loop-index-init
loop-index-init g c =
    let whole : c.args.count - 0 ≡ c.args.count = omega arith in
    record {
      same_source = refl;
      limit = refl;
      count = c.new-samples.ensures.len;
      within = omega arith;
      below = none_below c.args.maxval c.new-samples.result.items c.new-samples.ensures.items;
      goes = rw (c.new-samples.ensures.items, whole) (nothing_read _ _ _ _ (samples_at c.args.form c.args.maxval c.args.count 0) (and_others [] c.args.form c.args.maxval c.args.count 0)
          (λ more bytes. others_begin c.args.form c.args.maxval c.args.count 0 more _ bytes));
    }

pub overflow_cast-index : goal.overflow_cast-index
overflow_cast-index g c =
    let grown = piece_size c.in_ok-take_waiting.ensures.taken in
    omega (arith, grown.0, grown.1, c.push.new.self.ok.0, c.take_waiting.new.samples.ok.0, c.in_ok-push.ensures.len, c.make_room.ensures.len, c.len-index.ensures)

pub loop-index-smaller : goal.loop-index-smaller
loop-index-smaller g c =
    let grown = piece_size c.in_ok-take_waiting.ensures.taken in
    omega (arith, grown.0, grown.1, c.push.new.self.ok.0, c.take_waiting.new.samples.ok.0, c.in_ok-push.ensures.len, c.make_room.ensures.len, c.len-index.ensures)

pub loop-index-preserved : goal.loop-index-preserved
loop-index-preserved g c =
    let piece = c.in_ok-take_waiting.ensures.taken in
    let grown = piece_size piece in
    let index : c.len-index.result ≡ (c.loop-index.index + 1) + length piece.added = omega (arith, grown.0, c.push.new.self.ok.0, c.take_waiting.new.samples.ok.0, c.in_ok-push.ensures.len, c.make_room.ensures.len, c.len-index.ensures) in
    let more : c.args.count - c.loop-index.index ≡ suc (c.args.count - (c.loop-index.index + 1)) = omega arith in
    let gains : c.push.new.self.items ≡ c.loop-index.samples.items ++ (c.in_ok-sample.sample ∷ []) = c.in_ok-push.ensures.items ∙ ap (λ (l : List ℕ). l ++ (c.in_ok-sample.sample ∷ [])) c.make_room.ensures.items in
    let limit : limit_of c.read_sample.new.feed ≡ limit_of c.args.feed.now = c.read_sample.ensures.limit ∙ c.loop-index.invariant.limit in
    record {
      same_source = c.take_waiting.ensures.same_source ∙ c.read_sample.ensures.same_source ∙ c.loop-index.invariant.same_source;
      limit = c.take_waiting.ensures.limit ∙ limit;
      count = sym c.len-index.ensures;
      within = omega (arith, index, grown.1);
      below = piece_below piece (rw gains (below_append c.args.maxval c.loop-index.samples.items (c.in_ok-sample.sample ∷ []) c.loop-index.invariant.below (c.in_ok-sample.ensures.below, tt)));
      goes = goes_then (goes_then c.loop-index.invariant.goes c.loop-index.invariant.limit (others_gone _ _ _ _ more c.in_ok-sample.ensures.reads gains)) limit (piece_goes piece _ _ (omega (arith, index, grown.1)) index);
    }

pub returns-in_err-make_room-clause-reads : goal.returns-in_err-make_room-clause-reads
returns-in_err-make_room-clause-reads g c = passed _ c.from_residual.ensures.1 (record { moves = c.loop-index.invariant.goes.moves; answers = tt })

pub returns-in_err-sample-clause-reads : goal.returns-in_err-sample-clause-reads
returns-in_err-sample-clause-reads g c =
    let more : c.args.count - c.loop-index.index ≡ suc (c.args.count - (c.loop-index.index + 1)) = omega arith in
    passed _ c.from_residual-in_err-sample.ensures.1 (reads_then c.loop-index.invariant.goes c.loop-index.invariant.limit (others_fail _ _ _ _ more c.in_err-sample.ensures.reads))

pub returns-in_err-push-clause-reads : goal.returns-in_err-push-clause-reads
returns-in_err-push-clause-reads g c =
    passed _ c.from_residual-in_err-push.ensures.1 (reads_then c.loop-index.invariant.goes c.loop-index.invariant.limit (record { moves = c.in_ok-sample.ensures.reads.moves; answers = tt }))

pub returns-in_err-take_waiting-clause-reads : goal.returns-in_err-take_waiting-clause-reads
returns-in_err-take_waiting-clause-reads g c =
    passed _ c.from_residual-in_err-take_waiting.ensures.1 (reads_then c.loop-index.invariant.goes c.loop-index.invariant.limit
    (record { moves = Moves-then _ _ _ _ _ _ _ _ _ _ _ c.in_ok-sample.ensures.reads.moves c.take_waiting.ensures.moves; answers = tt }))

pub returns-clause-reads : goal.returns-clause-reads
returns-clause-reads g c =
    let none : c.args.count - c.loop-index.index ≡ 0 = omega arith in
    finds c.loop-index.invariant.goes (λ beyond rest. rw none (others_end c.args.form c.args.maxval c.loop-index.samples.items c.loop-index.index beyond _ rest))
