use Rattle.std.proofs.Common.{◌≡◌, ℕ, ◌+◌, ◌/◌, ◌%◌, ap}
use Rattle.trial_maker.specs.Drawn.{phase_number, weight_number, mask_number}
use Rattle.trial_maker.specs.Trials.{state, phase_of, weight_of, is_open}
use Rattle.trial_maker.proofs.DrawLemmas.{state_next, listed_next, none_listed, column_below, row_below, state_zero}
use Rattle.trial_maker.proofs.samples.draw.Goals as goal
use Rattle.sums_and_lists.specs.Sums.{one_if}

pub append-requires : goal.append-requires
append-requires c =
    let a = c.args in
    record {
      across = column_below a.width a.height c.loop-pixel.pixel c.requires;
      along = row_below a.width a.height c.loop-pixel.pixel c.requires c.loop-pixel-test.true;
    }

pub loop-pixel-init : goal.loop-pixel-init
loop-pixel-init c =
    let seed = c.args.seed in (
      state_zero seed,
      record {
        phases = none_listed (phase_number seed c.args.width) _ c.in_ok-samples.ensures.phase.0;
        weighed = none_listed (weight_number seed) _ c.in_ok-samples.ensures.weights.0;
        masked = none_listed (mask_number seed) _ c.in_ok-samples.ensures.mask.0;
      },
    )

pub loop-pixel-preserved : goal.loop-pixel-preserved
loop-pixel-preserved c =
    let seed = c.args.seed in
    let w = c.args.width in
    let n = c.loop-pixel.pixel in
    let drawn = c.loop-pixel.invariant.1 in
    let here : c.next-state.result ≡ state seed (n + 1) = rw (state_next seed n, ← c.loop-pixel.invariant.0) c.next-state.ensures in (
      here,
      record {
        phases = listed_next (phase_number seed w) n _ _ _ (ap (λ (s : ℕ). phase_of s (n % w) (n / w)) here) c.in_ok-append.ensures.phase drawn.phases;
        weighed = listed_next (weight_number seed) n _ _ _ (ap weight_of here) c.in_ok-append.ensures.weights drawn.weighed;
        masked = listed_next (mask_number seed) n _ _ _ (ap (λ (s : ℕ). one_if (is_open s)) here) c.in_ok-append.ensures.mask drawn.masked;
      },
    )
