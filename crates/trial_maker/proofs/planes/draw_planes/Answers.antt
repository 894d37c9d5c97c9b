use Rattle.std.proofs.Common.{◌∙◌, refl, arith}
use Rattle.trial_maker.specs.Drawn.{phase_number, weight_number, mask_number}
use Rattle.trial_maker.proofs.DrawLemmas.{is_size, listed_at, listed_below, phase_at, phase_below, weight_below}
use Rattle.trial_maker.proofs.planes.draw_planes.Goals as goal
use Rattle.sums_and_lists.proofs.Tests.{one_at_most}

pub invariant_of-result : goal.invariant_of-result
invariant_of-result c =
    let s = is_size c.args.width c.args.height c.requires in
    let drawn = c.in_ok-phase.ensures in
    record {
      wide = (s.wide.0, omega (arith, s.wide.1));
      high = (s.high.0, omega (arith, s.high.1));
      few = omega (arith, s.few);
      valued = omega arith;
      full = omega (arith, drawn.phases.counted, c.in_ok-phase.field-0.phase.ok.0);
      below = listed_below _ _ 65535 _ (λ k. phase_below _ _ _) drawn.phases;
    }

pub invariant_of-result-2 : goal.invariant_of-result-2
invariant_of-result-2 c =
    let s = is_size c.args.width c.args.height c.requires in
    let drawn = c.in_ok-phase.ensures in
    record {
      wide = (s.wide.0, omega (arith, s.wide.1));
      high = (s.high.0, omega (arith, s.high.1));
      few = omega (arith, s.few);
      valued = omega arith;
      full = omega (arith, drawn.weighed.counted, c.in_ok-phase.field-0.weights.ok.0);
      below = listed_below _ _ 256 _ (λ k. weight_below _) drawn.weighed;
    }

pub invariant_of-result-3 : goal.invariant_of-result-3
invariant_of-result-3 c =
    let s = is_size c.args.width c.args.height c.requires in
    let drawn = c.in_ok-phase.ensures in
    record {
      wide = (s.wide.0, omega (arith, s.wide.1));
      high = (s.high.0, omega (arith, s.high.1));
      few = omega (arith, s.few);
      valued = omega arith;
      full = omega (arith, drawn.masked.counted, c.in_ok-phase.field-0.mask.ok.0);
      below = listed_below _ _ 1 _ (λ k. one_at_most _) drawn.masked;
    }

pub returns : goal.returns
returns c =
    let seed = c.args.seed in
    let w = c.args.width in
    let h = c.args.height in
    let drawn = c.in_ok-phase.ensures in
    record {
      phase_size = (refl, refl, refl);
      weight_size = (refl, refl, refl);
      mask_size = (refl, refl);
      phases = λ x y l m. listed_at (phase_number seed w) w h x y _ l m drawn.phases ∙ phase_at seed w x y l;
      weighed = λ x y l m. listed_at (weight_number seed) w h x y _ l m drawn.weighed;
      masked = λ x y l m. listed_at (mask_number seed) w h x y _ l m drawn.masked;
    }
