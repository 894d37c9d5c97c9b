-- The first pixel of seed 0.
use Rattle.std.proofs.Common.{◌≡◌, refl, true}
use Rattle.trial_maker.specs.Trials.{next, state, state_at, phase_of, weight_of, is_open}

first_number : state_at 0 1 0 0 ≡ 1442695040888963407
unfolding state next
first_number = refl

first_phase : phase_of 1442695040888963407 0 0 ≡ 3203
unfolding phase_of
first_phase = refl

first_weight : weight_of 1442695040888963407 ≡ 127
unfolding weight_of
first_weight = refl

first_open : is_open 1442695040888963407 ≡ true
unfolding is_open
first_open = refl
