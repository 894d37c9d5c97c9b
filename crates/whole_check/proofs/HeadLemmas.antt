-- The one line of the head that is the first to differ.
use Rattle.std.proofs.Common.{◌≡◌, ℕ, arith}
use Rattle.whole_text.specs.Text.{WholeOf}
use Rattle.whole_text.specs.Told.{WholeTask}
use Rattle.whole_check.specs.Verdicts.{HasWholeHead, WholeDiffersAt}

module _ (s : WholeTask) (v : WholeOf) where
  pub no_difference : (n : ℕ) → HasWholeHead s v → WholeDiffersAt s v n → ⊥
  no_difference n h d = grind arith

  pub one_difference : (m n : ℕ) → WholeDiffersAt s v m → WholeDiffersAt s v n → m ≡ n
  one_difference m n d e = grind arith
