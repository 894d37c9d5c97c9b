-- Wrapped differences of phases, in units of 1/65536 cycle (Costantini 1998).
use Rattle.std.specs.Prelude.{◌≡◌, ◌↔◌, ℕ, ℤ, pos, neg_ℤ, ◌+ℤ◌, ◌-ℤ◌, ◌*ℤ◌, ◌≤ℤ◌, int_div}
use Rattle.std.specs.Int.{int_rem_euclid}

-- d is the wrapped difference from phase a to phase b around a slope: a number from slope - 32768 to slope + 32767 that differs from b - a by whole cycles
pub record IsWrappedBy (slope : ℤ) (a b : ℕ) (d : ℤ) : Type 0 where
  pub low : (slope -ℤ pos 32768) ≤ℤ d
  pub high : d ≤ℤ (slope +ℤ pos 32767)
  pub cycles : ℤ
  pub whole : pos b -ℤ pos a ≡ d +ℤ pos 65536 *ℤ cycles

-- that number
unfoldable pub wrapped_by : ℤ → ℕ → ℕ → ℤ
wrapped_by slope a b = slope +ℤ (int_rem_euclid (pos b -ℤ pos a -ℤ slope +ℤ pos 32768) (pos 65536) -ℤ pos 32768)

-- the whole cycles that it leaves out of the difference of two phases
unfoldable pub turns_by : ℤ → ℕ → ℕ → ℤ
turns_by slope a b = int_div (pos b -ℤ pos a -ℤ wrapped_by slope a b) (pos 65536)

-- d is the wrapped difference where no slope is expected: a number from -32768 to 32767 that differs from b - a by whole cycles
pub record IsWrapped (a b : ℕ) (d : ℤ) : Type 0 where
  pub low : neg_ℤ (pos 32768) ≤ℤ d
  pub high : d ≤ℤ pos 32767
  pub cycles : ℤ
  pub whole : pos b -ℤ pos a ≡ d +ℤ pos 65536 *ℤ cycles

-- that number
abbrev pub wrapped : ℕ → ℕ → ℤ
wrapped = wrapped_by (pos 0)

-- around each slope it is a wrapped difference, and there is no other
abbrev pub WrappedIsIt : Type 0
WrappedIsIt = (slope : ℤ) (a b : ℕ) → IsWrappedBy slope a b (wrapped_by slope a b)

abbrev pub WrappedIsOnly : Type 0
WrappedIsOnly = (slope : ℤ) (a b : ℕ) (d : ℤ) → IsWrappedBy slope a b d → d ≡ wrapped_by slope a b

-- it and those cycles make up the difference
abbrev pub TurnsAreExact : Type 0
TurnsAreExact = (slope : ℤ) (a b : ℕ) → pos b -ℤ pos a ≡ wrapped_by slope a b +ℤ pos 65536 *ℤ turns_by slope a b

-- where no slope is expected it is the one around the slope 0
abbrev pub WrappedHasNoSlope : Type 0
WrappedHasNoSlope = (a b : ℕ) (d : ℤ) → IsWrapped a b d ↔ (d ≡ wrapped_by (pos 0) a b)
