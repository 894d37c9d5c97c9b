-- Lists by place: the cursors of the analysts, and places that were given a value.
use Rattle.std.specs.Prelude.{◌≡◌, ◌≢◌, ℕ, zero, suc, ◌<◌, Some, List, length, slice_get, slice_index}

-- how many commands an analyst has done, by a list that begins with analyst 1, and 0 for a number that is no analyst's
abbrev pub cursor_at : List ℕ → ℕ → ℕ
cursor_at cursors zero = 0
cursor_at cursors (suc k) = slice_index cursors k

-- the new list has the value at the first n of some places, and elsewhere what the old list had
pub record AreSet {A : Type 0} (old new : List A) (places : List ℕ) (n : ℕ) (value : A) : Type 0 where
  pub count : length new ≡ length old
  pub given : (i : ℕ) → i < n → slice_get new (slice_index places i) ≡ Some value
  pub others : (t : ℕ) → ((i : ℕ) → i < n → slice_index places i ≢ t) → slice_get new t ≡ slice_get old t
