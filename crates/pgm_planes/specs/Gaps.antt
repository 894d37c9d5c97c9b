-- White space, comments and numbers of a PGM header: pgm(5), "The Format".
use Rattle.std.specs.Prelude.{ℕ, ◌+◌, ◌*◌, ◌-◌, min, nat_lt, ◌==◌, ◌&&◌, ◌||◌, not, Bool, true, false, if◌then◌else◌, List, [], ◌∷◌}
use Rattle.std.specs.List.{list_all}

-- white space: TAB, LF, VT, FF, CR and SP
abbrev pub is_space : ℕ → Bool
is_space b = (b == 32) || (nat_lt 8 b && nat_lt b 14)

-- LF and CR
abbrev pub is_line_end : ℕ → Bool
is_line_end b = (b == 10) || (b == 13)

abbrev pub is_digit : ℕ → Bool
is_digit b = nat_lt 47 b && nat_lt b 58

-- White space and comments, from outside a comment (false) or from inside one (true).
-- A comment begins with # (35) and ends with the first LF or CR, which belongs to it.
abbrev pub is_filling : Bool → List ℕ → Bool
is_filling inside [] = not inside
is_filling false (b ∷ bs) = (is_space b && is_filling false bs) || ((b == 35) && is_filling true bs)
is_filling true (b ∷ bs) = if is_line_end b then is_filling false bs else is_filling true bs

-- a gap: a white space byte, then white space and comments
abbrev pub is_gap : List ℕ → Bool
is_gap [] = false
is_gap (b ∷ bs) = is_space b && is_filling false bs

-- one or more white space bytes
abbrev pub is_blank : List ℕ → Bool
is_blank [] = false
is_blank (b ∷ bs) = is_space b && list_all is_space bs

-- whether the next byte passes a test; none does at the end
abbrev pub begins : (ℕ → Bool) → List ℕ → Bool
begins test [] = false
begins test (b ∷ bs) = test b

-- one or more decimal digits; leading zeros are allowed
abbrev pub is_number : List ℕ → Bool
is_number [] = false
is_number (b ∷ bs) = is_digit b && list_all is_digit bs

-- the number that digits go on to spell after the number n
abbrev pub goes_on_to : ℕ → List ℕ → ℕ
goes_on_to n [] = n
goes_on_to n (b ∷ bs) = goes_on_to (10 * n + (b - 48)) bs

-- the number that digits spell; one above 4,294,967,295 counts as that number
abbrev pub capped_number : List ℕ → ℕ
capped_number bs = min (goes_on_to 0 bs) 4294967295
