-- What a list of numbers has at a place, as the code looks it up.
use Rattle.std.proofs.Common.{◌≡◌, ℕ, ℤ, List, get_or, sym}
use Rattle.std.specs.Borrow.{Bor}
use Rattle.std.specs.Prelude.{Option, Some, None}
use Rattle.std.specs.Option.{option_copied, unwrap_or}
use Rattle.std.specs.Slice.{IsItemAt}
use Rattle.std.proofs.lemmas.List.{get_or_past}

pub read_at : (numbers : List ℤ) (i : ℕ) (d : ℤ) (found : Option (Bor ℤ)) → IsItemAt numbers i found → unwrap_or (option_copied found) d ≡ get_or numbers i d
read_at numbers i d (Some n) is = is.3.1 d
read_at numbers i d None is = sym (get_or_past numbers i d is.3)
