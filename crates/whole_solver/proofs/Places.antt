-- Each pixel has a place in a list with one number for each.
use Rattle.std.proofs.Common.{◌≡◌, ℕ, ◌+◌, ◌*◌, ◌<◌, ℤ, List, length, arith}
use Rattle.std.specs.Prelude.{IsTrue, ◌&&◌, nat_lt}
use Rattle.std.proofs.lemmas.Nat.{mul-add-lt}
use Rattle.std.proofs.lemmas.Bool.Decides.{nat_tests}
use Rattle.whole_solver.specs.Cycles.{has_cycles}

below : (p n m : ℕ) → p < m → n ≡ m → p < n
below p n m l e = omega (arith, l, e)

both : (x w p n : ℕ) → x < w → p < n → IsTrue (nat_lt x w && nat_lt p n)
both x w p n l m = grind (arith, nat_tests)

pub has_all : (w n h x y : ℕ) (cycles : List ℤ) → n ≡ w → length cycles ≡ w * h → x < w → y < h → IsTrue (has_cycles n cycles x y)
has_all w n h x y cycles e count l m =
    rw e (both x w (y * w + x) (length cycles) l (below (y * w + x) (length cycles) (w * h) (mul-add-lt y w x h m l) count))
