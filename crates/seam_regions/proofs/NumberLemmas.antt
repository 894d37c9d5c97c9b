-- The place of a pixel among all.
use Rattle.std.proofs.Common.{◌≡◌, ℕ, ◌+◌, ◌*◌, ◌<◌, arith}
use Rattle.std.proofs.lemmas.Nat.{mul-add-lt}
use Rattle.raster_model.specs.declared.tiling.Tiling.{Tiling}

pub place_inside : (g : Tiling) (x y n : ℕ) → n ≡ g.width * g.height → x < g.width → y < g.height → y * g.width + x < n
place_inside g x y n e l m = omega (arith, e, mul-add-lt y g.width x g.height m l)
