-- Whether pixels side by side, or one above the other, are in one tile.
use Rattle.std.proofs.Common.{◌≡◌, ℕ, ◌+◌, ◌/◌, ◌%◌, ◌<◌, refl, arith}
use Rattle.std.proofs.lemmas.Nat.{div-add-mod', mod_below}
use Rattle.raster_model.specs.declared.tiling.Tiling.{Tiling}
use Rattle.raster_model.specs.Tiles.{tile_at}
use Rattle.raster_model.proofs.TileLemmas.{in_block, from_block, tiles_are_squares}

-- a number and the next are in one block of d exactly where the next begins none
begins : (a b d : ℕ) → b ≡ a + 1 → 0 < d → b % d ≡ 0 → a / d ≡ b / d → ⊥
begins a b d n p e f =
    let s = div-add-mod' b d in
    let k = in_block a d (b / d) p f in
    omega (arith, s, k, e, n)

stays : (a b d : ℕ) → b ≡ a + 1 → 0 < d → 0 < b % d → a / d ≡ b / d
stays a b d n p l =
    let s = div-add-mod' b d in
    let m = mod_below b d p in
    from_block a d (b / d) p (omega (arith, s, l, n)) (omega (arith, s, m, n))

module _ (g : Tiling) (a b : ℕ) (next : b ≡ a + 1) where
  positive : 0 < g.side
  positive = omega (arith, g.sides)

  pub one_tile_across : (y : ℕ) → b < g.width → 0 < b % g.side → tile_at g a y ≡ tile_at g b y
  one_tile_across y l p = (tiles_are_squares g a y b y (omega (arith, next)) l).1 (stays a b g.side next positive p, refl)

  pub two_tiles_across : (y : ℕ) → b < g.width → b % g.side ≡ 0 → tile_at g a y ≡ tile_at g b y → ⊥
  two_tiles_across y l e t = begins a b g.side next positive e ((tiles_are_squares g a y b y (omega (arith, next)) l).0 t).0

  pub one_tile_along : (x : ℕ) → x < g.width → 0 < b % g.side → tile_at g x a ≡ tile_at g x b
  one_tile_along x l p = (tiles_are_squares g x a x b l l).1 (refl, stays a b g.side next positive p)

  pub two_tiles_along : (x : ℕ) → x < g.width → b % g.side ≡ 0 → tile_at g x a ≡ tile_at g x b → ⊥
  two_tiles_along x l e t = begins a b g.side next positive e ((tiles_are_squares g x a x b l l).0 t).1
