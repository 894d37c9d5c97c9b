-- A flood passes the pixels of a piece of a row.
use Rattle.std.proofs.Common.{◌≡◌, ℕ, zero, suc, ◌+◌, ◌-◌, ◌*◌, ◌/◌, ◌%◌, ◌<◌, ◌≤◌, inl, inr, ◌∙◌, ap, refl, arith, Bool, true, false, List, length, length-set}
use Rattle.std.specs.Prelude.{not, ◌==◌, min, slice_index, slice_set}
use Rattle.std.proofs.lemmas.Bool.{cases_Bool}
use Rattle.std.proofs.lemmas.Bool.Decides.{nat_tests}
use Rattle.std.proofs.lemmas.Nat.{mod-mul-add, div-add-mod', mul-add-lt}
use Rattle.raster_model.specs.declared.tiling.Tiling.{Tiling}
use Rattle.raster_model.specs.MaskView.{MaskView}
use Rattle.raster_model.specs.Masks.{open_at}
use Rattle.raster_model.specs.Tiles.{tile_at}
use Rattle.joined_cells.proofs.ForestLemmas.{hung}
use Rattle.joined_cells.proofs.PixelLemmas.{row_before}
use Rattle.joined_cells.proofs.TileLemmas.{left_joined, upper_already, upper_none}
use Rattle.seam_regions.specs.declared.pieces.Piece.{Piece}
use Rattle.seam_regions.specs.Flood.{HasJoined, IsPiece, IsOpenPiece, tiled}
use Rattle.seam_regions.proofs.TileTests.{one_tile_across, one_tile_along, two_tiles_across, two_tiles_along}

-- ---- pieces of a row
pub begins_next : (x d w n : ℕ) → 0 < d → x % d ≡ 0 → n ≡ min (x + d) w → n < w → n % d ≡ 0
begins_next x d w n p e f l =
    let s = div-add-mod' x d in
    let t : n ≡ (x / d + 1) * d + 0 = omega (arith, s, e, f, l) in
    ap (λ (k : ℕ). k % d) t ∙ mod-mul-add (x / d + 1) d 0 p

pub zero_begins : (d : ℕ) → 0 < d → 0 % d ≡ 0
zero_begins d p = let e : 0 ≡ 0 * d + 0 = omega arith in ap (λ (k : ℕ). k % d) e ∙ mod-mul-add 0 d 0 p

is_zero : (n : ℕ) (b : Bool) → b ≡ (n == 0) → b ≡ true → n ≡ 0
is_zero n b e f = grind (arith, nat_tests)

no_zero : (n : ℕ) (b : Bool) → b ≡ (n == 0) → b ≡ false → 0 < n
no_zero n b e f = grind (arith, nat_tests)

pub not_true : (b : Bool) → not b ≡ true → b ≡ false
not_true true e = cc
not_true false e = refl

pub not_false : (b : Bool) → not b ≡ false → b ≡ true
not_false true e = refl
not_false false e = cc

module _ (g : Tiling) (p : Piece) (is : IsPiece g p) where
  -- a row that is not the first of its tile is not the first of the raster
  pub row_above : p.top ≡ false → 1 ≤ p.y
  row_above e = above p.y is.top
    where
      above : (y : ℕ) → p.top ≡ (y % g.side == 0) → 1 ≤ y
      above zero f = absurd (omega (arith, no_zero (0 % g.side) p.top f e, zero_begins g.side (omega (arith, g.sides))))
      above (suc y) f = omega arith

  -- the first pixel and the one above it
  pub first_above : p.top ≡ false → (n : ℕ) → n ≡ g.width * g.height → (p.y * g.width + p.first - g.width < p.y * g.width + p.first) × (p.y * g.width + p.first < n)
  first_above top n e =
      let b = row_before p.y g.width (row_above top) in
      (omega (arith, b, g.wide), omega (arith, e, mul-add-lt p.y g.width p.first g.height is.row (omega (arith, is.across))))

  module _ (x : ℕ) (last : x ≤ p.last) where
    pub column : x < g.width
    column = omega (arith, is.across, last)

    -- ---- the tiles of its neighbours
    pub tile_left : (y : ℕ) → p.first < x → tile_at g (x - 1) y ≡ tile_at g x y
    tile_left y l =
        let s = div-add-mod' p.first g.side in
        let e : x ≡ p.first / g.side * g.side + (x - p.first) = omega (arith, s, is.begins, l) in
        let r = mod-mul-add (p.first / g.side) g.side (x - p.first) (omega (arith, is.short, l, last)) in
        one_tile_across g (x - 1) x (omega (arith, l)) y column (omega (arith, ap (λ (k : ℕ). k % g.side) e, r, l))

    pub no_tile_left : (y : ℕ) → x ≡ p.first → 1 ≤ x → tile_at g (x - 1) y ≡ tile_at g x y → ⊥
    no_tile_left y e l = two_tiles_across g (x - 1) x (omega (arith, l)) y column (ap (λ (k : ℕ). k % g.side) e ∙ is.begins)

    pub tile_above : p.top ≡ false → tile_at g x (p.y - 1) ≡ tile_at g x p.y
    tile_above top = one_tile_along g (p.y - 1) p.y (omega (arith, row_above top)) x column (no_zero (p.y % g.side) p.top is.top top)

    pub no_tile_above : p.top ≡ true → 1 ≤ p.y → tile_at g x (p.y - 1) ≡ tile_at g x p.y → ⊥
    no_tile_above top l = two_tiles_along g (p.y - 1) p.y (omega (arith, l)) x column (is_zero (p.y % g.side) p.top is.top top)

    -- ---- a pixel of an open piece gets the parent of the pixel before it
    module _ (m : MaskView) (clear : IsOpenPiece m p) (first : p.first < x) (ps : List ℕ) (flood : HasJoined g (open_at m) (2 * (p.y * g.width + x)) ps) where
      own_at : (a : ℕ) → p.first ≤ a → a ≤ p.last → open_at m a p.y ≡ true
      own_at a h k = clear.own a h k

      abbrev qs : List ℕ
      qs = slice_set ps (p.y * g.width + x) (slice_index ps (p.y * g.width + x - 1))

      pub place_inside : p.y * g.width + x < length ps
      place_inside = omega (arith, flood.size, mul-add-lt p.y g.width x g.height is.row column)

      left_half : HasJoined g (open_at m) (2 * (p.y * g.width + x) + 1) qs
      left_half =
          let place = p.y * g.width + x in
          let own = flood.flooded.alone place (omega arith) in
          let less = flood.flooded.least (place - 1) in
          left_joined (tiled g) (open_at m) x p.y column is.row ps flood (omega (arith, first)) (tile_left p.y first) (own_at (x - 1) (omega (arith, first)) (omega (arith, last))) (own_at x (omega (arith, first)) last) qs (length-set ps place (slice_index ps (place - 1)))
          (hung ps flood.root (place - 1) place (omega (arith, first)) place_inside own (omega (arith, less, first)) flood.forest)

      pub open_step : HasJoined g (open_at m) (2 * (p.y * g.width + x) + 1 + 1) qs
      open_step = elim (cases_Bool p.top) [
        | inl top ↦ upper_none (tiled g) (open_at m) x p.y column is.row qs left_half (no_tile_above top)
        | inr below ↦ (
            let up = clear.upper below in
            let tile = tile_above below in
            upper_already (tiled g) (open_at m) x p.y column is.row (omega (arith, first)) (row_above below)
            (tile_left p.y first) tile (tile_left (p.y - 1) first ∙ tile)
            (own_at x (omega (arith, first)) last) (own_at (x - 1) (omega (arith, first)) (omega (arith, last))) (up x (omega (arith, first)) last) (up (x - 1) (omega (arith, first)) (omega (arith, last)))
            qs left_half)
      ]
