-- The table of the columns' and rows' places, and the tile that it gives a pixel.
use Rattle.std.proofs.Common.{◌≡◌, ℕ, ◌+◌, ◌/◌, ◌%◌, ◌<◌, ◌∙◌, ap, sym, subst, refl, arith, List, [], ◌∷◌, ◌++◌, length, inl, inr}
use Rattle.std.specs.Prelude.{Some, slice_get}
use Rattle.std.proofs.Math.ListN.{get_or}
use Rattle.std.proofs.lemmas.List.{length-append}
use Rattle.std.proofs.lemmas.Nat.{div-mul-add, mod-mul-add}
use Rattle.std.proofs.lemmas.Option.{slice_get_read}
use Rattle.raster_model.specs.declared.tiling.Tiling.{Tiling}
use Rattle.raster_model.specs.Tiles.{IsWindowOf, columns_of_tiles, tile_at, tiles_of, window_of}
use Rattle.raster_model.proofs.TileLemmas.{block_below, tiles_are_numbered, window_of-pixels}
use Rattle.sums_and_lists.proofs.Lists.{last_or_before}
use Rattle.offset_network.specs.declared.places.Place.{Place}
use Rattle.offset_network.specs.declared.places.Spot.{Spot}
use Rattle.offset_network.specs.Places.{ArePlaces, IsSpotOf, tile_place}

-- the places so far: none, and one more
module _ (count side step : ℕ) where
  pub places_none : (places : List Place) → places ≡ [] → ArePlaces count side step 0 places
  places_none places e = record {
    size = ap length e;
    each = λ i p f. absurd (let none = subst (λ (l : List Place). slice_get l i ≡ Some p) e f in cc);
  }

  pub places_more : (n : ℕ) (places : List Place) (p : Place) → p ≡ tile_place count side step n → ArePlaces count side step n places → ArePlaces count side step (n + 1) (places ++ p ∷ [])
  places_more n places p e are = record {
    size = omega (arith, length-append places (p ∷ []), are.size);
    each = λ i q f. elim (last_or_before places p i q f) [
      | inl before ↦ are.each i q before
      | inr last ↦ sym last.1 ∙ e ∙ ap (tile_place count side step) (sym (last.0 ∙ are.size))
    ];
  }

  -- the place that is read
  pub place_read : (n i : ℕ) (places : List Place) (p : Place) → ArePlaces count side step n places → i < n → p ≡ get_or places i p → p ≡ tile_place count side step i
  place_read n i places p are l read = are.each i p (slice_get_read places n i p (sym are.size) l read)

-- the spot that the places of a column and a row make
abbrev pub spot_between : Place → Place → Spot
spot_between column row = record { tile = row.tile + column.tile; window = record { x0 = column.first; y0 = row.first; x1 = column.last; y1 = row.last } }

-- a pixel of a tiling, with the places of its column and its row
module _ (g : Tiling) (x y : ℕ) (across : x < g.width) (along : y < g.height) (column row : Place) (is_column : column ≡ tile_place g.width g.side 1 x) (is_row : row ≡ tile_place g.height g.side (columns_of_tiles g) y) where
  here : row.tile + column.tile ≡ tile_at g x y
  here = rw (is_column, is_row) omega arith

  exists : row.tile + column.tile < tiles_of g
  exists = rw here (tiles_are_numbered g x y across along)

  window_is : (spot_between column row).window ≡ window_of g (row.tile + column.tile)
  unfolding window_of
  window_is =
      let n = columns_of_tiles g in
      let below = block_below x g.width g.side (omega (arith, g.sides)) across in
      let at : tile_at g x y % n ≡ x / g.side = mod-mul-add (y / g.side) n (x / g.side) below in
      let down : tile_at g x y / n ≡ y / g.side = div-mul-add (y / g.side) n (x / g.side) below in
      rw (here, at, down, is_column, is_row) refl

  pub spot_is : IsSpotOf g x y (spot_between column row)
  spot_is = record {
    here = here;
    exists = exists;
    window_is = window_is;
    pixels = subst (IsWindowOf g (row.tile + column.tile)) (sym window_is) (window_of-pixels g (row.tile + column.tile) exists);
  }
