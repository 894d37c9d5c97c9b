-- For callers: a published surface is certified, and the best, and its values are small.
use Rattle.std.proofs.Common.{◌≡◌, ◌≢◌, ℕ, ◌+◌, ◌*◌, ◌<◌, ◌≤◌, ◌^◌, arith, inl, inr, length, refl, subst, sym, Bool, List, Option, Some, None}
use Rattle.std.specs.Prelude.{ℤ, pos, neg_ℤ, ◌+ℤ◌, ◌*ℤ◌, IsTrue, slice_get, slice_index_or, unsigned_abs}
use Rattle.std.proofs.lemmas.Bool.{cases_lt}
use Rattle.std.proofs.lemmas.Int.{ints}
use Rattle.std.proofs.lemmas.List.{get_or_past}
use Rattle.raster_model.specs.declared.scene.Scene.{Scene}
use Rattle.raster_model.specs.Best.{IsBest, IsCertified}
use Rattle.raster_model.specs.Sums.{Field}
use Rattle.raster_model.specs.Tiles.{tile_at, tiles_of}
use Rattle.raster_model.proofs.TileLemmas.{tiles_are_numbered, window_of-pixels}
use Rattle.certificates.specs.declared.results.TileResult.{TileResult}
use Rattle.seam_regions.specs.Offsets.{AreNear}
use Rattle.seam_regions.specs.Regions.{region_label, offset_at}
use Rattle.seam_regions.specs.RegionsView.{RegionsView}
use Rattle.raster_model.proofs.Exact.{lifted_is_congruent}
use Rattle.raster_model.proofs.SeamLeast.{certified_is_best}
use Rattle.certificates.specs.TileSets.{cycles_of, solved_cycles}
use Rattle.surface_snapshots.specs.Parts.{AreGoodTiles, Parts, IsPublished, cycles_in_parts, faces_in, flows_in, open_in, raster_in, surface_in}

pub published_is_certified : (p : Parts) → IsPublished p → IsCertified (raster_in p) (open_in p) (surface_in p) (faces_in p) (flows_in p)
published_is_certified p is = record {
  congruent = lifted_is_congruent (raster_in p) (open_in p) (cycles_in_parts p);
  tiles = is.tiles;
  seams = is.seams;
}

pub published_is_best : (p : Parts) → IsPublished p → IsBest (raster_in p) (open_in p) (surface_in p)
published_is_best p is = certified_is_best (raster_in p) (open_in p) (surface_in p) (faces_in p) (flows_in p) (published_is_certified p is)

-- ---- numbers of a surface are small

near_or_none : (offsets : List ℤ) → AreNear offsets → (v : ℕ) → unsigned_abs (slice_index_or offsets v (pos 0)) ≤ 2 ^ 46
near_or_none offsets near v =
    elim (cases_lt v (length offsets)) [
      | inl below ↦ near v below
      | inr above ↦ rw (get_or_past offsets v (pos 0) above) (omega arith)
    ]

pub offset_small : (v : RegionsView) (offsets : List ℤ) → AreNear offsets → (x y : ℕ) → unsigned_abs (offset_at v offsets x y) ≤ 2 ^ 46
unfolding offset_at
offset_small v offsets near x y = near_or_none offsets near (region_label v x y)

module _ (s : Scene) (mask : Field Bool) (results : List TileResult) (tiles : AreGoodTiles s mask results) (x y : ℕ) (across : x < s.phase.width) (along : y < s.phase.height) (clear : IsTrue (mask x y)) where
  found_small : (found : Option TileResult) → slice_get results (tile_at s.tiling x y) ≡ found → unsigned_abs (cycles_of s found x y) ≤ 8388608
  found_small None there = omega arith
  found_small (Some k) there =
      let l : x < s.tiling.width = omega (arith, across, s.same_width) in
      let h : y < s.tiling.height = omega (arith, along, s.same_height) in
      let own : k.tile ≡ tile_at s.tiling x y = tiles.each.own (tile_at s.tiling x y) k there in
      let below : k.tile < tiles_of s.tiling = subst (λ (t : ℕ). t < tiles_of s.tiling) (sym own) (tiles_are_numbered s.tiling x y l h) in
      (tiles.good (tile_at s.tiling x y) k there).in_range x y (((window_of-pixels s.tiling k.tile below).pixels x y l h).0 (sym own), clear)

  pub solved_small : unsigned_abs (solved_cycles s results x y) ≤ 8388608
  unfolding solved_cycles
  solved_small = found_small (slice_get results (tile_at s.tiling x y)) refl

value_small : (n : ℕ) (a b : ℤ) → n ≤ 65535 → unsigned_abs a ≤ 8388608 → unsigned_abs b ≤ 2 ^ 46 → unsigned_abs (pos n +ℤ pos 65536 *ℤ (a +ℤ b)) < 2 ^ 63
value_small n a b t u v = omega (arith, ints, t, u, v)

pub surface_small : (p : Parts) → AreGoodTiles p.session.scene (open_in p) p.tiles.results → AreNear p.seams.offsets → (x y : ℕ) → x < p.session.scene.phase.width → y < p.session.scene.phase.height → IsTrue (open_in p x y) → unsigned_abs (surface_in p x y) < 2 ^ 63
surface_small p tiles near x y across along clear =
    let below = p.session.scene.phase.below (y * p.session.scene.phase.width + x) in
    let sample : (raster_in p).phase x y ≤ 65535 = omega (arith, below, p.session.scene.cycle) in
    value_small ((raster_in p).phase x y) (solved_cycles p.session.scene p.tiles.results x y) (offset_at p.regions p.seams.offsets x y) sample
    (solved_small p.session.scene (open_in p) p.tiles.results tiles x y across along clear)
    (offset_small p.regions p.seams.offsets near x y)

-- so none is the least number of 64 bits
not_least : (z : ℤ) → unsigned_abs z < 2 ^ 63 → z ≢ neg_ℤ (pos 9223372036854775808)
not_least z small e = omega (arith, ints, small, e)

pub value_is_told : (p : Parts) → AreGoodTiles p.session.scene (open_in p) p.tiles.results → AreNear p.seams.offsets → (x y : ℕ) → x < p.session.scene.phase.width → y < p.session.scene.phase.height → IsTrue (open_in p x y) → surface_in p x y ≢ neg_ℤ (pos 9223372036854775808)
value_is_told p tiles near x y across along clear = not_least (surface_in p x y) (surface_small p tiles near x y across along clear)
