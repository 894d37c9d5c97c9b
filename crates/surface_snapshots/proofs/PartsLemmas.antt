-- For callers: parts that agree. Under masks that agree on the raster's pixels, with results of the same cycles, the same offsets and flows are certified.
use Rattle.std.proofs.Common.{◌≡◌, ◌∙◌, ℕ, ◌<◌, sym, ap, ap₂}
use Rattle.std.specs.Prelude.{ℤ, pos, ◌+ℤ◌, ◌*ℤ◌, IsTrue, slice_index_or}
use Rattle.raster_model.specs.declared.session.Session.{Session}
use Rattle.raster_model.specs.MaskView.{MaskView}
use Rattle.raster_model.specs.Masks.{open_at}
use Rattle.raster_model.specs.Raster.{lifted}
use Rattle.raster_model.specs.Scene.{raster_of}
use Rattle.raster_model.specs.Seams.{AreRegions}
use Rattle.certificates.specs.declared.results.SeamResult.{SeamResult}
use Rattle.certificates.specs.declared.verdicts.SeamVerdict.TheVariants.{Good}
use Rattle.certificates.specs.TileSets.{TileSetView, solved_cycles}
use Rattle.seam_regions.specs.Regions.{AreRegionsOf, region_label, offset_at}
use Rattle.seam_regions.specs.RegionsView.{RegionsView}
use Rattle.seam_regions.proofs.CallerLemmas.{regions_of_scene}
use Rattle.raster_model.proofs.MaskAgrees.{regions_too, same_count}
use Rattle.raster_model.proofs.RegionNumbers.{numbers_agree}
use Rattle.surface_snapshots.specs.Parts.{parts_from, shifted_cycles}
use Rattle.surface_snapshots.specs.Verdicts.{IsPartsVerdict}
use Rattle.surface_snapshots.proofs.SameLemmas.{anchored_too, seams_too}

module _ (s : Session) (m n : MaskView) (v w : RegionsView) (ks ls : TileSetView) (seams : SeamResult)
    (same : (x y : ℕ) → x < s.scene.phase.width → y < s.scene.phase.height → open_at m x y ≡ open_at n x y)
    (isv : AreRegionsOf s.scene.tiling m v) (isw : AreRegionsOf s.scene.tiling n w)
    (solved : (x y : ℕ) → x < s.scene.phase.width → y < s.scene.phase.height → solved_cycles s.scene ks.results x y ≡ solved_cycles s.scene ls.results x y) where
  carried : AreRegions (raster_of s.scene) (open_at n) (region_label v) v.count
  carried = regions_too (raster_of s.scene) (open_at m) (open_at n) same (region_label v) v.count (regions_of_scene s.scene m v isv)

  others : AreRegions (raster_of s.scene) (open_at n) (region_label w) w.count
  others = regions_of_scene s.scene n w isw

  count_same : v.count ≡ w.count
  count_same = same_count (raster_of s.scene) (open_at n) (region_label v) v.count (region_label w) w.count carried others

  offset_same : (x y : ℕ) → x < s.scene.phase.width → y < s.scene.phase.height → IsTrue (open_at m x y) → offset_at v seams.offsets.items x y ≡ offset_at w seams.offsets.items x y
  unfolding offset_at
  offset_same x y l h o =
      ap (λ (k : ℕ). slice_index_or seams.offsets.items k (pos 0))
      (numbers_agree (raster_of s.scene) (open_at n) (region_label v) v.count (region_label w) w.count carried others x y (l, h, sym (same x y l h) ∙ o))

  surface_same : (x y : ℕ) → x < s.scene.phase.width → y < s.scene.phase.height → IsTrue (open_at m x y) → lifted (raster_of s.scene) (shifted_cycles s.scene v ks.results seams.offsets.items) x y ≡ lifted (raster_of s.scene) (shifted_cycles s.scene w ls.results seams.offsets.items) x y
  surface_same x y l h o =
      ap₂ (λ (a b : ℤ). pos ((raster_of s.scene).phase x y) +ℤ pos 65536 *ℤ (a +ℤ b)) (solved x y l h) (offset_same x y l h o)

  pub verdict_too : IsPartsVerdict (parts_from s m v ks seams) Good → IsPartsVerdict (parts_from s n w ls seams) Good
  verdict_too good = (
    good.0 ∙ count_same,
    good.1,
    (
      anchored_too (raster_of s.scene) (open_at m) (open_at n) same _ _ surface_same good.2.0,
      seams_too (raster_of s.scene) (open_at m) (open_at n) same _ _ surface_same seams.flows.items good.2.1,
    ),
  )
