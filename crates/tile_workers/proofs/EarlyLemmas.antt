-- Regions that were found early: masks at two points of a history are one if no edit was made between them. And the surface that is made over regions.
use Rattle.std.proofs.Common.{◌≡◌, ◌∙◌, ℕ, ◌+◌, ◌*◌, ◌/◌, ◌%◌, ◌<◌, ap, arith, sym, subst, refl, length, List, Bool, false}
use Rattle.std.specs.Arc.{arc_value}
use Rattle.std.specs.Prelude.{IfOk, IfSome, Option, Some, None, Result, Ok, Err, slice_index_or}
use Rattle.std.proofs.lemmas.List.{ext_get_or}
use Rattle.std.proofs.lemmas.Nat.{div-add-mod'}
use Rattle.std.proofs.Math.Nat.{div-lt_iff_lt-mul, mod-lt}
use mathlib.Core.List.{IsPrefix}
use Rattle.raster_model.specs.declared.session.Session.{Session}
use Rattle.raster_model.specs.Masks.{IsMaskOf}
use Rattle.raster_model.specs.MaskView.{MaskView}
use Rattle.raster_model.specs.Sums.{Field}
use Rattle.raster_model.specs.declared.tiling.Tiling.{Tiling}
use Rattle.seam_regions.specs.Regions.{AreRegionsOf}
use Rattle.seam_regions.specs.RegionsView.{RegionsView}
use Rattle.certificates.specs.declared.results.SeamResult.{SeamResult}
use Rattle.certificates.specs.declared.verdicts.SeamVerdict.TheVariants.{Good}
use Rattle.surface_snapshots.specs.declared.snapshot.Snapshot.{Snapshot}
use Rattle.surface_snapshots.specs.Parts.{IsPublished, Parts, parts_from}
use Rattle.surface_snapshots.specs.Verdicts.{IsPartsVerdict}
use Rattle.surface_snapshots.specs.Views.{parts_of}
use Rattle.tile_workers.specs.Found.{AreFoundOf, regions_found}
use Rattle.tile_board.specs.declared.gathered.Gathered.{Gathered}
use Rattle.tile_board.specs.Histories.{present_mask}
use Rattle.tile_board.proofs.EarlierLemmas.{present_still}
use Rattle.board_desk.specs.Passes.{IsLaterPass, PassView}
use Rattle.board_desk.proofs.Histories.{prefix_trans}
use Rattle.tile_workers.specs.declared.early.EarlyRegions.{EarlyRegions}
use Rattle.tile_workers.specs.declared.early.FoundRegions.{FoundRegions}
use Rattle.tile_workers.specs.declared.early.FoundRegions.TheVariants.{Packed, Plain}
use Rattle.tile_workers.specs.Scripts.{AgreeIfCurrent, AreOfOneMask, HadRegions, HasGathered, IsSurfaceOfGathered}

-- two masks of one size that are open at the same pixels are one
module _ (m n : MaskView) (w h : ℕ) (clear : Field Bool) (wide : 0 < w) (a : IsMaskOf m w h clear) (b : IsMaskOf n w h clear) (count : length m.unmasked ≡ m.width * m.height) (many : length n.unmasked ≡ n.width * n.height) where
  count_there : length m.unmasked ≡ w * h
  count_there = count ∙ rw (a.width, a.height) refl

  many_there : length n.unmasked ≡ w * h
  many_there = many ∙ rw (b.width, b.height) refl

  same_pixel : (x y : ℕ) → x < w → y < h → slice_index_or m.unmasked (y * w + x) false ≡ slice_index_or n.unmasked (y * w + x) false
  same_pixel x y across along =
      let p = a.clear_at x y across along in
      let q = b.clear_at x y across along in
      rw a.width at p ∙ sym (rw b.width at q)

  same_there : (i : ℕ) → i < w * h → slice_index_or m.unmasked i false ≡ slice_index_or n.unmasked i false
  same_there i inside =
      let row : i / w < h = (div-lt_iff_lt-mul {k = w} {x = i} {y = h} wide).1 (omega (arith, inside)) in
      rw (div-add-mod' i w) at (same_pixel (i % w) (i / w) (mod-lt i wide) row)

  pub same_masks : m ≡ n
  same_masks =
      ap (λ (k : ℕ). record { width = k; height = m.height; unmasked = m.unmasked }) (a.width ∙ sym b.width)
      ∙ ap (λ (k : ℕ). record { width = n.width; height = k; unmasked = m.unmasked }) (a.height ∙ sym b.height)
      ∙ ap (λ (l : List Bool). record { width = n.width; height = n.height; unmasked = l })
      (ext_get_or false m.unmasked n.unmasked (count_there ∙ sym many_there) (λ i inside. same_there i (omega (arith, inside, count_there))))

prefix_of : (s : Session) (p q : PassView) (early : EarlyRegions) → IsPrefix p.seen q.seen → HadRegions s p early → HadRegions s q early
prefix_of s p q early upto had = record { earlier = had.earlier; begins = prefix_trans had.earlier p.seen q.seen had.begins upto; mask = had.mask; regions = had.regions }

-- what was found early stays so while the pass sees more
pub still_early : (s : Session) (p q : PassView) (early : Option EarlyRegions) → IsLaterPass p q → IfSome early (HadRegions s p) → IfSome early (HadRegions s q)
still_early s p q None later had = had
still_early s p q (Some early) later had = prefix_of s p q early later.seen had

-- it agrees with what is gathered at the end, if the revision is the same
pub agrees : (s : Session) (p : PassView) (early : Option EarlyRegions) (g : Gathered) → HasGathered s p g → IfSome early (HadRegions s p) → IfSome early (λ e. AgreeIfCurrent e g)
agrees s p None g has had = had
agrees s p (Some early) g has had = λ same. (
    let w = s.scene.phase.width in
    let h = s.scene.phase.height in
    let still = present_still s had.earlier p.seen had.begins (had.mask.revision ∙ same ∙ sym has.mask.revision) in
    let before = subst (IsMaskOf early.present.mask w h) (sym still) had.mask.present in
    let back = sym has.session in
    let clear = present_mask s p.seen in
    record {
      regions = subst (λ (x : Session). AreFoundOf x.scene.tiling early.present.mask early.found) back had.regions;
      clear = clear;
      before = subst (λ (x : Session). IsMaskOf early.present.mask x.scene.phase.width x.scene.phase.height clear) back before;
      now = subst (λ (x : Session). IsMaskOf g.mask x.scene.phase.width x.scene.phase.height clear) back has.mask.present;
    })

-- what was found are regions, packed or not
pub found_regions : (g : Tiling) (m : MaskView) (f : FoundRegions) → AreFoundOf g m f → AreRegionsOf g m (regions_found f)
found_regions g m (Packed packed plan) are = are.regions
found_regions g m (Plain regions) are = are

-- it has the regions of what is gathered
pub regions_now : (early : EarlyRegions) (g : Gathered) → AreOfOneMask early g → length early.present.mask.unmasked ≡ early.present.mask.width * early.present.mask.height → length g.mask.unmasked ≡ g.mask.width * g.mask.height → AreFoundOf (arc_value g.session).scene.tiling g.mask early.found
regions_now early g is count many =
    let s = (arc_value g.session).scene in
    subst (λ (m : MaskView). AreFoundOf s.tiling m early.found) (same_masks early.present.mask g.mask s.phase.width s.phase.height is.clear (omega (arith, s.wide)) is.before is.now count many) is.regions

-- what is made of what is gathered, over regions of its mask and certified, is a surface of it
pub surface_made : {E : Type 0} (g : Gathered) (result : Result Snapshot E) (v : RegionsView) (seams : SeamResult) → AreRegionsOf (arc_value g.session).scene.tiling g.mask v → seams.revision ≡ g.revision → IfOk result (λ made. parts_of made ≡ parts_from (arc_value g.session) g.mask v g.tiles seams) → IfOk result (λ made. IsPartsVerdict (parts_of made) Good) → IfOk result (λ made. IsSurfaceOfGathered g (parts_of made))
surface_made g (Ok made) v seams are same parts good =
    subst (IsSurfaceOfGathered g) (sym parts)
    (record {
      made = record {
        session = refl;
        regions = are;
        tiling = g.tiling;
        tiles = g.good;
        certified = subst IsPublished parts made.published;
        verdict = subst (λ (p : Parts). IsPartsVerdict p Good) parts good;
      };
      mask = refl;
      revision = same;
    })
surface_made g (Err fault) v seams are same parts good = tt
