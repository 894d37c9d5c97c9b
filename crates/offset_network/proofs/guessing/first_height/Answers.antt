use Rattle.std.proofs.Common.{◌≡◌, ◌<◌, ◌≤◌, ◌^◌, ◌∙◌, ℕ, ap, ap₂, arith, pos, slice_index_or, length}
use Rattle.std.specs.Option.{unwrap_or}
use Rattle.std.specs.Prelude.{ℤ, ◌+ℤ◌, Option, unsigned_abs}
use Rattle.certificates.proofs.Unique.{same_pixel}
use Rattle.certificates.specs.TileSets.{solved_cycles}
use Rattle.seam_regions.specs.Regions.{offset_at, region_label}
use Rattle.seam_regions.proofs.CallerLemmas.{regions_of_scene}
use Rattle.offset_network.proofs.FairCertificates.{height_is}
use Rattle.offset_network.proofs.PlaceLemmas.{has_region}
use Rattle.offset_network.proofs.guessing.first_height.Goals as goal

pub returns : goal.returns
unfolding offset_at
returns c = λ count near x y first. (
    let s = c.args.surface.now.scene.now in
    let m = c.args.surface.now.mask.now in
    let v = c.args.regions.now in
    let o = c.in-Some.ensures.found.0 in
    let there = has_region s m v c.in-Some.x c.in-Some.y c.in-Some-region.region c.requires.regions o c.in-Some-region.ensures in
    let label = (regions_of_scene s m v c.requires.regions).labelling.below c.in-Some.x c.in-Some.y o in
    let below : c.in-Some-region.region < length c.args.offsets.now = omega (arith, there, label, count) in
    let same = same_pixel c.in-Some.x c.in-Some.y x y (λ l. first.1 c.in-Some.x c.in-Some.y o l) (λ l. c.in-Some.ensures.found.1 x y first.0 l) in
    let read : c.unwrap_or-offset.result ≡ slice_index_or c.args.offsets.now c.in-Some-region.region (pos 0) = c.unwrap_or-offset.ensures ∙ ap (λ (k : Option ℤ). unwrap_or k (pos 0)) c.copied.ensures ∙ c.get.ensures.lookup.4 (omega arith) (pos 0) in
    let small : unsigned_abs c.unwrap_or-offset.result ≤ 2 ^ 46 = rw read (near c.in-Some-region.region below) in
    height_is c.unwrap_or-offset.result c.at.result c.from.result small c.at.ensures.small c.from.ensures
    ∙ ap₂ ◌+ℤ◌ (c.at.ensures.value ∙ ap₂ (solved_cycles s c.args.surface.now.tiles.now.results) same.0 same.1) (read ∙ ap (λ (u : ℕ). slice_index_or c.args.offsets.now u (pos 0)) (there ∙ ap₂ (region_label v) same.0 same.1)))
