use Rattle.std.proofs.Common.{ℕ, ◌<◌, ◌∙◌, ap, ap₂, arith, subst, sym}
use Rattle.std.specs.Prelude.{◌+ℤ◌}
use Rattle.std.proofs.lemmas.Int.{ints}
use Rattle.flow_network.specs.Views.{shape_of, state_of}
use Rattle.certificates.proofs.Unique.{same_pixel}
use Rattle.seam_regions.specs.Regions.{region_label}
use Rattle.seam_regions.proofs.CallerLemmas.{regions_of_scene}
use Rattle.certificates.specs.TileSets.{solved_cycles}
use Rattle.offset_network.specs.Networks.{raised_height}
use Rattle.offset_network.specs.Starts.{AreStartOffsets}
use Rattle.offset_network.proofs.AnswerLemmas.{height_is}
use Rattle.offset_network.proofs.PlaceLemmas.{has_region}
use Rattle.offset_network.proofs.answer.anchor.Goals as goal

pub height-requires-clause-region : goal.height-requires-clause-region
height-requires-clause-region c =
    let s = c.args.surface.now.scene.now in
    let m = c.args.surface.now.mask.now in
    let v = c.args.regions.now in
    let o = c.in-Some.ensures.found.0 in
    let there = has_region s m v c.in-Some.x c.in-Some.y c.in-Some-region.region c.requires.regions o c.in-Some-region.ensures in
    let label = (regions_of_scene s m v c.requires.regions).labelling.below c.in-Some.x c.in-Some.y o in
    let below : c.in-Some-region.region < (shape_of c.args.net.now).nodes = omega (arith, there, label, c.requires.nodes) in
    below

pub height-requires-clause-few : goal.height-requires-clause-few
height-requires-clause-few c = omega (arith, c.requires.nodes, c.requires.regions.few)

pub height-requires-clause-start : goal.height-requires-clause-start
height-requires-clause-start c = subst (λ (n : ℕ). AreStartOffsets n c.args.start.now) (sym c.requires.nodes) c.requires.start

pub overflow_add-result : goal.overflow_add-result
overflow_add-result c = (height_is c.height.result _ c.at.result c.from.result (shape_of c.args.net.now).nodes c.height.ensures.value c.height.ensures.low c.height.ensures.high (omega (arith, c.requires.nodes, c.requires.regions.few)) c.at.ensures.small c.from.ensures).0

pub returns-clause-value : goal.returns-clause-value
returns-clause-value c = λ x y first. (
    let s = c.args.surface.now.scene.now in
    let m = c.args.surface.now.mask.now in
    let v = c.args.regions.now in
    let o = c.in-Some.ensures.found.0 in
    let there = has_region s m v c.in-Some.x c.in-Some.y c.in-Some-region.region c.requires.regions o c.in-Some-region.ensures in
    let same = same_pixel c.in-Some.x c.in-Some.y x y (λ l. first.1 c.in-Some.x c.in-Some.y o l) (λ l. c.in-Some.ensures.found.1 x y first.0 l) in
    (height_is c.height.result _ c.at.result c.from.result (shape_of c.args.net.now).nodes c.height.ensures.value c.height.ensures.low c.height.ensures.high (omega (arith, c.requires.nodes, c.requires.regions.few)) c.at.ensures.small c.from.ensures).1
    ∙ ap₂ ◌+ℤ◌ (ap (raised_height c.args.start.now (state_of c.args.net.now)) (there ∙ ap₂ (region_label v) same.0 same.1)) (c.at.ensures.value ∙ ap₂ (solved_cycles s c.args.surface.now.tiles.now.results) same.0 same.1))

pub returns-clause-low : goal.returns-clause-low
returns-clause-low c =
    let is = height_is c.height.result _ c.at.result c.from.result (shape_of c.args.net.now).nodes c.height.ensures.value c.height.ensures.low c.height.ensures.high (omega (arith, c.requires.nodes, c.requires.regions.few)) c.at.ensures.small c.from.ensures in
    omega (arith, ints, is.1, c.height.ensures.value, c.height.ensures.low, c.at.ensures.small)

pub returns-clause-high : goal.returns-clause-high
returns-clause-high c =
    let is = height_is c.height.result _ c.at.result c.from.result (shape_of c.args.net.now).nodes c.height.ensures.value c.height.ensures.low c.height.ensures.high (omega (arith, c.requires.nodes, c.requires.regions.few)) c.at.ensures.small c.from.ensures in
    omega (arith, ints, is.1, c.height.ensures.value, c.height.ensures.high, c.at.ensures.small, c.requires.nodes)
