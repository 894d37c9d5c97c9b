use Rattle.std.proofs.Common.{◌≡◌, ◌∙◌, ◌+◌, ap, sym, subst, arith, List, length}
use Rattle.std.specs.Prelude.{Option}
use Rattle.raster_model.specs.Masks.{open_at}
use Rattle.raster_model.specs.Scene.{raster_of}
use Rattle.raster_model.proofs.FlowLemmas.{before-next, before-row}
use Rattle.certificates.specs.SeamVerdicts.{IsSeamEdge}
use Rattle.certificates.proofs.EdgeLemmas.{row_more}
use Rattle.certificates.proofs.PassLemmas.{before_past, holds_past}
use Rattle.seam_regions.specs.Regions.{region_label}
use Rattle.offset_guess.specs.declared.link.Link.{Link}
use Rattle.offset_network.specs.Seams.{IsPlacedSince, JoinRegions}
use Rattle.certificates.specs.TileSets.{solved_cycles}
use Rattle.offset_network.proofs.PlaceLemmas.{in_raster, join_none, still_placed}
use Rattle.offset_network.proofs.StripLemmas.{strip_begun, strip_done}
use Rattle.offset_network.proofs.links.strip_links.Goals as goal

pub loop-y-init : goal.loop-y-init
loop-y-init c =
    let k = c.args.surface.now in
    let r = raster_of k.scene.now in
    let none = c.in_ok-links.ensures.0 in
    record {
      counted = (let n = ap length none in omega (arith, n));
      placed = strip_begun r (open_at k.mask.now) (region_label c.args.regions.now) (solved_cycles k.scene.now k.tiles.now.results) c.args.first c.in_ok-links.links.items;
      join = subst (JoinRegions c.args.regions.now.count) (sym {A = List (Option Link)} none) (join_none c.args.regions.now.count);
    }

pub loop-x-init : goal.loop-x-init
loop-x-init c =
    let k = c.args.surface.now in
    let r = raster_of k.scene.now in
    let to = c.next_start-x.ensures in
    record {
      within = to.place.1;
      counted = c.loop-y.invariant.counted ∙ sym (before_past r 0 c.next_start-x.result c.loop-y.y to.passed to.place.0);
      placed = holds_past r 0 c.next_start-x.result c.loop-y.y to.passed to.place.0 (IsPlacedSince r (open_at k.mask.now) (region_label c.args.regions.now) (solved_cycles k.scene.now k.tiles.now.results) c.args.first c.loop-y.links.items) c.loop-y.invariant.placed;
      join = c.loop-y.invariant.join;
    }

pub loop-x-preserved : goal.loop-x-preserved
loop-x-preserved c =
    let k = c.args.surface.now in
    let r = raster_of k.scene.now in
    let added = c.in_ok-push_links_from.ensures in
    let x = c.next_start-x-in-loop-x.result in
    let to = c.next_start-x-in-loop-x.ensures in
    record {
      within = to.place.1;
      counted = omega (arith, c.loop-x.invariant.counted, added.count, before-next r c.loop-x.x c.loop-y.y, before_past r (c.loop-x.x + 1) x c.loop-y.y to.passed to.place.0);
      placed = holds_past r (c.loop-x.x + 1) x c.loop-y.y to.passed to.place.0 (IsPlacedSince r (open_at k.mask.now) (region_label c.args.regions.now) (solved_cycles k.scene.now k.tiles.now.results) c.args.first c.push_links_from.new.links.items)
          (still_placed r (open_at k.mask.now) (region_label c.args.regions.now) c.args.regions.now.count (solved_cycles k.scene.now k.tiles.now.results) c.args.first c.loop-x.x c.loop-y.y c.loop-x.links.items c.push_links_from.new.links.items c.loop-x.invariant.counted added c.loop-x.invariant.placed);
      join = added.join c.loop-x.invariant.join;
    }

pub loop-x-smaller : goal.loop-x-smaller
loop-x-smaller c = omega (arith, c.next_start-x-in-loop-x.ensures.place.0, c.loop-x-test.true)

pub loop-y-preserved : goal.loop-y-preserved
loop-y-preserved c =
    let k = c.args.surface.now in
    let r = raster_of k.scene.now in
    let e : c.loop-x.x ≡ r.width = omega (arith, c.loop-x.invariant.within, c.loop-x-test.false) in
    record {
      counted = (rw e at c.loop-x.invariant.counted) ∙ sym (before-row r c.loop-y.y);
      placed = row_more (IsSeamEdge r) (IsPlacedSince r (open_at k.mask.now) (region_label c.args.regions.now) (solved_cycles k.scene.now k.tiles.now.results) c.args.first c.loop-x.links.items) 0 r.width 0 r.height (in_raster r) c.loop-x.x c.loop-y.y e c.loop-x.invariant.placed;
      join = c.loop-x.invariant.join;
    }

pub returns : goal.returns
returns c =
    let k = c.args.surface.now in
    let r = raster_of k.scene.now in
    let e : c.loop-y.y ≡ c.args.end = omega arith in
    record {
      seams = strip_done r (open_at k.mask.now) (region_label c.args.regions.now) (solved_cycles k.scene.now k.tiles.now.results) c.args.first c.args.end c.loop-y.links.items (rw e at c.loop-y.invariant.counted) (rw e at c.loop-y.invariant.placed);
      join = c.loop-y.invariant.join;
    }
