use Rattle.std.proofs.Common.{◌≡◌, ◌∙◌, sym, arith, to_z, of_z, length}
use Rattle.std.specs.Int.{w64, w128}
use Rattle.std.proofs.lemmas.Bool.{false≢true}
use Rattle.std.proofs.lemmas.Int.{ints}
use Rattle.raster_model.specs.Flows.{flow_at}
use Rattle.raster_model.specs.Masks.{open_at}
use Rattle.raster_model.specs.Scene.{raster_of}
use Rattle.certificates.specs.declared.verdicts.SeamVerdict.TheVariants.{Good, Shape, Anchor, FlowAtEdge, Unbalanced, CostDiffers}
use Rattle.certificates.specs.SeamVerdicts.{label_at}
use Rattle.certificates.proofs.SeamVerdictLemmas.{good_of_parts, seams_say, region_fits, balanced_of_zeros, least_of_first}
use Rattle.certificates.proofs.seams.check_flows.Goals as goal

pub seam_count-requires : goal.seam_count-requires
seam_count-requires g c = record { side = c.of-ends.ensures }

pub off_anchor-requires : goal.off_anchor-requires
off_anchor-requires g c = record { same_size = c.requires.same_size; known = c.requires.known }

pub invariant_of-seams : goal.invariant_of-seams
invariant_of-seams g c = record {
  same_size = c.requires.same_size;
  same_side = c.of-ends.ensures;
  count = c.if-flows-seam_count.false ∙ c.seam_count.ensures;
}

pub add_up-requires : goal.add_up-requires
add_up-requires g c = record {
  fit = c.in_default-first_heavy.ensures.none;
  labels = (c.requires.regions.0, c.requires.regions.1.labelling.below);
}

pub overflow_cast-result : goal.overflow_cast-result
overflow_cast-result g c =
    region_fits (raster_of c.args.scene.now) (open_at c.args.mask.now) c.args.labels.now (length c.args.scratch.now) c.in-Some-first_other.region c.requires.regions c.type_inv.labels (rw (← c.add_up.auto.sums) c.in-Some-first_other.ensures.found.exists)

pub bound-bound-requires : goal.bound-bound-requires
bound-bound-requires g c = record { fit = c.in_default-first_heavy.ensures.none; known = c.requires.known }

pub seam_cost-cost-requires : goal.seam_cost-cost-requires
seam_cost-cost-requires g c = record {
  side = c.of-ends.ensures;
  same_size = c.requires.same_size;
  known = c.requires.known;
}

pub returns-then-flows-seam_count : goal.returns-then-flows-seam_count
returns-then-flows-seam_count g c =
    let r = raster_of c.args.scene.now in
    seams_say r (open_at c.args.mask.now) (label_at r.width c.args.labels.now) (length c.args.scratch.now) (g.H.Heights.cycles_at c.args.heights.now) c.args.flows.now c.requires.regions.1 Shape
    (λ e. c.if-flows-seam_count.true (e ∙ sym c.seam_count.ensures))

pub returns-in-Some : goal.returns-in-Some
returns-in-Some g c =
    let r = raster_of c.args.scene.now in
    let back : to_z w64 (of_z w64 c.in-Some.cycles) ≡ c.in-Some.cycles = omega (arith, ints) in
    seams_say r (open_at c.args.mask.now) (label_at r.width c.args.labels.now) (length c.args.scratch.now) (g.H.Heights.cycles_at c.args.heights.now) c.args.flows.now c.requires.regions.1 (Anchor (to_z w64 (of_z w64 c.in-Some.cycles)))
    (c.if-flows-seam_count.false ∙ c.seam_count.ensures, rw back c.in-Some.ensures.found)

pub returns-in-Some-first_heavy : goal.returns-in-Some-first_heavy
returns-in-Some-first_heavy g c =
    let r = raster_of c.args.scene.now in
    seams_say r (open_at c.args.mask.now) (label_at r.width c.args.labels.now) (length c.args.scratch.now) (g.H.Heights.cycles_at c.args.heights.now) c.args.flows.now c.requires.regions.1 (FlowAtEdge c.in-Some-first_heavy.edge)
    (c.if-flows-seam_count.false ∙ c.seam_count.ensures, c.in_default.ensures.none, c.in-Some-first_heavy.ensures.found)

pub returns-in-Some-first_other : goal.returns-in-Some-first_other
returns-in-Some-first_other g c =
    let r = raster_of c.args.scene.now in
    seams_say r (open_at c.args.mask.now) (label_at r.width c.args.labels.now) (length c.args.scratch.now) (g.H.Heights.cycles_at c.args.heights.now) c.args.flows.now c.requires.regions.1 (Unbalanced c.in-Some-first_other.region) (
      c.if-flows-seam_count.false ∙ c.seam_count.ensures,
      c.in_default.ensures.none,
      c.in_default-first_heavy.ensures.none.0,
      least_of_first r (open_at c.args.mask.now) (label_at r.width c.args.labels.now) (flow_at r c.args.flows.now) c.add_up.new.sums c.add_up.ensures (length c.args.scratch.now) (sym c.add_up.auto.sums) c.in-Some-first_other.region c.in-Some-first_other.ensures.found,
    )

pub returns-then-is_same : goal.returns-then-is_same
returns-then-is_same g c =
    let r = raster_of c.args.scene.now in
    let back : to_z w128 (of_z w128 c.bound-bound.result) ≡ c.bound-bound.result = omega (arith, ints) in
    let balanced = balanced_of_zeros r (open_at c.args.mask.now) (label_at r.width c.args.labels.now) (flow_at r c.args.flows.now) c.add_up.new.sums c.add_up.ensures (length c.args.scratch.now) (sym c.add_up.auto.sums) c.in_default-first_other.ensures.none in
    seams_say r (open_at c.args.mask.now) (label_at r.width c.args.labels.now) (length c.args.scratch.now) (g.H.Heights.cycles_at c.args.heights.now) c.args.flows.now c.requires.regions.1 Good
    (
    good_of_parts r (open_at c.args.mask.now) (label_at r.width c.args.labels.now) (length c.args.scratch.now) (g.H.Heights.cycles_at c.args.heights.now) c.args.flows.now c.requires.regions.1
    (c.if-flows-seam_count.false ∙ c.seam_count.ensures) c.in_default.ensures.none c.in_default-first_heavy.ensures.none.0 balanced
    (sym c.bound-bound.ensures ∙ sym back ∙ c.is_same.ensures.0 c.if-is_same.true ∙ c.seam_cost-cost.ensures)
    )

pub returns-else-is_same : goal.returns-else-is_same
returns-else-is_same g c =
    let r = raster_of c.args.scene.now in
    let back : to_z w128 (of_z w128 c.bound-bound.result) ≡ c.bound-bound.result = omega (arith, ints) in
    seams_say r (open_at c.args.mask.now) (label_at r.width c.args.labels.now) (length c.args.scratch.now) (g.H.Heights.cycles_at c.args.heights.now) c.args.flows.now c.requires.regions.1 (CostDiffers c.seam_cost-cost.result (to_z w128 (of_z w128 c.bound-bound.result))) (
      c.if-flows-seam_count.false ∙ c.seam_count.ensures,
      c.in_default.ensures.none,
      c.in_default-first_heavy.ensures.none.0,
      balanced_of_zeros r (open_at c.args.mask.now) (label_at r.width c.args.labels.now) (flow_at r c.args.flows.now) c.add_up.new.sums c.add_up.ensures (length c.args.scratch.now) (sym c.add_up.auto.sums) c.in_default-first_other.ensures.none,
      c.seam_cost-cost.ensures,
      back ∙ c.bound-bound.ensures,
      λ e. false≢true (sym c.if-is_same.false ∙ c.is_same.ensures.1 e),
    )
