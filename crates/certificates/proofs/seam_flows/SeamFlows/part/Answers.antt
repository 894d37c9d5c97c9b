use Rattle.std.proofs.Common.{◌∙◌, w64}
use Rattle.std.proofs.lemmas.Int.{to_z-of_z}
use Rattle.raster_model.specs.Sums.{end_x, end_y}
use Rattle.certificates.proofs.SeamLemmas.{not_zero, is_zero, is_small, is_flow, seam, on_edge, start_open, end_open, part_there, no_part, of_flow, of_departure, flow_product_fits, part_fits}
use Rattle.certificates.proofs.seam_flows.SeamFlows.part.Goals as goal

pub departure-requires : goal.departure-requires
departure-requires g c =
    let k = c.args.self.now in
    let e = c.args.edge in
    let n = not_zero c.flow-flow.result c.if-flow-eq0.false in
    let a = start_open k e c.requires.fit c.flow-flow.result c.flow-flow.ensures n in
    let b = end_open k e c.requires.fit c.flow-flow.result c.flow-flow.ensures n in
    record {
      is_edge = on_edge k e c.requires.fit c.flow-flow.result c.flow-flow.ensures n;
      start = c.requires.known e.x e.y a.0 a.1 a.2;
      end = c.requires.known (end_x e) (end_y e) b.0 b.1 b.2;
    }

pub returns-then-flow-eq0-clause-value : goal.returns-then-flow-eq0-clause-value
returns-then-flow-eq0-clause-value g c =
    no_part c.args.self.now (g.H.Heights.cycles_at c.args.heights.now) c.args.edge c.flow-flow.result c.flow-flow.ensures (is_zero c.flow-flow.result (record { sfits = c.flow-flow.type_inv }) c.if-flow-eq0.true)

pub overflow_mul-product : goal.overflow_mul-product
overflow_mul-product g c =
    let small = is_small c.args.self.now c.args.edge c.requires.fit c.flow-flow.result c.flow-flow.ensures (not_zero c.flow-flow.result c.if-flow-eq0.false) in
    let p = of_flow c.flow-flow.result c.from.result small c.from.ensures in
    let q = of_departure c.departure.result c.from-2.result c.departure.ensures.small c.from-2.ensures in
    (flow_product_fits c.from.result c.from-2.result (rw p small) (rw q c.departure.ensures.small)).2

pub over-requires-clause-fit : goal.over-requires-clause-fit
over-requires-clause-fit g c =
    let k = c.args.self.now in
    let n = not_zero c.flow-flow.result c.if-flow-eq0.false in
    rw (to_z-of_z w64 c.flow-flow.result (record { sfits = c.flow-flow.type_inv }), is_flow k c.args.edge c.requires.fit c.flow-flow.result c.flow-flow.ensures n)
    (c.requires.fit.0 c.args.edge (seam k c.args.edge c.requires.fit c.flow-flow.result c.flow-flow.ensures n))

pub overflow_sub-result : goal.overflow_sub-result
overflow_sub-result g c =
    let small = is_small c.args.self.now c.args.edge c.requires.fit c.flow-flow.result c.flow-flow.ensures (not_zero c.flow-flow.result c.if-flow-eq0.false) in
    let p = of_flow c.flow-flow.result c.from.result small c.from.ensures in
    let q = of_departure c.departure.result c.from-2.result c.departure.ensures.small c.from-2.ensures in
    (part_fits c.flow-flow.result c.departure.result c.from.result c.from-2.result c.from-3.result c.over.result small c.departure.ensures.small p q c.over.ensures.small c.from-3.ensures).2

pub returns-clause-value : goal.returns-clause-value
returns-clause-value g c =
    let k = c.args.self.now in
    let n = not_zero c.flow-flow.result c.if-flow-eq0.false in
    let small = is_small k c.args.edge c.requires.fit c.flow-flow.result c.flow-flow.ensures n in
    let p = of_flow c.flow-flow.result c.from.result small c.from.ensures in
    let q = of_departure c.departure.result c.from-2.result c.departure.ensures.small c.from-2.ensures in
    (part_fits c.flow-flow.result c.departure.result c.from.result c.from-2.result c.from-3.result c.over.result small c.departure.ensures.small p q c.over.ensures.small c.from-3.ensures).0
    ∙ part_there k (g.H.Heights.cycles_at c.args.heights.now) c.args.edge c.requires.fit c.flow-flow.result c.departure.result c.over.result c.flow-flow.ensures n c.departure.ensures.value
    (rw (to_z-of_z w64 c.flow-flow.result (record { sfits = c.flow-flow.type_inv })) at c.over.ensures.value)

pub returns-clause-small : goal.returns-clause-small
returns-clause-small g c =
    let small = is_small c.args.self.now c.args.edge c.requires.fit c.flow-flow.result c.flow-flow.ensures (not_zero c.flow-flow.result c.if-flow-eq0.false) in
    let p = of_flow c.flow-flow.result c.from.result small c.from.ensures in
    let q = of_departure c.departure.result c.from-2.result c.departure.ensures.small c.from-2.ensures in
    let f = part_fits c.flow-flow.result c.departure.result c.from.result c.from-2.result c.from-3.result c.over.result small c.departure.ensures.small p q c.over.ensures.small c.from-3.ensures in
    rw f.0 f.1
