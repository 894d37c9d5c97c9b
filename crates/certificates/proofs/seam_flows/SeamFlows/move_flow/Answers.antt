use Rattle.std.proofs.Common.{◌+◌, refl, arith}
use Rattle.raster_model.specs.Sums.{end_x, end_y}
use Rattle.certificates.proofs.SeamLemmas.{not_zero, is_zero, is_small, start_open, end_open, label_place, label_below, label_fits, within_more, amounts, negated, moved_grown, none_grown}
use Rattle.certificates.proofs.seam_flows.SeamFlows.move_flow.Goals as goal

pub overflow_mul-end : goal.overflow_mul-end
overflow_mul-end c =
    let k = c.args.self.now in
    let e = c.args.edge in
    (label_fits k c.args.labels.now _ c.requires.labels (end_x e) (end_y e) (end_x e) c.end_y.result refl c.end_y.ensures (end_open k e c.requires.fit c.flow-flow.result c.flow-flow.ensures (not_zero c.flow-flow.result c.if-flow-ne0.true))).0

pub overflow_add-end : goal.overflow_add-end
overflow_add-end c =
    let k = c.args.self.now in
    let e = c.args.edge in
    (label_fits k c.args.labels.now _ c.requires.labels (end_x e) (end_y e) c.end_x.result c.end_y.result c.end_x.ensures c.end_y.ensures (end_open k e c.requires.fit c.flow-flow.result c.flow-flow.ensures (not_zero c.flow-flow.result c.if-flow-ne0.true))).1

pub offset_bounds-labels-end_y : goal.offset_bounds-labels-end_y
offset_bounds-labels-end_y c =
    let k = c.args.self.now in
    let e = c.args.edge in
    (label_fits k c.args.labels.now _ c.requires.labels (end_x e) (end_y e) c.end_x.result c.end_y.result c.end_x.ensures c.end_y.ensures (end_open k e c.requires.fit c.flow-flow.result c.flow-flow.ensures (not_zero c.flow-flow.result c.if-flow-ne0.true))).2

pub bounds-labels-end_y : goal.bounds-labels-end_y
bounds-labels-end_y c =
    let k = c.args.self.now in
    let e = c.args.edge in
    label_place k c.args.labels.now _ c.requires.labels (end_x e) (end_y e) c.end_x.result c.end_y.result c.end_x.ensures c.end_y.ensures (end_open k e c.requires.fit c.flow-flow.result c.flow-flow.ensures (not_zero c.flow-flow.result c.if-flow-ne0.true))

pub overflow_mul-start : goal.overflow_mul-start
overflow_mul-start c =
    let k = c.args.self.now in
    let e = c.args.edge in
    (label_fits k c.args.labels.now _ c.requires.labels e.x e.y e.x e.y refl refl (start_open k e c.requires.fit c.flow-flow.result c.flow-flow.ensures (not_zero c.flow-flow.result c.if-flow-ne0.true))).0

pub overflow_add-start : goal.overflow_add-start
overflow_add-start c =
    let k = c.args.self.now in
    let e = c.args.edge in
    (label_fits k c.args.labels.now _ c.requires.labels e.x e.y e.x e.y refl refl (start_open k e c.requires.fit c.flow-flow.result c.flow-flow.ensures (not_zero c.flow-flow.result c.if-flow-ne0.true))).1

pub offset_bounds-labels-edge : goal.offset_bounds-labels-edge
offset_bounds-labels-edge c =
    let k = c.args.self.now in
    let e = c.args.edge in
    (label_fits k c.args.labels.now _ c.requires.labels e.x e.y e.x e.y refl refl (start_open k e c.requires.fit c.flow-flow.result c.flow-flow.ensures (not_zero c.flow-flow.result c.if-flow-ne0.true))).2

pub bounds-labels-edge : goal.bounds-labels-edge
bounds-labels-edge c =
    let k = c.args.self.now in
    let e = c.args.edge in
    label_place k c.args.labels.now _ c.requires.labels e.x e.y e.x e.y refl refl (start_open k e c.requires.fit c.flow-flow.result c.flow-flow.ensures (not_zero c.flow-flow.result c.if-flow-ne0.true))

pub add_to-requires : goal.add_to-requires
add_to-requires c =
    let k = c.args.self.now in
    let e = c.args.edge in
    record {
      place = label_below k c.args.labels.now _ c.requires.labels (end_x e) (end_y e) c.end_x.result c.end_y.result c.end_x.ensures c.end_y.ensures (end_open k e c.requires.fit c.flow-flow.result c.flow-flow.ensures (not_zero c.flow-flow.result c.if-flow-ne0.true));
      small = within_more 1073741824 2147483648 c.args.sums.now (omega arith) c.requires.small;
      amount = (amounts c.flow-flow.result (is_small k e c.requires.fit c.flow-flow.result c.flow-flow.ensures (not_zero c.flow-flow.result c.if-flow-ne0.true))).1;
    }

pub overflow_sub-flow : goal.overflow_sub-flow
overflow_sub-flow c =
    let small = is_small c.args.self.now c.args.edge c.requires.fit c.flow-flow.result c.flow-flow.ensures (not_zero c.flow-flow.result c.if-flow-ne0.true) in
    (negated c.flow-flow.result small).2

pub add_to-requires-then-flow-ne0 : goal.add_to-requires-then-flow-ne0
add_to-requires-then-flow-ne0 c =
    let k = c.args.self.now in
    let e = c.args.edge in
    record {
      place = rw c.add_to.ensures.grown.same_length (label_below k c.args.labels.now _ c.requires.labels e.x e.y e.x e.y refl refl (start_open k e c.requires.fit c.flow-flow.result c.flow-flow.ensures (not_zero c.flow-flow.result c.if-flow-ne0.true)));
      small = within_more 1073741825 2147483648 c.add_to.new.numbers (omega arith) (c.add_to.ensures.within 1073741824 c.requires.small);
      amount = (negated c.flow-flow.result (is_small k e c.requires.fit c.flow-flow.result c.flow-flow.ensures (not_zero c.flow-flow.result c.if-flow-ne0.true))).1;
    }

pub returns-then-flow-ne0 : goal.returns-then-flow-ne0
returns-then-flow-ne0 c =
    let k = c.args.self.now in
    let z = c.flow-flow.result in
    let n = not_zero z c.if-flow-ne0.true in
    let small = is_small k c.args.edge c.requires.fit z c.flow-flow.ensures n in
    record {
      grown = moved_grown k c.args.labels.now c.args.edge c.requires.fit z c.flow-flow.ensures n c.end_x.result c.end_y.result _ _ c.end_x.ensures c.end_y.ensures (amounts z small).0 (negated z small).0 c.args.sums.now c.add_to.new.numbers c.add_to-then-flow-ne0.new.numbers c.add_to.ensures.grown c.add_to-then-flow-ne0.ensures.grown;
      within = λ n h. within_more (n + 1 + 1) (n + 2) c.add_to-then-flow-ne0.new.numbers (omega arith) (c.add_to-then-flow-ne0.ensures.within (n + 1) (c.add_to.ensures.within n h));
    }

pub returns-else-flow-ne0 : goal.returns-else-flow-ne0
returns-else-flow-ne0 c = record {
  grown = none_grown c.args.self.now c.args.labels.now c.args.edge c.flow-flow.result c.flow-flow.ensures (is_zero c.flow-flow.result (record { sfits = c.flow-flow.type_inv }) c.if-flow-ne0.false) c.args.sums.now;
  within = λ n h. within_more n (n + 2) c.args.sums.now (omega arith) h;
}
