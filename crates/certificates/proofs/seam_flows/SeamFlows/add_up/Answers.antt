use Rattle.std.proofs.Common.{◌≡◌, ℕ, ◌+◌, ◌*◌, ◌∙◌, arith, rules, sym, get_or, pos, length}
use Rattle.std.proofs.lemmas.Int.{ints}
use Rattle.raster_model.proofs.FlowLemmas.{before-none, before-row, before-next}
use Rattle.certificates.specs.FlowWords.{held_raster}
use Rattle.certificates.proofs.FlowSums.{zeros, so_far_none, so_far_more, so_far_row, so_far_all}
use Rattle.certificates.proofs.PassLemmas.{before_past, so_far_past}
use Rattle.certificates.proofs.SeamLemmas.{within_more, few_moves}
use Rattle.certificates.proofs.ZeroFlows.{zero_flows_balance}
use Rattle.certificates.proofs.seam_flows.SeamFlows.add_up.Goals as goal

pub loop-y-init : goal.loop-y-init
loop-y-init c =
    let k = c.args.self.now in
    let z : (v : ℕ) → get_or c.fill.new.self v (pos 0) ≡ pos 0 = zeros c.fill.new.self (length c.args.sums.now) (c.fill.ensures.after (λ y e. search rules)) in
    record {
      counted = before-none (held_raster k);
      few = omega arith;
      so_far = so_far_none k c.args.labels.now c.fill.new.self z;
      sizes = λ v. omega (arith, ints, z v);
    }

pub loop-x-init : goal.loop-x-init
loop-x-init c =
    let k = c.args.self.now in
    let x = c.next_start-x.result in
    let to = c.next_start-x.ensures in
    record {
      within = to.place.1;
      counted = c.loop-y.invariant.counted ∙ sym (before_past (held_raster k) 0 x c.loop-y.y to.passed to.place.0);
      few = omega (arith, c.loop-y.invariant.few);
      so_far = so_far_past k 0 x c.loop-y.y to.passed to.place.0 to.place.1 c.loop-y-test.true c.args.labels.now c.loop-y.sums c.loop-y.invariant.so_far;
      sizes = λ v. (let m = c.loop-y.invariant.sizes v in omega (arith, m));
    }

pub move_flows_from-requires : goal.move_flows_from-requires
move_flows_from-requires c = record {
  start = (c.loop-x-test.true, c.loop-y-test.true, c.loop-x.invariant.counted, c.loop-x.invariant.few);
  fit = c.requires.fit;
  labels = rw (c.loop-x.auto.sums, c.loop-y.auto.sums, c.fill.ensures.len) c.requires.labels;
  small = within_more (4 * (4096 * c.loop-y.y + c.loop-x.x)) 536870912 c.loop-x.sums (few_moves c.args.self.now.scene.now c.loop-x.x c.loop-y.y c.loop-x-test.true c.loop-y-test.true) c.loop-x.invariant.sizes;
}

pub loop-x-preserved : goal.loop-x-preserved
loop-x-preserved c =
    let k = c.args.self.now in
    let x = c.next_start-x-in-loop-x.result in
    let to = c.next_start-x-in-loop-x.ensures in
    record {
      within = to.place.1;
      counted = omega (arith, c.loop-x.invariant.counted, c.seams_from-place.ensures.value, before-next (held_raster k) c.loop-x.x c.loop-y.y, before_past (held_raster k) (c.loop-x.x + 1) x c.loop-y.y to.passed to.place.0);
      few = omega (arith, c.loop-x.invariant.few, c.seams_from-place.ensures.few, to.place.0);
      so_far = so_far_past k (c.loop-x.x + 1) x c.loop-y.y to.passed to.place.0 to.place.1 c.loop-y-test.true c.args.labels.now c.move_flows_from.new.sums (so_far_more k c.args.labels.now c.loop-x.x c.loop-y.y c.loop-x.sums c.move_flows_from.new.sums c.loop-x.invariant.so_far c.move_flows_from.ensures.grown);
      sizes = λ v. (let m = c.move_flows_from.ensures.within (4 * (4096 * c.loop-y.y + c.loop-x.x)) c.loop-x.invariant.sizes v in omega (arith, m, to.place.0));
    }

pub loop-x-smaller : goal.loop-x-smaller
loop-x-smaller c = omega (arith, c.next_start-x-in-loop-x.ensures.place.0, c.loop-x-test.true)

pub loop-y-preserved : goal.loop-y-preserved
loop-y-preserved c =
    let k = c.args.self.now in
    let r = held_raster k in
    let e : c.loop-x.x ≡ r.width = omega (arith, c.loop-x.invariant.within, c.loop-x-test.false) in
    record {
      counted = (rw e at c.loop-x.invariant.counted) ∙ sym (before-row r c.loop-y.y);
      few = omega (arith, c.loop-x.invariant.few);
      so_far = so_far_row k c.args.labels.now c.loop-x.x c.loop-y.y c.loop-x.sums e c.loop-x.invariant.so_far;
      sizes = λ v. (let m = c.loop-x.invariant.sizes v in omega (arith, m, c.loop-x.invariant.within, k.scene.now.wide));
    }

pub returns : goal.returns
returns c v l =
    so_far_all c.args.self.now c.args.labels.now c.loop-y.y c.loop-y.sums (omega arith) c.loop-y.invariant.so_far v l

pub returns-then-are_zeros : goal.returns-then-are_zeros
returns-then-are_zeros c v l =
    zero_flows_balance c.args.self.now (c.are_zeros.ensures c.if-are_zeros.true) c.args.labels.now c.fill.new.self
    (zeros c.fill.new.self (length c.args.sums.now) (c.fill.ensures.after (λ y e. search rules))) v l
