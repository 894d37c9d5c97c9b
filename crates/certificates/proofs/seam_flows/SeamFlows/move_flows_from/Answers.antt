use Rattle.std.proofs.Common.{◌+◌, ◌∙◌, arith, sym}
use Rattle.raster_model.proofs.FlowLemmas.{place-right}
use Rattle.certificates.specs.FlowWords.{held_raster}
use Rattle.certificates.proofs.FlowSums.{moved_both}
use Rattle.certificates.proofs.SeamLemmas.{within_more}
use Rattle.certificates.proofs.seam_flows.SeamFlows.move_flows_from.Goals as goal

pub move_flow-requires : goal.move_flow-requires
move_flow-requires c = record {
  placed = (c.requires.start.0, c.requires.start.1, c.requires.start.2 ∙ sym (place-right (held_raster c.args.self.now) c.args.x c.args.y));
  fit = c.requires.fit;
  labels = c.requires.labels;
  small = within_more 536870912 1073741824 c.args.sums.now (omega arith) c.requires.small;
}

pub move_flow-requires-2 : goal.move_flow-requires-2
move_flow-requires-2 c = record {
  placed = c.down_place-next.ensures;
  fit = c.requires.fit;
  labels = rw c.move_flow.ensures.grown.same_length c.requires.labels;
  small = within_more 536870914 1073741824 c.move_flow.new.sums (omega arith) (c.move_flow.ensures.within 536870912 c.requires.small);
}

pub returns : goal.returns
returns c = record {
  grown = moved_both c.args.self.now c.args.labels.now c.args.x c.args.y c.requires.start.0 c.requires.start.1 _ _ _ c.move_flow.ensures.grown c.move_flow-2.ensures.grown;
  within = λ n h. within_more (n + 2 + 2) (n + 4) c.move_flow-2.new.sums (omega arith) (c.move_flow-2.ensures.within (n + 2) (c.move_flow.ensures.within n h));
}
