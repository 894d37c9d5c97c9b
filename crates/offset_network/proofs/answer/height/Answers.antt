use Rattle.std.proofs.Common.{pos, slice_index_or}
use Rattle.flow_network.specs.Views.{shape_of}
use Rattle.offset_network.proofs.AnswerLemmas.{region_height}
use Rattle.offset_network.proofs.answer.height.Goals as goal

pub overflow_add-result : goal.overflow_add-result
overflow_add-result c = (region_height (slice_index_or c.args.start.now c.args.region (pos 0)) c.potential.result _ (shape_of c.args.net.now).nodes (c.requires.start.small c.args.region c.requires.region) c.potential.ensures (c.requires.heights c.args.region c.requires.region) c.requires.few).fits

pub returns-clause-value : goal.returns-clause-value
returns-clause-value c = (region_height (slice_index_or c.args.start.now c.args.region (pos 0)) c.potential.result _ (shape_of c.args.net.now).nodes (c.requires.start.small c.args.region c.requires.region) c.potential.ensures (c.requires.heights c.args.region c.requires.region) c.requires.few).value

pub returns-clause-low : goal.returns-clause-low
returns-clause-low c = (region_height (slice_index_or c.args.start.now c.args.region (pos 0)) c.potential.result _ (shape_of c.args.net.now).nodes (c.requires.start.small c.args.region c.requires.region) c.potential.ensures (c.requires.heights c.args.region c.requires.region) c.requires.few).low

pub returns-clause-high : goal.returns-clause-high
returns-clause-high c = (region_height (slice_index_or c.args.start.now c.args.region (pos 0)) c.potential.result _ (shape_of c.args.net.now).nodes (c.requires.start.small c.args.region c.requires.region) c.potential.ensures (c.requires.heights c.args.region c.requires.region) c.requires.few).high
