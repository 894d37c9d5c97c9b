use Rattle.std.proofs.Common.{sym, ◌∙◌}
use Rattle.raster_model.proofs.FlowLemmas.{place-right}
use Rattle.certificates.specs.FlowWords.{held_raster, IsSeamOf, FlowFitsAt, IsSmallAt}
use Rattle.certificates.proofs.EdgeLemmas.{right_first, down_first, both_hold}
use Rattle.certificates.proofs.seam_flows.SeamFlows.first_heavy_from.Goals as goal

pub is_heavy-requires : goal.is_heavy-requires
is_heavy-requires c =
    record { placed = (c.requires.start.0, c.requires.start.1, c.requires.start.2 ∙ sym (place-right (held_raster c.args.self.now) c.args.x c.args.y)) }

pub returns-then-is_heavy-clause-found : goal.returns-then-is_heavy-clause-found
returns-then-is_heavy-clause-found c =
    let k = c.args.self.now in
    right_first (IsSeamOf k) (FlowFitsAt k) c.args.x c.args.y c.if-is_heavy.ensures.cases

pub returns-then-is_heavy-2-clause-found : goal.returns-then-is_heavy-2-clause-found
returns-then-is_heavy-2-clause-found c =
    let k = c.args.self.now in
    down_first (IsSeamOf k) (FlowFitsAt k) c.args.x c.args.y c.if-is_heavy.ensures.cases c.if-is_heavy-2.ensures.cases

pub returns-else-is_heavy-2-clause-none : goal.returns-else-is_heavy-2-clause-none
returns-else-is_heavy-2-clause-none c =
    let k = c.args.self.now in (
      both_hold (IsSeamOf k) (FlowFitsAt k) c.args.x c.args.y c.if-is_heavy.ensures.cases c.if-is_heavy-2.ensures.cases,
      both_hold (IsSeamOf k) (IsSmallAt k) c.args.x c.args.y (c.is_heavy.ensures.small c.if-is_heavy.false) (c.is_heavy-else-is_heavy.ensures.small c.if-is_heavy-2.false),
    )
