use Rattle.std.proofs.Common.{ℕ, ◌+◌, subst, sym, refl, List}
use Rattle.std.specs.Prelude.{Option}
use Rattle.offset_network.specs.declared.lane.Lane.{Lane}
use Rattle.offset_network.specs.Links.{link_at}
use Rattle.offset_network.specs.Lanes.{AreLanesOf, IsLaneIn, lane_at}
use Rattle.offset_network.proofs.LaneListLemmas.{all_fit, lanes_more}
use Rattle.offset_network.proofs.lanes.lanes.Goals as goal

pub push_lanes-requires-clause-small : goal.push_lanes-requires-clause-small
push_lanes-requires-clause-small c = λ k e. (let is = c.requires.links.each c.loop-link.link-index k e in (is.weight, is.departure))

pub loop-link-preserved : goal.loop-link-preserved
loop-link-preserved c =
    let links = c.args.links.now in
    let i = c.loop-link.link-index in
    let old = c.loop-link.lanes.items in
    record {
      lanes = subst (AreLanesOf c.args.steep links (i + 1)) (sym {A = List (Option Lane)} c.in_ok-push_lanes.ensures) (lanes_more c.args.steep c.args.regions (link_at links i) old links i refl c.loop-link.invariant.lanes);
      fit = subst (λ (zs : List (Option Lane)). (k : ℕ) → IsLaneIn c.args.regions (lane_at zs k)) (sym {A = List (Option Lane)} c.in_ok-push_lanes.ensures) (all_fit c.args.steep c.args.regions (link_at links i) old c.requires.steepness.1 (c.requires.links.each i) c.loop-link.invariant.fit);
    }
