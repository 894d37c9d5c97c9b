use Rattle.std.proofs.Common.{◌≡◌, ℕ, subst, sym, refl, replicate}
use Rattle.std.specs.Prelude.{pos}
use Rattle.std.proofs.lemmas.List.{length-replicate}
use Rattle.offset_network.specs.Lanes.{IsLane, lane_at}
use Rattle.offset_network.proofs.SupplyLemmas.{supplies_start, supplies_next, zeros}
use Rattle.offset_network.proofs.network.supplies.Goals as goal

pub loop-lane-init : goal.loop-lane-init
loop-lane-init c =
    let same : c.in_ok-supplies.supplies.items ≡ replicate c.args.regions (pos 0) = c.in_ok-supplies.ensures.items_if_clones_equal (λ y h. h) in
    rw same (supplies_start c.args.regions c.args.lanes.now (replicate c.args.regions (pos 0)) (length-replicate c.args.regions (pos 0)) (zeros c.args.regions))

pub supply-requires-clause-fits : goal.supply-requires-clause-fits
supply-requires-clause-fits c =
    λ k e. subst (λ (n : ℕ). IsLane n k) (sym c.loop-lane.invariant.count) (c.requires.each c.loop-lane.lane-index k e)

pub loop-lane-preserved : goal.loop-lane-preserved
loop-lane-preserved c =
    supplies_next c.args.regions c.args.lanes.now c.loop-lane.lane-index c.loop-lane.supplies.items _ (lane_at c.args.lanes.now c.loop-lane.lane-index) refl c.loop-lane.invariant c.supply.ensures
