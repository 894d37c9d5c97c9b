use Rattle.std.specs.Prelude.{IfSome, Some}
use Rattle.tile_workers.specs.Scripts.{AgreeIfCurrent}
use Rattle.tile_workers.proofs.EarlyLemmas.{regions_now}
use Rattle.tile_workers.proofs.settling.regions_for.Goals as goal

pub returns-then-early-gathered : goal.returns-then-early-gathered
returns-then-early-gathered c =
    let agree : IfSome (Some c.in-Some.early) (λ e. AgreeIfCurrent e c.args.gathered.now) = rw c.in-Some.is at c.requires in
    regions_now c.in-Some.early c.args.gathered.now (agree c.if-early-gathered.true) c.width-width.ensures.pixels c.width-width-then-early-gathered.ensures.pixels
