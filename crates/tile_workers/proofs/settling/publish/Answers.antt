use Rattle.board_desk.proofs.CallerLemmas.{later_called, later_trans}
use Rattle.std.proofs.Common.{◌∙◌, rules, subst, sym}
use Rattle.raster_model.specs.declared.session.Session.{Session}
use Rattle.surface_snapshots.specs.Views.{parts_of}
use Rattle.tile_board.specs.Calls.{IsMadeSurface}
use Rattle.tile_workers.proofs.EarlyLemmas.{agrees, still_early}
use Rattle.tile_workers.proofs.FreshLemmas.{legal_called}
use Rattle.tile_workers.proofs.GatherLemmas.{gathered_there}
use Rattle.tile_workers.proofs.settling.publish.Goals as goal

pub surface_of-requires : goal.surface_of-requires
surface_of-requires g c =
    let s = c.args.desk.now.session in
    let there = gathered_there s c.gather.new.pass c.in_ok-gathered.field-0 c.in-Some.gathered c.in_ok-gathered.ensures.gathered c.in-Some.is in
    let early = still_early s c.args.pass.now c.newest.new.pass c.args.early c.newest.ensures.more.later c.requires.early in
    (search rules, agrees s c.gather.new.pass c.args.early c.in-Some.gathered there (still_early s c.newest.new.pass c.gather.new.pass c.args.early c.gather.ensures.more.later early))

pub publish_made-requires-clause-made : goal.publish_made-requires-clause-made
publish_made-requires-clause-made g c =
    let there = gathered_there c.args.desk.now.session c.gather.new.pass c.in_ok-gathered.field-0 c.in-Some.gathered c.in_ok-gathered.ensures.gathered c.in-Some.is in
    subst (λ (s : Session). IsMadeSurface s (parts_of c.in_ok-surface.surface)) there.session c.in_ok-surface.ensures.made

pub publish_made-requires-clause-mask : goal.publish_made-requires-clause-mask
publish_made-requires-clause-mask g c =
    let there = gathered_there c.args.desk.now.session c.gather.new.pass c.in_ok-gathered.field-0 c.in-Some.gathered c.in_ok-gathered.ensures.gathered c.in-Some.is in
    let made = c.in_ok-surface.ensures in
    rw (made.mask, made.revision) there.mask

pub returns-in-Ok-clause-present : goal.returns-in-Ok-clause-present
returns-in-Ok-clause-present g c =
    let now = rw c.in-Ok.is at c.publish_made.ensures.fresh in
    sym c.in_ok-surface.ensures.revision ∙ now.1

pub returns-in-Ok-clause-legal : goal.returns-in-Ok-clause-legal
returns-in-Ok-clause-legal g c = legal_called c.args.desk.now.session c.gather.new.pass c.publish_made.new.pass _ c.publish_made.ensures.call

pub returns-in-Ok-clause-later : goal.returns-in-Ok-clause-later
returns-in-Ok-clause-later g c =
    later_trans c.args.pass.now c.gather.new.pass c.publish_made.new.pass (later_trans c.args.pass.now c.newest.new.pass c.gather.new.pass c.newest.ensures.more.later c.gather.ensures.more.later) (later_called c.args.desk.now.session c.gather.new.pass c.publish_made.new.pass _ c.publish_made.ensures.call)
