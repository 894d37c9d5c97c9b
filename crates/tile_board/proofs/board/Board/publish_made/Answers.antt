use Rattle.std.proofs.Common.{◌≡◌, ◌∙◌, sym}
use Rattle.std.proofs.lemmas.Result.{on_ok_weaker}
use Rattle.surface_snapshots.specs.Views.{parts_of}
use Rattle.tile_board.specs.Histories.{now_of}
use Rattle.tile_board.proofs.EarlierLemmas.{mask_is_now}
use Rattle.tile_board.proofs.PublishLemmas.{made_publication, made_surface}
use Rattle.tile_board.proofs.board.Board.publish_made.Goals as goal

pub add_surface-requires-clause-surface : goal.add_surface-requires-clause-surface
add_surface-requires-clause-surface c =
    let v = c.args.self.now in
    let p = parts_of c.args.surface in
    let present : p.seams.revision ≡ now_of v.entries = sym c.revision-revision.ensures ∙ c.in_ok-may_publish.ensures.fresh.0.1 in
    made_surface v p c.requires.made (mask_is_now v p.mask p.seams.revision c.requires.mask present) present

pub returns-clause-published : goal.returns-clause-published
returns-clause-published c =
    let v = c.args.self.now in
    let p = parts_of c.args.surface in
    let present : p.seams.revision ≡ now_of v.entries = sym c.revision-revision.ensures ∙ c.in_ok-may_publish.ensures.fresh.0.1 in
    on_ok_weaker c.add_surface.result
    (made_publication v c.add_surface.new.self c.args.analyst c.revision-revision.result p (sym c.revision-revision.ensures) (mask_is_now v p.mask p.seams.revision c.requires.mask present))
    c.add_surface.ensures.added
