use Rattle.std.proofs.Common.{◌≡◌, ◌∙◌, ◌-◌, Some, None, length, sym, ap}
use Rattle.std.specs.Prelude.{option_copied, slice_get}
use Rattle.surface_snapshots.specs.Views.{parts_of}
use Rattle.tile_board.proofs.NewestSurface.{newest_is, some_newest}
use Rattle.answer_lines.proofs.SummaryLemmas.{first_published, least_cost}
use Rattle.answer_lines.proofs.trials.newest_cost.Goals as goal

pub unreachable-requires : goal.unreachable-requires
unreachable-requires c =
    let b = c.args.board.now in
    let at : slice_get c.snapshots.result.now (length c.snapshots.result.now - 1) ≡ None = sym c.last.ensures.value ∙ ap option_copied c.in-None.is in
    let published = first_published b.session b.entries c.requires.scripts c.snapshots.ensures.board.legal c.requires.complete in
    some_newest b c.snapshots.result.now c.snapshots.ensures.value c.snapshots.ensures.board 0 published at

pub returns : goal.returns
returns c =
    let b = c.args.board.now in
    let n = c.in-Some.newest.now in
    let at : slice_get c.snapshots.result.now (length c.snapshots.result.now - 1) ≡ Some n = sym c.last.ensures.value ∙ ap option_copied c.in-Some.is in
    let published = first_published b.session b.entries c.requires.scripts c.snapshots.ensures.board.legal c.requires.complete in
    let is = newest_is b c.snapshots.result.now c.snapshots.ensures.value c.snapshots.ensures.board 0 published n at in
    least_cost b.session b.entries (parts_of n) is.0 is.1 c.tile_cost.result c.tile_cost.ensures
