use Rattle.std.proofs.Common.{◌∙◌, ap}
use Rattle.reader_desk.specs.Fronts.{ShelfView}
use Rattle.reader_desk.proofs.Naming.{last_shown, meets}
use Rattle.reader_desk.proofs.shelf.naming.Goals as goal

pub publish_as-stand-requires : goal.publish_as-stand-requires
publish_as-stand-requires g c next is =
    let now = c.args.stand.desk.shown.value in
    meets _ _ now next (ap (λ (f : ShelfView). f.shelf) (is ∙ ap (last_shown now) c.requires))
