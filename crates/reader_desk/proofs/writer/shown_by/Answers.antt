use Rattle.std.proofs.Common.{◌≡◌, ◌∙◌, ap, drop, refl, subst, sym}
use Rattle.left_right.specs.Sides.{view}
use Rattle.reader_desk.specs.Fronts.{ShelfView}
use Rattle.reader_desk.specs.Seats.{NamesShelf}
use Rattle.reader_desk.proofs.Naming.{last_shown, last_wins, meets, names_after}
use Rattle.reader_desk.proofs.writer.shown_by.Goals as goal

pub publish_as-stand-requires : goal.publish_as-stand-requires
publish_as-stand-requires g c next is =
    let stand = c.append.new.self in
    let shown = stand.desk.shown.value in
    let more = drop stand.behind stand.log.items in
    let old = c.args.stand in
    let last : last_shown shown more ≡ c.args.longer = last_wins shown c.args.longer (drop old.behind old.log.items) more c.in-Ok.ensures.pending in
    let same : shown.shelf ≡ c.args.longer.shelf = ap (λ d. d.shown.value.shelf) c.append.ensures.desk ∙ c.requires.shown in
    meets _ _ shown next (ap (λ (f : ShelfView). f.shelf) (is ∙ last) ∙ sym same)

pub returns-in-Ok-clause-names : goal.returns-in-Ok-clause-names
returns-in-Ok-clause-names g c =
    let stand = c.append.new.self in
    let shown = stand.desk.shown.value in
    let more = drop stand.behind stand.log.items in
    let old = c.args.stand in
    let last : last_shown shown more ≡ c.args.longer = last_wins shown c.args.longer (drop old.behind old.log.items) more c.in-Ok.ensures.pending in
    let same : shown.shelf ≡ c.args.longer.shelf = ap (λ d. d.shown.value.shelf) c.append.ensures.desk ∙ c.requires.shown in
    let now = c.publish_as-stand.result.0 in
    let names : NamesShelf c.args.longer.shelf (view stand.desk.place) = subst (λ d. NamesShelf c.args.longer.shelf (view d.place)) (sym c.append.ensures.desk) c.requires.names in
    (names_after c.publish_as-stand.result.1 c.args.longer.shelf (view stand.desk.place) (view now.desk.place) shown now.desk.shown.value c.args.longer more (drop now.behind now.log.items) names same refl last c.publish_as-stand.ensures.values c.publish_as-stand.ensures.rule).0

pub returns-in-Ok-clause-shown : goal.returns-in-Ok-clause-shown
returns-in-Ok-clause-shown g c =
    let stand = c.append.new.self in
    let shown = stand.desk.shown.value in
    let more = drop stand.behind stand.log.items in
    let old = c.args.stand in
    let last : last_shown shown more ≡ c.args.longer = last_wins shown c.args.longer (drop old.behind old.log.items) more c.in-Ok.ensures.pending in
    let same : shown.shelf ≡ c.args.longer.shelf = ap (λ d. d.shown.value.shelf) c.append.ensures.desk ∙ c.requires.shown in
    let now = c.publish_as-stand.result.0 in
    let names : NamesShelf c.args.longer.shelf (view stand.desk.place) = subst (λ d. NamesShelf c.args.longer.shelf (view d.place)) (sym c.append.ensures.desk) c.requires.names in
    (names_after c.publish_as-stand.result.1 c.args.longer.shelf (view stand.desk.place) (view now.desk.place) shown now.desk.shown.value c.args.longer more (drop now.behind now.log.items) names same refl last c.publish_as-stand.ensures.values c.publish_as-stand.ensures.rule).1
