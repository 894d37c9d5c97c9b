use Rattle.std.proofs.Common.{◌≡◌, ◌∙◌, ap, sym}
use Rattle.reader_desk.proofs.Adding.{room_moves}
use Rattle.reader_desk.proofs.law.pen_of_next.Goals as goal

pub compare_exchange-found-requires : goal.compare_exchange-found-requires
compare_exchange-found-requires c =
    let h = c.requires.head in
    let offer = c.plain-offer.ensures in
    let pen = c.no_pen-pen.ensures in
    let book : c.again-page.result.book ≡ c.args.head.now.book = ap (λ s. s.book) c.again-page.ensures ∙ sym (ap (λ w. w.book) h) in (
      ap (λ w. w.tracked) h,
      book,
      pen.0 ∙ book,
      offer.0,
      rw (ap (λ w. w.key) h, pen.1, offer.3) (room_moves c.again-page.result.log c.plain-offer.result.ask c.args.count),
    )
