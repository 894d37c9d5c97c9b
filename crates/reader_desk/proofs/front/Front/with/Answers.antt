use Rattle.std.proofs.Common.{◌≡◌, ◌∙◌, ◌+◌, ◌++◌, ◌∷◌, [], ℕ, List, Some, ap, ap₂, arith, length, sym}
use Rattle.logbook.specs.Pages.{may_write, nib}
use Rattle.reader_desk.specs.Fronts.{ShelfView, shelf_view, surfaces_in}
use Rattle.reader_desk.specs.Rules.{Item, next_nib}
use Rattle.reader_desk.proofs.Adding.{add_moves}
use Rattle.reader_desk.proofs.Beginnings.{last_more, length_more, surfaces_more}
use Rattle.reader_desk.proofs.front.Front.with.Goals as goal

pub compare_exchange-words-requires : goal.compare_exchange-words-requires
compare_exchange-words-requires c =
    let h = c.requires.head in
    let offer = c.plain-offer.ensures in
    let own = ap (λ w. w.book) h in
    let count : length c.args.self.now.surfaces ≡ length c.again-page.result.log =
    sym (ap (λ (v : ShelfView). length v.surfaces) c.self.view_is) ∙ sym c.self.invariant.1 ∙ c.self.invariant.0 ∙ sym (ap (λ s. length s.log) c.again-page.ensures) in (
      ap (λ w. w.tracked) h,
      ap (λ s. s.book) c.again-page.ensures ∙ ap (λ (v : ShelfView). v.shelf) c.self.view_is ∙ sym own,
      c.requires.next.0 ∙ sym own,
      offer.0,
      rw (ap (λ w. w.key) h, c.requires.next.1 ∙ ap next_nib count, offer.1, offer.3) (add_moves c.again-page.result.log (Some c.args.placed)),
    )

pub invariant_of-result : goal.invariant_of-result
invariant_of-result c =
    let own = c.self.inside.page.log in
    let log : c.compare_exchange-words.new.seen.log ≡ own ++ Some c.args.placed ∷ [] = c.compare_exchange-words.ensures.7 ∙ ap₂ (λ (l : List Item) (x : Item). l ++ x ∷ []) (ap (λ s. s.log) c.again-page.ensures) c.plain-offer.ensures.1 in
    rw (log, surfaces_more own c.args.placed) (
      ap (λ (n : ℕ). n + 1) c.self.invariant.0 ∙ sym (length_more own (Some c.args.placed)),
      ap (λ (n : ℕ). n + 1) c.self.invariant.1 ∙ sym (length_more (surfaces_in own) c.args.placed),
      sym (last_more (surfaces_in own) c.args.placed),
    )

pub returns-clause-longer : goal.returns-clause-longer
returns-clause-longer c =
    let own = c.self.inside.page.log in
    let log : c.compare_exchange-words.new.seen.log ≡ own ++ Some c.args.placed ∷ [] = c.compare_exchange-words.ensures.7 ∙ ap₂ (λ (l : List Item) (x : Item). l ++ x ∷ []) (ap (λ s. s.log) c.again-page.ensures) c.plain-offer.ensures.1 in
    ap₂ shelf_view
    (c.compare_exchange-words.ensures.0 ∙ ap (λ s. s.book) c.again-page.ensures ∙ ap (λ (v : ShelfView). v.shelf) c.self.view_is)
    (ap surfaces_in log ∙ surfaces_more own c.args.placed ∙ ap (λ (v : ShelfView). v.surfaces ++ c.args.placed ∷ []) c.self.view_is)

pub returns-clause-next : goal.returns-clause-next
returns-clause-next c =
    let own = c.self.inside.page.log in
    let log : c.compare_exchange-words.new.seen.log ≡ own ++ Some c.args.placed ∷ [] = c.compare_exchange-words.ensures.7 ∙ ap₂ (λ (l : List Item) (x : Item). l ++ x ∷ []) (ap (λ s. s.log) c.again-page.ensures) c.plain-offer.ensures.1 in
    let count : c.self.inside.count + 2 + 1 ≡ length (surfaces_in own ++ c.args.placed ∷ []) + 2 = omega (arith, c.self.invariant.1, length_more (surfaces_in own) c.args.placed) in
    rw (log, surfaces_more own c.args.placed) (
      c.in_ok-after.ensures.0 ∙ sym (c.compare_exchange-words.ensures.0 ∙ ap (λ s. s.book) c.again-page.ensures),
      c.in_ok-after.ensures.1 ∙ ap (λ (n : ℕ). nib may_write n 0) count,
    )
