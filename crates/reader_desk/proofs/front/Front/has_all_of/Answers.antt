use Rattle.std.proofs.Common.{◌≡◌, ◌∙◌, ◌+◌, ◌≤◌, List, ap, arith, length, subst, sym}
use mathlib.Core.List.{IsPrefix}
use Rattle.reader_desk.specs.Fronts.{ShelfView}
use Rattle.reader_desk.specs.Rules.{Item}
use Rattle.reader_desk.proofs.Adding.{look_moves}
use Rattle.reader_desk.proofs.Beginnings.{prefix_length, prefix_of_whole, surfaces_begin}
use Rattle.reader_desk.proofs.front.Front.has_all_of.Goals as goal

pub compare_exchange-words-requires : goal.compare_exchange-words-requires
compare_exchange-words-requires c =
    let h = c.requires.head in
    let offer = c.plain-offer.ensures in
    let own = ap (λ w. w.book) h in
    let both = c.learn.new.self.log in
    let count : length c.args.self.now.surfaces ≡ length c.again-page.result.log =
    sym (ap (λ (v : ShelfView). length v.surfaces) c.self.view_is) ∙ sym c.self.invariant.1 ∙ c.self.invariant.0 ∙ sym (ap (λ s. length s.log) c.again-page.ensures) in
    let most : length c.args.self.now.surfaces ≤ length both = omega (arith, count, prefix_length c.again-page.result.log both c.learn.ensures.2) in (
      ap (λ w. w.tracked) h,
      c.learn.ensures.0 ∙ ap (λ s. s.book) c.again-page.ensures ∙ ap (λ (v : ShelfView). v.shelf) c.self.view_is ∙ sym own,
      c.requires.next.0 ∙ sym own,
      offer.0,
      rw (ap (λ w. w.key) h, c.requires.next.1, offer.3) (look_moves both c.plain-offer.result.ask (length c.args.self.now.surfaces) most),
    )

pub returns-clause-all : goal.returns-clause-all
returns-clause-all c =
    let own = c.self.inside.page.log in
    let other = c.other.inside.page.log in
    let both = c.learn.new.self.log in
    let this : IsPrefix own both = subst (λ (l : List Item). IsPrefix l both) (ap (λ s. s.log) c.again-page.ensures) c.learn.ensures.2 in
    let key : length c.compare_exchange-words.new.seen.log + 2 ≤ length c.args.self.now.surfaces + 2 = rw c.requires.next.1 at c.compare_exchange-words.ensures.7.0 in
    let count : length c.args.self.now.surfaces ≡ length own = sym (ap (λ (v : ShelfView). length v.surfaces) c.self.view_is) ∙ sym c.self.invariant.1 ∙ c.self.invariant.0 in
    let most : length both ≤ length own = omega (arith, key, count, prefix_length both c.compare_exchange-words.new.seen.log c.compare_exchange-words.ensures.6) in
    record {
      same = sym c.requires.shelf;
      begins = rw (← c.self.view_is, ← c.other.view_is) (surfaces_begin other own (prefix_of_whole own other both this c.learn.ensures.3 most));
    }
