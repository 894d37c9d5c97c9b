use Rattle.std.proofs.Common.{◌<◌, ◌≤◌, List, ap, arith, subst}
use Rattle.std.proofs.lemmas.Bool.Decides.{nat_tests}
use mathlib.Core.List.{IsPrefix}
use Rattle.reader_desk.specs.Rules.{Item}
use Rattle.reader_desk.proofs.Beginnings.{longer_begins, shorter_begins, surfaces_begin}
use Rattle.reader_desk.proofs.front.Front.is_longer.Goals as goal

pub returns-clause-longer : goal.returns-clause-longer
returns-clause-longer c t =
    let this : IsPrefix c.self.inside.page.log c.learn.new.self.log = subst (λ (l : List Item). IsPrefix l c.learn.new.self.log) (ap (λ s. s.log) c.again-both.ensures) c.learn.ensures.2 in
    let less : c.other.inside.count < c.self.inside.count = grind (arith, nat_tests, t) in
    rw (← c.self.view_is, ← c.other.view_is) (surfaces_begin _ _ (longer_begins c.self.inside.count c.other.inside.count c.self.inside.page.log c.other.inside.page.log c.learn.new.self.log c.self.invariant.0 c.other.invariant.0 this c.learn.ensures.3 less))

pub returns-clause-shorter : goal.returns-clause-shorter
returns-clause-shorter c t =
    let this : IsPrefix c.self.inside.page.log c.learn.new.self.log = subst (λ (l : List Item). IsPrefix l c.learn.new.self.log) (ap (λ s. s.log) c.again-both.ensures) c.learn.ensures.2 in
    let most : c.self.inside.count ≤ c.other.inside.count = grind (arith, nat_tests, t) in
    rw (← c.self.view_is, ← c.other.view_is) (surfaces_begin _ _ (shorter_begins c.self.inside.count c.other.inside.count c.self.inside.page.log c.other.inside.page.log c.learn.new.self.log c.self.invariant.0 c.other.invariant.0 this c.learn.ensures.3 most))
