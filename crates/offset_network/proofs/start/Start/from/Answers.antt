use Rattle.std.proofs.Common.{ℕ, refl, subst, length}
use Rattle.offset_network.specs.Links.{AreLinks}
use Rattle.offset_network.specs.Starts.{AreMovedLinks, AreStartOffsets}
use Rattle.offset_network.proofs.MovedLemmas.{from_nothing}
use Rattle.offset_network.proofs.start.Start.from.Goals as goal

pub moved-requires-clause-links : goal.moved-requires-clause-links
moved-requires-clause-links c =
    let small : AreStartOffsets c.args.regions c.args.offsets.items = rw c.deref.ensures.value at (c.if-are_in_range.ensures refl) in
    rw (c.deref-then-are_in_range-2.ensures.value, small.count, c.deref-then-are_in_range.ensures.value) c.requires

pub moved-requires-clause-small : goal.moved-requires-clause-small
moved-requires-clause-small c =
    let small : AreStartOffsets c.args.regions c.args.offsets.items = rw c.deref.ensures.value at (c.if-are_in_range.ensures refl) in
    rw (c.deref-then-are_in_range-2.ensures.value, small.count) small

pub returns-in-Some : goal.returns-in-Some
returns-in-Some c =
    let offsets = c.args.offsets.items in
    let links = c.args.links.items in
    let small : AreStartOffsets c.args.regions offsets = rw c.deref.ensures.value at (c.if-are_in_range.ensures refl) in
    let found : AreLinks (length offsets) c.in-Some.links.items × AreMovedLinks offsets links (length links) c.in-Some.links.items = rw (c.in-Some.is, c.deref-then-are_in_range-2.ensures.value, c.deref-then-are_in_range.ensures.value) at c.in_ok-links.ensures in
    record { small = small; fit = subst (λ (n : ℕ). AreLinks n c.in-Some.links.items) small.count found.0; moved = found.1 }

pub returns : goal.returns
returns c = from_nothing c.args.regions (record { offsets = c.in_ok-offsets.offsets; links = c.args.links }) c.requires (c.in_ok-offsets.ensures.items_if_clones_equal (λ y h. h))
