use Rattle.std.proofs.Common.{◌≡◌, ◌∙◌, ◌+◌, ◌*◌, ◌++◌, ℕ, List, ap, arith, subst, sym}
use Rattle.std.specs.Prelude.{Option, min, slice_index_or}
use Rattle.std.proofs.lemmas.List.{length-set}
use Rattle.offset_guess.specs.declared.link.Link.{Link}
use Rattle.offset_network.specs.Strips.{AreLinksOfRows, IsFound}
use Rattle.offset_network.proofs.StripLemmas.{found_kept, rows_joined, strip_begins, strips_end}
use Rattle.offset_network.proofs.strips.links_of_strips.Goals as goal

pub loop-place-preserved : goal.loop-place-preserved
loop-place-preserved g c =
    let s = c.args.surface.now in
    let v = c.args.regions.now in
    let rows = c.args.rows in
    let h = s.scene.now.phase.height in
    let place = c.loop-place.place in
    let more = c.in-Some.more.items in
    let begins = strip_begins h rows place c.requires.rows.0 (omega (arith, c.find.ensures.same, c.requires.strips, c.loop-place-test.true)) in
    let d = c.index-strips-place.result in
    let told : IsFound s v rows place (slice_index_or c.loop-place.strips place d) = c.loop-place.invariant.found place d (omega (arith, c.find.ensures.same, c.requires.strips, c.loop-place.invariant.same, c.loop-place-test.true)) in
    let next : AreLinksOfRows s v (place * rows) (min ((place + 1) * rows) h) more = rw (sym c.in-Some.ensures.value) at told in
    let items : c.extend_from_slice.new.self.items ≡ c.loop-place.links.items ++ more = c.in_ok-extend_from_slice.ensures.items ∙ ap (λ (l : List (Option Link)). c.loop-place.links.items ++ l) c.deref.ensures.value in
    record {
      same = length-set c.loop-place.strips place (record { links = c.take.new.self }) ∙ c.loop-place.invariant.same;
      found = rw c.take.ensures.after (found_kept s v rows place c.loop-place.strips c.loop-place.invariant.found);
      joined = subst (AreLinksOfRows s v 0 (min ((place + 1) * rows) h)) (sym items) (rows_joined s v rows place c.loop-place.links.items more begins c.loop-place.invariant.joined next);
    }

pub returns : goal.returns
returns g c =
    let s = c.args.surface.now in
    let h = s.scene.now.phase.height in
    let all : min (c.loop-place.place * c.args.rows) h ≡ h = strips_end h c.args.rows c.loop-place.place c.requires.rows.0 (omega (arith, c.find.ensures.same, c.requires.strips, c.loop-place-test.false)) in
    subst (λ (n : ℕ). AreLinksOfRows s c.args.regions.now 0 n c.loop-place.links.items) all c.loop-place.invariant.joined
