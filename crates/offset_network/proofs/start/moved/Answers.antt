use Rattle.std.proofs.Common.{◌+◌, List, length, subst, sym}
use Rattle.std.specs.Prelude.{Option}
use Rattle.offset_guess.specs.declared.link.Link.{Link}
use Rattle.offset_network.specs.Seams.{JoinRegions}
use Rattle.offset_network.specs.Starts.{AreMovedLinks}
use Rattle.offset_network.proofs.MovedLemmas.{join_more, moved_more}
use Rattle.offset_network.proofs.start.moved.Goals as goal

pub moved_link-requires-clause-fits : goal.moved_link-requires-clause-fits
moved_link-requires-clause-fits c = c.requires.links.each c.loop-link.link-index

pub loop-link-preserved : goal.loop-link-preserved
loop-link-preserved c =
    let links = c.args.links.now in
    let offsets = c.args.offsets.now in
    let i = c.loop-link.link-index in
    let old = c.loop-link.moved.items in
    record {
      moved = subst (AreMovedLinks offsets links (i + 1)) (sym {A = List (Option Link)} c.in_ok-push.ensures.items) (moved_more old c.in-Some.link offsets links i c.in-Some.ensures.value c.loop-link.invariant.moved);
      join = subst (JoinRegions (length offsets)) (sym {A = List (Option Link)} c.in_ok-push.ensures.items) (join_more old c.in-Some.link (length offsets) c.in-Some.ensures.fits c.loop-link.invariant.join);
    }
