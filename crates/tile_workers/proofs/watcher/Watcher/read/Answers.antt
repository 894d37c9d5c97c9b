use Rattle.std.proofs.Common.{◌∙◌, sym}
use Rattle.tile_workers.proofs.WatchLemmas.{shown_kept, shown_later}
use Rattle.tile_workers.proofs.watcher.Watcher.read.Goals as goal

pub invariant_of-self : goal.invariant_of-self
invariant_of-self c =
    let was = c.self.inside in
    let known = c.look.new.self in
    (c.keep_above.ensures.rises, shown_kept known.surfaces was.revisions.items c.keep_above.new.kept.items c.in-Some.revision (shown_later was.reader known was.revisions.items c.look.ensures c.self.invariant.1) (sym c.known_revision.ensures ∙ c.in-Some.is) c.keep_above.ensures.kept)

pub invariant_of-self-in_default : goal.invariant_of-self-in_default
invariant_of-self-in_default c = (c.self.invariant.0, shown_later c.self.inside.reader c.look.new.self c.self.inside.revisions.items c.look.ensures c.self.invariant.1)
