use Rattle.std.proofs.Common.{rules, subst}
use Rattle.offset_network.specs.Strips.{IsFound}
use Rattle.offset_network.proofs.StripLemmas.{strip_begins}
use Rattle.offset_network.proofs.strips.find.Goals as goal

pub for_each-requires-clause-accepts : goal.for_each-requires-clause-accepts
for_each-requires-clause-accepts g c κs within place p below is =
    let h = c.args.surface.now.scene.now.phase.height in
    (c.requires.regions, (c.requires.rows.1, strip_begins h c.args.rows place c.requires.rows.0 (rw c.requires.strips at below)))

pub returns-clause-found : goal.returns-clause-found
returns-clause-found g c place d below =
    let s = c.args.surface.now in
    let v = c.args.regions.now in
    let found = (c.for_each.ensures place d (search rules)).1 in
    let told : IsFound s v c.args.rows place found.after_call.now = found.call in
    subst (IsFound s v c.args.rows place) found.left told
