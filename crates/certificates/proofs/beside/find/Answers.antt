use Rattle.std.proofs.Common.{rules, subst}
use Rattle.certificates.specs.RowWords.{IsFound}
use Rattle.certificates.proofs.RowLemmas.{strip_begins}
use Rattle.certificates.proofs.beside.find.Goals as goal

pub for_each-requires-clause-accepts : goal.for_each-requires-clause-accepts
for_each-requires-clause-accepts g c κs within place p below is =
    let h = c.args.tile.now.sheet.phase.now.height in
    (c.requires.whole, (c.requires.count, (c.requires.known, (c.requires.rows.1, strip_begins h c.args.rows place c.requires.rows.0 (rw c.requires.strips at below)))))

pub returns-clause-found : goal.returns-clause-found
returns-clause-found g c place d below =
    let k = c.args.tile.now in
    let cycles = g.H.Heights.cycles_at c.args.heights.now in
    let found = (c.for_each.ensures place d (search rules)).1 in
    let told : IsFound k cycles c.args.faces.now c.args.rows place found.after_call.now = found.call in
    subst (IsFound k cycles c.args.faces.now c.args.rows place) found.left told
