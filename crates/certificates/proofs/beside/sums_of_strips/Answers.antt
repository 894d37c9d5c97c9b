use Rattle.std.proofs.Common.{◌≡◌, ◌+◌, ◌*◌, ℕ, pos, arith, subst}
use Rattle.std.specs.Prelude.{IfSome, None, Option, min}
use Rattle.certificates.specs.RowWords.{AreSums}
use Rattle.certificates.specs.declared.row_sums.Sums.{Sums}
use Rattle.certificates.proofs.RowLemmas.{no_sums, strip_begins, strips_end, strips_few, strips_joined}
use Rattle.certificates.proofs.beside.sums_of_strips.Goals as goal

pub loop-place-init : goal.loop-place-init
loop-place-init g c =
    let k = c.args.tile.now in
    let cycles = g.H.Heights.cycles_at c.args.heights.now in
    let none : 0 ≡ min (0 * c.args.rows) k.sheet.phase.now.height = omega arith in
    subst (λ (n : ℕ). AreSums k cycles c.args.faces.now 0 n (record { bound = pos 0; cost = 0 })) none (no_sums k cycles c.args.faces.now 0)

pub plus-sums-requires : goal.plus-sums-requires
plus-sums-requires g c =
    let k = c.args.tile.now in
    let cycles = g.H.Heights.cycles_at c.args.heights.now in
    let faces = c.args.faces.now in
    let h = k.sheet.phase.now.height in
    let rows = c.args.rows in
    let place = c.loop-place.place in
    let begins = strip_begins h rows place c.requires.rows.0 (omega (arith, c.find.ensures.same, c.requires.strips, c.loop-place-test.true)) in
    let told = c.find.ensures.found place (record { sums = None }) c.loop-place-test.true in
    let more = subst (λ (o : Option Sums). IfSome o (AreSums k cycles faces (place * rows) (min ((place + 1) * rows) h))) c.in-Some.is told in
    strips_few k cycles faces rows place c.loop-place.sums c.in-Some.more begins c.loop-place.invariant more

pub loop-place-preserved : goal.loop-place-preserved
loop-place-preserved g c =
    let k = c.args.tile.now in
    let cycles = g.H.Heights.cycles_at c.args.heights.now in
    let faces = c.args.faces.now in
    let h = k.sheet.phase.now.height in
    let rows = c.args.rows in
    let place = c.loop-place.place in
    let begins = strip_begins h rows place c.requires.rows.0 (omega (arith, c.find.ensures.same, c.requires.strips, c.loop-place-test.true)) in
    let told = c.find.ensures.found place (record { sums = None }) c.loop-place-test.true in
    let more = subst (λ (o : Option Sums). IfSome o (AreSums k cycles faces (place * rows) (min ((place + 1) * rows) h))) c.in-Some.is told in
    strips_joined k cycles faces rows place c.loop-place.sums c.in-Some.more begins c.loop-place.invariant more c.plus-sums.result c.plus-sums.ensures.bound c.plus-sums.ensures.cost

pub returns : goal.returns
returns g c =
    let k = c.args.tile.now in
    let h = k.sheet.phase.now.height in
    let all : min (c.loop-place.place * c.args.rows) h ≡ h = strips_end h c.args.rows c.loop-place.place c.requires.rows.0 (omega (arith, c.find.ensures.same, c.requires.strips, c.loop-place-test.false)) in
    subst (λ (n : ℕ). AreSums k (g.H.Heights.cycles_at c.args.heights.now) c.args.faces.now 0 n c.loop-place.sums) all c.loop-place.invariant
