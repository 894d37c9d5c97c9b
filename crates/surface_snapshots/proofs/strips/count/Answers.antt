use Rattle.std.proofs.Common.{◌≡◌, ◌+◌, ◌*◌, ℕ, arith, subst, sym}
use Rattle.std.specs.Prelude.{min}
use Rattle.raster_model.specs.Raster.{lifted}
use Rattle.surface_snapshots.specs.declared.strips.Strip.{Strip}
use Rattle.surface_snapshots.specs.Shifted.{cycles_under, open_under, raster_under}
use Rattle.surface_snapshots.specs.Strips.{AreCounted, HasRoom}
use Rattle.surface_snapshots.proofs.CostLemmas.{no_rows}
use Rattle.surface_snapshots.proofs.StripLemmas.{strip_begins, strips_end, strips_fit, strips_more}
use Rattle.surface_snapshots.proofs.strips.count.Goals as goal

pub for_each-requires-clause-accepts : goal.for_each-requires-clause-accepts
for_each-requires-clause-accepts g c κs within place p below is =
    let s = c.args.surface.now in
    let h = s.scene.now.phase.height in
    let w = s.scene.now.phase.width in
    let among = rw c.requires.strips at below in
    (c.requires.mask, (c.requires.rows.1, (strip_begins h c.args.rows place c.requires.rows.0 among, subst (HasRoom c.args.rows w) (sym is) (c.requires.room place p.now below))))

pub loop-place-init : goal.loop-place-init
loop-place-init g c =
    let s = c.args.surface.now in
    let none : 0 ≡ min (0 * c.args.rows) s.scene.now.phase.height = omega arith in
    subst (λ (n : ℕ). AreCounted s 0 n (record { tiles = 0; seams = 0 })) none (no_rows (raster_under s) (open_under s) (lifted (raster_under s) (cycles_under s)) 0)

pub plus-costs-requires-clause-tiles : goal.plus-costs-requires-clause-tiles
plus-costs-requires-clause-tiles g c =
    let s = c.args.surface.now in
    let h = s.scene.now.phase.height in
    let rows = c.args.rows in
    let place = c.loop-place.place in
    let begins = strip_begins h rows place c.requires.rows.0 (rw c.requires.strips at c.loop-place-test.true) in
    let found = (c.for_each.ensures place c.index-strips-place.result c.loop-place-test.true).1 in
    let told : AreCounted s (place * rows) (min ((place + 1) * rows) h) found.after_call.now.costs = found.call in
    let left = subst (λ (t : Strip). AreCounted s (place * rows) (min ((place + 1) * rows) h) t.costs) found.left told in
    (strips_fit s rows place c.loop-place.costs _ begins c.loop-place.invariant left).0

pub plus-costs-requires-clause-seams : goal.plus-costs-requires-clause-seams
plus-costs-requires-clause-seams g c =
    let s = c.args.surface.now in
    let h = s.scene.now.phase.height in
    let rows = c.args.rows in
    let place = c.loop-place.place in
    let begins = strip_begins h rows place c.requires.rows.0 (rw c.requires.strips at c.loop-place-test.true) in
    let found = (c.for_each.ensures place c.index-strips-place.result c.loop-place-test.true).1 in
    let told : AreCounted s (place * rows) (min ((place + 1) * rows) h) found.after_call.now.costs = found.call in
    let left = subst (λ (t : Strip). AreCounted s (place * rows) (min ((place + 1) * rows) h) t.costs) found.left told in
    (strips_fit s rows place c.loop-place.costs _ begins c.loop-place.invariant left).1

pub loop-place-preserved : goal.loop-place-preserved
loop-place-preserved g c =
    let s = c.args.surface.now in
    let h = s.scene.now.phase.height in
    let rows = c.args.rows in
    let place = c.loop-place.place in
    let begins = strip_begins h rows place c.requires.rows.0 (rw c.requires.strips at c.loop-place-test.true) in
    let found = (c.for_each.ensures place c.index-strips-place.result c.loop-place-test.true).1 in
    let told : AreCounted s (place * rows) (min ((place + 1) * rows) h) found.after_call.now.costs = found.call in
    let left = subst (λ (t : Strip). AreCounted s (place * rows) (min ((place + 1) * rows) h) t.costs) found.left told in
    strips_more s rows place c.loop-place.costs _ begins c.loop-place.invariant left c.plus-costs.result c.plus-costs.ensures.tiles c.plus-costs.ensures.seams

pub returns : goal.returns
returns g c =
    let s = c.args.surface.now in
    let h = s.scene.now.phase.height in
    let all : min (c.loop-place.place * c.args.rows) h ≡ h = strips_end h c.args.rows c.loop-place.place c.requires.rows.0 (omega (arith, c.requires.strips, c.loop-place-test.false)) in
    subst (λ (n : ℕ). AreCounted s 0 n c.loop-place.costs) all c.loop-place.invariant
