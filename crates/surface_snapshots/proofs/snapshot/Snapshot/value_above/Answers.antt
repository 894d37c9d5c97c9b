use Rattle.std.proofs.Common.{◌≡◌, ◌∙◌, ap, of_z, rules, w64}
use Rattle.std.specs.Arc.{arc_value}
use Rattle.std.specs.Prelude.{FitsSigned}
use Rattle.std.proofs.lemmas.Int.{to_z-of_z}
use Rattle.surface_snapshots.specs.Parts.{raster_in}
use Rattle.surface_snapshots.specs.Surfaces.{parts_in}
use Rattle.surface_snapshots.proofs.RowLemmas.{cycles_told, masked_told, none_by_bits, value_told}
use Rattle.surface_snapshots.proofs.snapshot.Snapshot.value_above.Goals as goal

pub level-requires : goal.level-requires
level-requires c =
    let s = arc_value c.args.self.now.surface in
    let plain = to_z-of_z w64 c.args.cycles c.ranges.cycles in
    rw plain (cycles_told (parts_in s) s.together.tiles s.near c.args.x c.args.y c.requires.across c.requires.along c.args.cycles c.requires.cycles (λ e. c.if-cycles-eq-NO_CYCLES.false (ap (of_z w64) e))).2

pub returns-then-cycles-eq-NO_CYCLES : goal.returns-then-cycles-eq-NO_CYCLES
returns-then-cycles-eq-NO_CYCLES c =
    let s = arc_value c.args.self.now.surface in
    let none = none_by_bits c.args.cycles c.ranges.cycles c.if-cycles-eq-NO_CYCLES.true in
    to_z-of_z w64 c.args.masked c.ranges.masked
    ∙ masked_told (parts_in s) s.together.tiles s.near c.args.x c.args.y c.requires.across c.requires.along c.args.masked c.args.cycles c.requires.cycles none

pub returns : goal.returns
returns c =
    let s = arc_value c.args.self.now.surface in
    let p = parts_in s in
    let fits : FitsSigned w64 c.level.result = search rules in
    let plain = to_z-of_z w64 c.args.cycles c.ranges.cycles in
    let sample : c.sample.result ≡ (raster_in p).phase c.args.x c.args.y = rw (c.deref-2.ensures, c.deref.ensures) at c.sample.ensures.value in
    to_z-of_z w64 c.level.result fits
    ∙ (rw (plain, sample) at c.level.ensures.value)
    ∙ value_told p s.together.tiles s.near c.args.x c.args.y c.requires.across c.requires.along c.args.masked c.args.cycles c.requires.cycles (λ e. c.if-cycles-eq-NO_CYCLES.false (ap (of_z w64) e))
