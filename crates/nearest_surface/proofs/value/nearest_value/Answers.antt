use Rattle.std.proofs.Common.{subst, w64, ◌+ℤ◌, ℤ}
use Rattle.std.proofs.lemmas.Int.{to_z-of_z}
use Rattle.nearest_surface.specs.Nearest.{IsNearest}
use Rattle.nearest_surface.proofs.ValueLemmas.{told}
use Rattle.nearest_surface.proofs.value.nearest_value.Goals as goal

pub returns-in-Ok : goal.returns-in-Ok
returns-in-Ok c =
    let near = subst (λ (z : ℤ). IsNearest c.args.phase z (z +ℤ c.rise_to.result)) (to_z-of_z w64 c.args.given c.ranges.given) c.rise_to.ensures in
    told c.args.phase c.args.given c.from.result c.rise_to.result c.ranges.given c.from.ensures near c.in-Ok.value c.in-Ok.ensures c.if-value.true
