use Rattle.std.proofs.Common.{◌≡◌, ◌∙◌, ◌≤◌, ap, arith, Bool, true, false, refl}
use Rattle.raster_model.specs.Sums.{right_edge}
use Rattle.raster_model.specs.Flows.{is_seam_edge}
use Rattle.raster_model.proofs.FlowLemmas.{place-down}
use Rattle.certificates.specs.FlowWords.{held_raster}
use Rattle.certificates.proofs.seam_flows.SeamFlows.down_place.Goals as goal
use mir.Val.{bool_byte}
use Rattle.sums_and_lists.specs.Sums.{one_if}

byte_is : (b : Bool) → bool_byte b ≡ one_if b
byte_is true = refl
byte_is false = refl

byte_small : (b : Bool) → bool_byte b ≤ 1
byte_small true = omega arith
byte_small false = omega arith

pub overflow_add-result : goal.overflow_add-result
overflow_add-result c =
    let k = c.args.self.now in
    omega (arith, c.from.ensures, c.requires.start, byte_small c.is_seam_edge.result, k.scene.now.tiling.high, k.scene.now.same_height, k.scene.now.tiling.wide, k.scene.now.same_width)

pub returns : goal.returns
returns c =
    let r = held_raster c.args.self.now in
    let added : c.from.result ≡ one_if (is_seam_edge r (right_edge c.args.x c.args.y)) = c.from.ensures ∙ byte_is c.is_seam_edge.result ∙ ap one_if c.is_seam_edge.ensures in
    (c.requires.start.0, c.requires.start.1, omega (arith, c.requires.start.2, added, place-down r c.args.x c.args.y))
