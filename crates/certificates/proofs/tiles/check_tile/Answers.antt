use Rattle.std.proofs.Common.{sym, ◌∙◌}
use Rattle.std.proofs.lemmas.Bool.{false≢true}
use Rattle.raster_model.specs.Masks.{open_at}
use Rattle.certificates.specs.declared.verdicts.TileVerdict.TheVariants.{Shape, Range}
use Rattle.certificates.proofs.VerdictLemmas.{cycles_held, ends_inside, tile_known, tile_says, tile_from_faces}
use Rattle.certificates.proofs.tiles.check_tile.Goals as goal

pub returns-then-not-has_shape : goal.returns-then-not-has_shape
returns-then-not-has_shape c =
    tile_says c.args.scene.now (open_at c.args.mask.now) c.args.solved.now Shape
    (λ h. false≢true (sym c.if-not-has_shape.true ∙ c.has_shape.ensures.1 h))

pub invariant_of-heights : goal.invariant_of-heights
invariant_of-heights c =
    cycles_held c.args.scene.now c.args.solved.now c.window-window.result c.deref.result.now c.window-window.ensures.pixels c.window-window.ensures.value c.deref.ensures.value (c.has_shape.ensures.0 c.if-not-has_shape.false)

pub first_outside-requires : goal.first_outside-requires
first_outside-requires c =
    record { inside = ends_inside c.args.scene.now c.args.solved.now.tile c.window-window.result c.args.mask.now.width c.args.mask.now.height c.window-window.ensures.pixels c.requires.same_size }

pub check_faces-requires : goal.check_faces-requires
check_faces-requires c = record {
  same_size = c.requires.same_size;
  exists = c.requires.exists;
  known = λ x y l m e o. tile_known c.args.scene.now c.args.solved.now.tile c.window-window.result c.window-window.ensures.pixels x y l m e;
}

pub returns-in-Some : goal.returns-in-Some
returns-in-Some c =
    tile_says c.args.scene.now (open_at c.args.mask.now) c.args.solved.now (Range c.in-Some.x c.in-Some.y)
    (c.has_shape.ensures.0 c.if-not-has_shape.false, rw (c.window-window.ensures.value, c.deref.ensures.value) at c.in-Some.ensures.found)

pub returns : goal.returns
returns c =
    tile_says c.args.scene.now (open_at c.args.mask.now) c.args.solved.now c.check_faces.result
    (
    tile_from_faces c.args.scene.now (open_at c.args.mask.now) c.args.solved.now c.window-window.result c.deref.result.now c.deref-2.result.now c.check_faces.result c.window-window.ensures.value c.deref.ensures.value c.deref-2.ensures.value
    (c.has_shape.ensures.0 c.if-not-has_shape.false) c.in_default.ensures.none c.check_faces.ensures.verdict
    )
