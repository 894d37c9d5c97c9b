use Rattle.std.proofs.Common.{w64}
use Rattle.std.proofs.lemmas.Int.{to_z-of_z}
use Rattle.raster_model.specs.Masks.{open_at}
use Rattle.raster_model.specs.Scene.{raster_of}
use Rattle.certificates.proofs.SeamLemmas.{is_zero, not_zero}
use Rattle.certificates.proofs.SeamVerdictLemmas.{anchored, off_anchor}
use Rattle.certificates.proofs.anchor.off_anchor.Goals as goal

pub returns-then-cycles-eq0 : goal.returns-then-cycles-eq0
returns-then-cycles-eq0 g c =
    let r = raster_of c.args.scene.now in
    record {
      found = tt;
      none = anchored r (open_at c.args.mask.now) (g.H.Heights.cycles_at c.args.heights.now) c.in_ok-x.x c.in_ok-x.y c.cycles-cycles.result c.in_ok-x.ensures.found c.cycles-cycles.ensures.value (is_zero c.cycles-cycles.result (record { sfits = c.cycles-cycles.type_inv }) c.if-cycles-eq0.true);
    }

pub returns-else-cycles-eq0 : goal.returns-else-cycles-eq0
returns-else-cycles-eq0 g c =
    let r = raster_of c.args.scene.now in
    record {
      found = rw (to_z-of_z w64 c.cycles-cycles.result (record { sfits = c.cycles-cycles.type_inv })) (off_anchor r (open_at c.args.mask.now) (g.H.Heights.cycles_at c.args.heights.now) c.in_ok-x.x c.in_ok-x.y c.cycles-cycles.result c.in_ok-x.ensures.found c.cycles-cycles.ensures.value (not_zero c.cycles-cycles.result c.if-cycles-eq0.false));
      none = tt;
    }
