use Rattle.std.proofs.Common.{refl}
use Rattle.std.specs.Prelude.{codes}
use Rattle.raster_model.specs.Limits.{IsTileSide}
use Rattle.report_text.specs.Text.{tile_line}
use Rattle.text_parts.proofs.ParseLemmas.{labelled}
use Rattle.text_lines.specs.Text.{field_text}
use Rattle.report_text.proofs.parse.side_of.Goals as goal

pub returns : goal.returns
unfolding field_text
returns c = let e = c.labelled_count.ensures in labelled IsTileSide tile_line (codes "tile ") c.args.line.now 2 128 (λ n s. s) (λ n a b. (a, b)) (λ n. refl) c.labelled_count.result e.within e.found e.none
