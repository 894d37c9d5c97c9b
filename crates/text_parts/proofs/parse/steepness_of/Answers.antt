use Rattle.std.proofs.Common.{refl}
use Rattle.std.specs.Prelude.{codes}
use Rattle.raster_model.specs.Limits.{IsSteepness}
use Rattle.text_parts.specs.Text.{steep_line}
use Rattle.text_parts.proofs.ParseLemmas.{labelled}
use Rattle.text_lines.specs.Text.{field_text}
use Rattle.text_parts.proofs.parse.steepness_of.Goals as goal

pub returns : goal.returns
unfolding field_text
returns c = let e = c.labelled_count.ensures in labelled IsSteepness steep_line (codes "steep ") c.args.line.now 1 16 (λ n s. s) (λ n a b. (a, b)) (λ n. refl) c.labelled_count.result e.within e.found e.none
