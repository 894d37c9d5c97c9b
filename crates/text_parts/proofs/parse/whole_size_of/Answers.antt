use Rattle.std.proofs.Common.{sym, ◌∙◌}
use Rattle.text_parts.proofs.LineLemmas.{whole_words}
use Rattle.text_parts.proofs.ParseLemmas.{no_whole}
use Rattle.text_parts.proofs.parse.whole_size_of.Goals as goal

pub returns-in_err-width : goal.returns-in_err-width
returns-in_err-width c = rw c.from_residual.ensures (λ s z e. c.in_err-width.ensures s (whole_words s z) e)

pub returns-else-is_raster_size : goal.returns-else-is_raster_size
returns-else-is_raster_size c =
    λ s z e. no_whole c.args.line.now (c.in_ok-width.width, c.in_ok-width.height) s c.in_ok-width.ensures (sym c.is_raster_size.ensures ∙ c.if-is_raster_size.false) z e
