use Rattle.std.proofs.Common.{sym, ◌∙◌}
use Rattle.text_parts.proofs.LineLemmas.{tiled_whole}
use Rattle.text_parts.proofs.ParseLemmas.{other_size}
use Rattle.text_parts.proofs.parse.size_of.Goals as goal

pub returns-in_err-width : goal.returns-in_err-width
returns-in_err-width c = rw c.from_residual.ensures (λ s z e. c.in_err-width.ensures s (tiled_whole s z) e)

pub returns-else-is_tiled_size : goal.returns-else-is_tiled_size
returns-else-is_tiled_size c =
    λ s z e. other_size c.args.line.now (c.in_ok-width.width, c.in_ok-width.height) s c.in_ok-width.ensures (sym c.is_tiled_size.ensures ∙ c.if-is_tiled_size.false) z e
