use Rattle.std.proofs.Common.{◌∙◌}
use Rattle.certificates.proofs.VerdictLemmas.{shape_tested, shape_missed}
use Rattle.certificates.proofs.tiles.has_shape.Goals as goal

pub returns-then-len-across : goal.returns-then-len-across
returns-then-len-across c =
    shape_tested c.args.scene.now c.args.solved.now c.window-window.result c.window-window.ensures.value c.window-window.ensures.pixels c.len.result (c.len.ensures ∙ c.args.solved.now.cycles.ok.0) c.len-then-len-across.result c.if-len-across.true (c.len-then-len-across.ensures ∙ c.args.solved.now.faces.ok.0)

pub returns-else-len-across : goal.returns-else-len-across
returns-else-len-across c =
    shape_missed c.args.scene.now c.args.solved.now c.window-window.result c.window-window.ensures.value c.window-window.ensures.pixels c.len.result (c.len.ensures ∙ c.args.solved.now.cycles.ok.0) c.if-len-across.false
