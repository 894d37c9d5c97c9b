use Rattle.std.proofs.Common.{◌≡◌, take, ◌∙◌}
use Rattle.session_script.specs.Text.{mask_row_text}
use Rattle.text_lines.proofs.AddLemmas.{adds_below}
use Rattle.session_script.proofs.write.add_rows.Goals as goal

pub loop-y-preserved : goal.loop-y-preserved
loop-y-preserved g c =
    let m = c.args.mask.now in
    let row : take c.width.result c.fill_row.new.row ≡ mask_row_text m c.loop-y.y = rw c.width.ensures.value c.fill_row.ensures.front in
    record { added = adds_below (mask_row_text m) c.loop-y.y c.loop-y.invariant.added (rw row at c.bytes.ensures); size = c.fill_row.ensures.same ∙ c.loop-y.invariant.size }
