use Rattle.std.proofs.Common.{◌∙◌, arith, w64, SFits}
use Rattle.std.proofs.lemmas.Int.{to_z-of_z}
use Rattle.text_lines.proofs.AddLemmas.{adds_then}
use Rattle.text_lines.proofs.ChainLemmas.{adds_is}
use Rattle.raster_model.specs.Masks.{open_at}
use Rattle.certain_parts.proofs.RowLemmas.{line_first, line_longer}
use Rattle.certain_parts.proofs.rows.LabelRows.add_row.Goals as goal

pub value-requires-clause-across : goal.value-requires-clause-across
value-requires-clause-across g c = omega (arith, c.args.self.now.some)

pub loop-x-init : goal.loop-x-init
loop-x-init g c =
    let s = c.args.self.now in
    let fits : SFits w64 c.value.result = record { sfits = c.value.type_inv } in
    let plain = to_z-of_z w64 c.value.result fits ∙ c.value.ensures in
    record { added = adds_is (rw plain at c.signed.ensures) (line_first s.parts.now (open_at s.mask.now) c.args.y); some = omega arith }

pub loop-x-preserved : goal.loop-x-preserved
loop-x-preserved g c =
    let s = c.args.self.now in
    let i = c.loop-x.invariant in
    let value = c.value-in-loop-x in
    let fits : SFits w64 value.result = record { sfits = value.type_inv } in
    let plain = to_z-of_z w64 value.result fits ∙ value.ensures in
    record {
      added = adds_is (adds_then i.added (rw plain at c.add_signed_field.ensures)) (line_longer s.parts.now (open_at s.mask.now) c.args.y c.loop-x.x (omega (arith, i.some)));
      some = omega (arith, i.some);
    }
