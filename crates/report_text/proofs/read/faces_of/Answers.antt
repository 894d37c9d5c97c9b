use Rattle.std.proofs.Common.{◌++◌, ◌∙◌, arith}
use Rattle.std.specs.Prelude.{codes, decimal}
use Rattle.text_lines.specs.Numbers.{numbers_text}
use Rattle.text_lines.proofs.ParseLemmas.{not_stripped, stripped}
use Rattle.report_text.proofs.NumberLemmas.{faces_found, faces_line_is}
use Rattle.report_text.proofs.read.faces_of.Goals as goal

pub returns-in_default : goal.returns-in_default
returns-in_default c = λ faces longs e. not_stripped c.args.line.now (codes "faces ") c.in_default.ensures.cases (decimal c.args.tile ++ numbers_text faces) (e ∙ faces_line_is c.args.tile faces)

pub returns : goal.returns
returns c =
    faces_found c.args.tile c.args.line.now c.in-Some.fields.now c.as_bytes.result.now c.numbers_after.result (omega (arith, c.ranges.tile.fits)) (stripped c.args.line.now (codes "faces ") c.in-Some.fields c.in-Some.ensures.cases) (c.as_bytes.ensures.value ∙ c.format.ensures.text) c.numbers_after.ensures
