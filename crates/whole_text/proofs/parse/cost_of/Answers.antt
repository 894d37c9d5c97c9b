use Rattle.std.specs.Prelude.{codes}
use Rattle.text_lines.specs.Parsing.{IsWide}
use Rattle.text_lines.specs.Text.{field_text}
use Rattle.text_lines.proofs.ParseLemmas.{none_in_front, not_stripped, read_behind, stripped}
use Rattle.whole_text.proofs.parse.cost_of.Goals as goal

pub returns-in_err-strip_prefix : goal.returns-in_err-strip_prefix
returns-in_err-strip_prefix c =
    rw c.from_residual.ensures (none_in_front IsWide field_text (codes "cost") c.args.line.now (not_stripped c.args.line.now (codes "cost") c.in_err-strip_prefix.ensures.cases))

pub returns : goal.returns
returns c =
    read_behind IsWide field_text (codes "cost") c.args.line.now c.in_ok-strip_prefix.field-0.now c.last_wide.result (stripped c.args.line.now (codes "cost") c.in_ok-strip_prefix.field-0 c.in_ok-strip_prefix.ensures.cases) c.last_wide.ensures
