use Rattle.std.specs.Prelude.{codes}
use Rattle.text_lines.specs.Parsing.{IsAnyRule}
use Rattle.text_lines.specs.Text.{rule_word}
use Rattle.text_lines.proofs.ParseLemmas.{none_in_front, not_stripped, read_behind, stripped}
use Rattle.text_parts.proofs.parse.rule_of.Goals as goal

pub returns-in_err-strip_prefix : goal.returns-in_err-strip_prefix
returns-in_err-strip_prefix c =
    rw c.from_residual.ensures (none_in_front IsAnyRule rule_word (codes "rule ") c.args.line.now (not_stripped c.args.line.now (codes "rule ") c.in_err-strip_prefix.ensures.cases))

pub returns : goal.returns
returns c =
    read_behind IsAnyRule rule_word (codes "rule ") c.args.line.now c.in_ok-strip_prefix.field-0.now c.rule_of.result (stripped c.args.line.now (codes "rule ") c.in_ok-strip_prefix.field-0 c.in_ok-strip_prefix.ensures.cases) c.rule_of.ensures
