use Rattle.std.proofs.Common.{◌∙◌, Bool, Some, None, ap, cond, sym}
use Rattle.clap.specs.Words.{Rule, rule_of}
use Rattle.insar_words.specs.Stated.{row_rule}
use Rattle.insar_words.proofs.StatedLemmas.{row_given}
use Rattle.insar_words.proofs.stated.argument_of.Goals as goal

pub returns-then-row-clause-rule : goal.returns-then-row-clause-rule
returns-then-row-clause-rule c =
    let row = c.args.row.now in
    let parser = c.value_parser.ensures.given in
    let given = row_given row c.new.result c.help.result c.value_parser.result c.default_values.result c.required-argument.result row.help c.is_empty.result c.new.ensures.rule c.help.ensures c.value_parser.ensures.others (parser.1 ∙ ap Some parser.2) c.default_values.ensures c.required-argument.ensures c.is_empty.ensures in
    ap rule_of c.long.ensures ∙ ap (λ (r : Rule). let s : Rule = record r { long = Some row.name.now } in s) given
    ∙ ap (λ (b : Bool). let s : Rule = record (row_rule row) { long = cond b (Some row.name.now) None } in s) (sym c.if-row.true)

pub returns-else-row-clause-rule : goal.returns-else-row-clause-rule
returns-else-row-clause-rule c =
    let row = c.args.row.now in
    let parser = c.value_parser.ensures.given in
    let given = row_given row c.new.result c.help.result c.value_parser.result c.default_values.result c.required-argument.result row.help c.is_empty.result c.new.ensures.rule c.help.ensures c.value_parser.ensures.others (parser.1 ∙ ap Some parser.2) c.default_values.ensures c.required-argument.ensures c.is_empty.ensures in
    given ∙ ap (λ (b : Bool). let s : Rule = record (row_rule row) { long = cond b (Some row.name.now) None } in s) (sym c.if-row.false)
