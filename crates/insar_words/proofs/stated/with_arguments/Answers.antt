use Rattle.std.proofs.Common.{◌∙◌, ap, sym}
use Rattle.std.proofs.lemmas.List.{take_all}
use Rattle.std.proofs.lemmas.List.Sums.{fold_more}
use Rattle.clap.specs.Words.{app_of, with_rule}
use Rattle.insar_words.specs.Stated.{row_rule, with_row_rules}
use Rattle.insar_words.proofs.StatedLemmas.{adds_rule}
use Rattle.insar_words.proofs.stated.with_arguments.Goals as goal

pub loop-row-preserved : goal.loop-row-preserved
loop-row-preserved c =
    let at = c.loop-row in
    adds_rule _ _ _ _ _ c.in_ok-command.ensures c.argument_of.ensures.local at.invariant c.argument_of.ensures.rule
    ∙ sym (fold_more (λ a row. with_rule a (row_rule row)) (app_of c.args.bare) c.args.rows.now at.row-index _ c.loop-row-test.true)

pub returns : goal.returns
returns c = c.loop-row.invariant ∙ ap (with_row_rules (app_of c.args.bare)) (take_all c.loop-row.row-index c.args.rows.now c.loop-row-test.false)
