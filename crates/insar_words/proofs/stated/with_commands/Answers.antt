use Rattle.std.proofs.Common.{◌∙◌, ap, sym}
use Rattle.std.proofs.lemmas.List.{take_all}
use Rattle.std.proofs.lemmas.List.Sums.{fold_more}
use Rattle.clap.specs.Words.{app_of, with_subcommand}
use Rattle.insar_words.specs.Stated.{row_app, with_row_apps}
use Rattle.insar_words.proofs.StatedLemmas.{adds_row}
use Rattle.insar_words.proofs.stated.with_commands.Goals as goal

pub loop-row-preserved : goal.loop-row-preserved
loop-row-preserved c =
    let at = c.loop-row in
    adds_row _ _ _ _ _ c.in_ok-command.ensures at.invariant c.in_ok-command_of.ensures
    ∙ sym (fold_more (λ a row. with_subcommand a (row_app row).top) (app_of c.args.top) c.args.rows.now at.row-index _ c.loop-row-test.true)

pub returns : goal.returns
returns c = c.loop-row.invariant ∙ ap (with_row_apps (app_of c.args.top)) (take_all c.loop-row.row-index c.args.rows.now c.loop-row-test.false)
