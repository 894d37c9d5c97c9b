use Rattle.std.proofs.Common.{◌≡◌, ◌∙◌, ap}
use Rattle.std.proofs.lemmas.Result.{IfOk-weaker}
use Rattle.clap.specs.Words.{app_of}
use Rattle.insar_words.specs.Stated.{row_app, with_row_rules}
use Rattle.insar_words.proofs.stated.command_of.Goals as goal

pub returns : goal.returns
unfolding row_app
returns c =
    let row = c.args.row.now in
    IfOk-weaker c.with_arguments.result _ (λ command. app_of command ≡ row_app row) (λ command is. is ∙ ap (λ app. with_row_rules app row.arguments.now) c.new.ensures.app) c.with_arguments.ensures
