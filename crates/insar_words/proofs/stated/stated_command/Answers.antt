use Rattle.std.proofs.Common.{◌≡◌, ◌∙◌, true, ap, codes, map}
use Rattle.std.proofs.lemmas.Result.{IfOk-weaker}
use Rattle.std.specs.Fmt.{digits}
use Rattle.std.specs.List.{fold}
use Rattle.clap.specs.Words.{App, app_of, new_app, with_subcommand}
use Rattle.clap.specs.Simple.{app_of_fields, on_top}
use Rattle.insar_words.specs.Forms.{forms}
use Rattle.insar_words.specs.Stated.{row_app, form_shape, stated}
use Rattle.insar_words.proofs.stated.stated_command.Goals as goal

-- the command without its subcommands
abbrev bare_top : App
bare_top = on_top (λ s. record s { subcommand_required = true }) (on_top (λ s. record s { no_binary_name = true }) (new_app (codes "insar")))

-- a command with those of the table
abbrev with_all : App → App
with_all app = fold with_subcommand app (map form_shape forms)

pub returns : goal.returns
unfolding digits row_app
returns c =
    let top : app_of c.subcommand_required-top.result ≡ bare_top = ap app_of_fields c.subcommand_required-top.ensures
    ∙ ap (on_top (λ s. record s { subcommand_required = true })) (ap app_of_fields c.no_binary_name.ensures ∙ ap (on_top (λ s. record s { no_binary_name = true })) c.new.ensures.app) in
    IfOk-weaker c.with_commands.result _ (λ command. app_of command ≡ stated) (λ command is. is ∙ ap with_all top) c.with_commands.ensures
