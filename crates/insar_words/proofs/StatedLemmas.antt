-- What a command is after one more argument, and after one more subcommand.
use Rattle.std.proofs.Common.{◌≡◌, ◌∙◌, List, [], ◌∷◌, Bool, Option, Some, None, true, false, ap, ap₂, length, map, refl}
use Rattle.std.specs.Prelude.{◌==◌}
use Rattle.std.specs.Borrow.{Bor}
use Rattle.clap.specs.Words.{AddsArg, AddsSubcommand, App, Rule, Text, app_of, new_app, new_rule, rule_of, with_rule, with_subcommand}
use Rattle.clap.specs.declared.builder.arg.Arg.{Arg}
use Rattle.clap.specs.declared.builder.texts.Texts.TheVariants.{Many}
use Rattle.clap.specs.declared.builder.value_parser.ValueParser.{ValueParser}
use Rattle.clap.specs.declared.builder.command.Command.{Command}
use Rattle.clap.specs.declared.builder.command.Command.TheViews.{out-Command}
use Rattle.insar_words.specs.Stated.{row_app, row_rule, with_row_rules}
use Rattle.insar_words.specs.declared.table.CommandRow.{CommandRow}
use Rattle.insar_words.specs.declared.table.ArgumentRow.{ArgumentRow}
use Rattle.clap.proofs.SimpleLemmas.{is_false}
use Rattle.clap.proofs.WalkLemmas.{both}

pub adds_rule : (old : Command) (a : Arg) (new : Command) (app : App) (rule : Rule) → AddsArg old a new → a.global ≡ false → app_of old ≡ app → rule_of a ≡ rule → app_of new ≡ with_rule app rule
adds_rule old a new app rule added local before is = added.shape local ∙ ap₂ with_rule before is

adds_command : (old sub new : Command) (app made : App) → AddsSubcommand old sub new → app_of old ≡ app → app_of sub ≡ made → made.top.is_plain ≡ true → app_of new ≡ with_subcommand app made.top
adds_command old sub new app made added before is plain =
    let local : (out-Command sub).has_globals ≡ false = is_false _ (both _ _ (both _ _ (both _ _ (ap (λ (a : App). a.top.is_plain) is ∙ plain)).1).1).0 in
    added.shape local ∙ ap₂ with_subcommand before (ap (λ (a : App). a.top) is)

-- the rule of an argument that is made of a row, but for `--name`
pub row_given : (row : ArgumentRow) (new helped parsed held given : Arg) (help : Bor Text) (bare : Bool) → rule_of new ≡ new_rule row.name.now → helped ≡ record new { help = Some help } → parsed ≡ record helped { value_parser = parsed.value_parser }
    → parsed.value_parser ≡ Some row.parser → held ≡ record parsed { default_vals = Many row.defaults } → given ≡ record held { required = bare } → bare ≡ (length row.defaults.now == 0) → rule_of given ≡ record (row_rule row) { long = None }
row_given row new helped parsed held given help bare named helps others parser defaults required is =
    ap rule_of required
    ∙ ap₂ (λ (r : Rule) (b : Bool). let s : Rule = record r { required = b } in s)
    (ap rule_of defaults ∙ ap (λ (r : Rule). let s : Rule = record r { defaults = map (λ text. text.now) row.defaults.now } in s)
    (ap rule_of others ∙ ap₂ (λ (r : Rule) (p : Option ValueParser). let s : Rule = record r { parser = p } in s) (ap rule_of helps ∙ named) parser)) is

-- arguments do not make a command less plain
rows_plain : (app : App) (rows : List ArgumentRow) → (with_row_rules app rows).top.is_plain ≡ app.top.is_plain
rows_plain app [] = refl
rows_plain app (row ∷ rows) = rows_plain (with_rule app (row_rule row)) rows

row_plain : (row : CommandRow) → (row_app row).top.is_plain ≡ true
unfolding row_app
row_plain row = rows_plain (new_app row.name.now) row.arguments.now

pub adds_row : (old sub new : Command) (app : App) (row : CommandRow) → AddsSubcommand old sub new → app_of old ≡ app → app_of sub ≡ row_app row → app_of new ≡ with_subcommand app (row_app row).top
adds_row old sub new app row added before is = adds_command old sub new app (row_app row) added before is (row_plain row)
