-- The command that words are read by, as clap takes it: one level of subcommands, of which one is required.
use Rattle.std.specs.Prelude.{◌==◌, true, false, length, not, List, [], ◌∷◌, ◌++◌, if◌then◌else◌, Option, Some, None, codes, is_some, map, pos}
use Rattle.clap.specs.Words.{App, Rule, Shape, Text, new_app, new_rule, with_rule, with_subcommand}
use Rattle.std.specs.List.{fold}
use Rattle.clap.specs.Simple.{new_shape}
use Rattle.clap.specs.declared.builder.value_parser.ValueParser.{ValueParser}
use Rattle.clap.specs.declared.builder.value_parser.ValueParser.TheVariants.{Signed, String, Unsigned}
use Rattle.insar_words.specs.declared.table.CommandRow.{CommandRow}
use Rattle.insar_words.specs.declared.table.ArgumentRow.{ArgumentRow}
use Rattle.insar_words.specs.Forms.{Argument, CommandForm, Taking, Value, any_number, forms, names, numbers, word_of}

-- clap hands names on as they are; they are tested where they are read
abbrev pub parser_taking : Taking → ValueParser
parser_taking (numbers least most) = Signed (pos least) (pos most)
parser_taking any_number = Unsigned 0 18446744073709551615
parser_taking (names all) = String

abbrev pub default_texts : Option Value → List Text
default_texts None = []
default_texts (Some value) = word_of value ∷ []

-- an argument of one value, which has a default or is required
abbrev pub argument_rule : Option Text → Argument → Rule
argument_rule long argument = record (new_rule argument.id) { long = long; parser = Some (parser_taking argument.takes); defaults = default_texts argument.default; required = not (is_some argument.default) }

-- an option `--name`, and a positional
abbrev pub option_rule : Argument → Rule
option_rule argument = argument_rule (Some argument.id) argument

abbrev pub positional_rule : Argument → Rule
positional_rule argument = argument_rule None argument

-- a command of the table
abbrev pub form_shape : CommandForm → Shape
form_shape form = record (new_shape form.command) { rules = map positional_rule form.positionals ++ map option_rule form.options }

-- ---- the table as the program has it

-- an argument
abbrev pub row_rule : ArgumentRow → Rule
row_rule row = record (new_rule row.name.now) {
  long = if row.is_option then Some row.name.now else None;
  parser = Some row.parser;
  defaults = map (λ text. text.now) row.defaults.now;
  required = length row.defaults.now == 0;
}

-- a command with these arguments more
abbrev pub with_row_rules : App → List ArgumentRow → App
with_row_rules app rows = fold (λ a row. with_rule a (row_rule row)) app rows

-- a command
unfoldable pub row_app : CommandRow → App
row_app row = with_row_rules (new_app row.name.now) row.arguments.now

-- a command with these subcommands more
abbrev pub with_row_apps : App → List CommandRow → App
with_row_apps app rows = fold (λ a row. with_subcommand a (row_app row).top) app rows

-- ---- the stated command

abbrev pub stated : App
stated = record {
  top = record (new_shape (codes "insar")) { is_leaf = false; no_binary_name = true; subcommand_required = true };
  subs = map form_shape forms;
}
