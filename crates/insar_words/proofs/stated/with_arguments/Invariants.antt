use Rattle.std.proofs.Common.{◌≡◌, take}
use Rattle.clap.specs.Words.{app_of}
use Rattle.insar_words.specs.Stated.{with_row_rules}
use Rattle.insar_words.proofs.stated.with_arguments.Given as goal

abbrev pub invariant-loop-row : goal.invariant-loop-row
invariant-loop-row l = app_of l.command ≡ with_row_rules (app_of l.initial.command) (take l.row-index l.rows)
