use Rattle.std.proofs.Common.{◌≡◌, ◌∙◌, Some, ap, arith, codes}
use Rattle.clap.proofs.WalkLemmas.{first_value-rows}
use Rattle.clap.specs.Words.{first_of, found_of, rows_of}
use Rattle.insar_words.specs.Asked.{is_named}
use Rattle.insar_words.specs.Forms.{rule_entry}
use Rattle.insar_words.proofs.RequestLemmas.{no_rule}
use Rattle.insar_words.proofs.reading.rule_told.Goals as goal

pub returns-in_default-clause-refused : goal.returns-in_default-clause-refused
returns-in_default-clause-refused c =
    let told : first_of (codes "rule") (rows_of (found_of c.args.found.now)) ≡ Some c.unwrap.result.now = grind (arith, first_value-rows) in
    ap (is_named rule_entry.takes) told ∙ no_rule c.unwrap.result.now c.in_default.not-least c.in_default.not-mean c.in_default.not-product
