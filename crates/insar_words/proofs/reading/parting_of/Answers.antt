use Rattle.std.proofs.Common.{codes}
use Rattle.clap.specs.Words.{found_of, rows_of}
use Rattle.insar_words.proofs.RequestLemmas.{number_within}
use Rattle.insar_words.proofs.reading.parting_of.Goals as goal

pub settings_with-requires-clause-options : goal.settings_with-requires-clause-options
settings_with-requires-clause-options c = (let has = c.requires in (has.0, (has.1.0, (has.1.1.0, (has.1.1.1.0, tt)))))

pub invariant_of-result : goal.invariant_of-result
invariant_of-result c =
    let rows = rows_of (found_of c.args.found.now) in
    let has = c.requires in
    record { large = number_within (codes "least") 1 4194304 rows c.number_told-least.result has.1.1.1.1.1.0 c.number_told-least.ensures }
