use Rattle.std.proofs.Common.{codes}
use Rattle.clap.specs.Words.{found_of, rows_of}
use Rattle.insar_words.proofs.RequestLemmas.{number_within}
use Rattle.insar_words.proofs.reading.watching_of.Goals as goal

pub solving_settings-requires : goal.solving_settings-requires
solving_settings-requires c = (let has = c.requires in record { options = (has.0, (has.1.0, (has.1.1.0, (has.1.1.1.0, (has.1.1.1.1.0, (has.1.1.1.1.1.0, tt)))))) })

pub invariant_of-result : goal.invariant_of-result
invariant_of-result c =
    let rows = rows_of (found_of c.args.found.now) in
    let has = c.requires in
    record {
      crowd = number_within (codes "readers") 1 8 rows c.number_told-readers.result has.1.1.1.1.1.1.0 c.number_told-readers.ensures;
      looks = number_within (codes "reads") 1 4096 rows c.number_told-reads.result has.1.1.1.1.1.1.1.0 c.number_told-reads.ensures;
    }
