use Rattle.std.proofs.Common.{codes, rules}
use Rattle.clap.specs.Words.{found_of, rows_of}
use Rattle.insar_words.proofs.RequestLemmas.{number_within}
use Rattle.insar_words.proofs.reading.trial_of.Goals as goal

pub invariant_of-result : goal.invariant_of-result
invariant_of-result c =
    let rows = rows_of (found_of c.args.found.now) in
    let has = c.requires.raster in
    record {
      across = number_within (codes "width") 1 4096 rows c.number_told-width.result has.1.0 c.number_told-width.ensures;
      along = number_within (codes "height") 1 4096 rows c.number_told-height.result has.1.1.0 c.number_told-height.ensures;
      few = search rules;
    }
