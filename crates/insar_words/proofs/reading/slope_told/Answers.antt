use Rattle.std.proofs.Common.{◌∙◌, Some, ap, arith, sym, w32}
use Rattle.std.specs.Prelude.{option_map}
use Rattle.std.proofs.lemmas.Int.{to_z-of_z}
use Rattle.clap.specs.Words.{found_of, rows_of}
use Rattle.insar_words.specs.Asked.{slope_for as slope_by}
use Rattle.insar_words.proofs.RequestLemmas.{number_within}
use Rattle.insar_words.proofs.reading.slope_told.Goals as goal

pub number_told-requires : goal.number_told-requires
number_told-requires c =
    let has = c.requires in
    record { text = has.text; told = has.told; numeral = has.numeral; at_least = has.at_least; at_most = let high = has.at_most in omega (arith, high) }

pub slope_for-requires : goal.slope_for-requires
slope_for-requires c = (number_within c.args.name.now 0 65535 (rows_of (found_of c.args.found.now)) c.number_told.result c.requires c.number_told.ensures).1

pub returns-clause-told : goal.returns-clause-told
returns-clause-told c = ap (option_map slope_by) c.number_told.ensures ∙ ap Some (sym c.slope_for.ensures.told ∙ sym (to_z-of_z w32 c.slope_for.result (record { sfits = c.slope_for.type_inv })))
