use Rattle.std.proofs.Common.{◌∙◌, Some, ap, sym, w32}
use Rattle.std.proofs.lemmas.Int.{to_z-of_z}
use Rattle.insar_words.proofs.reading.terms_told.Goals as goal

pub returns-clause-across : goal.returns-clause-across
returns-clause-across c = c.slope_told.ensures.told ∙ ap Some (sym (to_z-of_z w32 c.slope_told.result (record { sfits = c.slope_told.type_inv })))

pub returns-clause-along : goal.returns-clause-along
returns-clause-along c = c.slope_told-2.ensures.told ∙ ap Some (sym (to_z-of_z w32 c.slope_told-2.result (record { sfits = c.slope_told-2.type_inv })))
