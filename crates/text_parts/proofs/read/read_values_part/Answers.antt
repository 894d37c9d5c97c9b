use Rattle.text_parts.proofs.PartForms.{values_read}
use Rattle.text_parts.proofs.read.read_values_part.Goals as goal

pub returns-clause-read : goal.returns-clause-read
returns-clause-read g c =
    let e = c.read_sized_values.ensures in
    values_read c.args.width c.args.height c.read_sized_values.result (record { source = e.same_source; limit = e.same_limit; moves = e.moves }) e.fits e.read e.refused
