use Rattle.std.proofs.Common.{rules}
use Rattle.raster_model.specs.Masks.{IsMaskOf, open_by}
use Rattle.session_script.proofs.AskSession.{whole_together}
use Rattle.session_script.proofs.whole.made_of.Goals as goal

pub returns-clause-made : goal.returns-clause-made
returns-clause-made g c =
    let mask : IsMaskOf c.in_ok-first_mask.first_mask c.args.parts.mask.width c.args.parts.mask.height (open_by c.args.parts.mask) = search rules in
    whole_together c.args.parts c.args.rule c.args.terms _ _ c.put_together.ensures mask
