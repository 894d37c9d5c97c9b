use Rattle.text_lines.proofs.AddLemmas.{adds_then}
use Rattle.text_parts.proofs.LineLemmas.{slope_is}
use Rattle.whole_text.proofs.write.add_head.Goals as goal

pub returns : goal.returns
returns g c =
    let t = c.args.sheet.now.terms in
    adds_then c.bytes.ensures (adds_then c.add_size.ensures (adds_then c.add_rule.ensures (adds_then (rw (slope_is t.ramp_x t.across, slope_is t.ramp_y t.along) at c.add_ramp.ensures) (adds_then c.add_steepness.ensures c.add_cost.ensures))))
