use Rattle.std.specs.Fmt.{signed_decimal}
use Rattle.std.specs.Prelude.{codes}
use Rattle.raster_model.specs.Limits.{IsSlope}
use Rattle.text_lines.specs.Numbers.{number_text}
use Rattle.text_lines.proofs.ParseLemmas.{none_in_front, not_stripped, read_behind, stripped}
use Rattle.text_parts.proofs.parse.last_slope.Goals as goal

pub returns-in_err-strip_prefix : goal.returns-in_err-strip_prefix
unfolding number_text
returns-in_err-strip_prefix c =
    rw c.from_residual.ensures (none_in_front IsSlope signed_decimal (codes " ") c.args.bytes.now (not_stripped c.args.bytes.now (codes " ") c.in_err-strip_prefix.ensures.cases))

pub returns : goal.returns
unfolding number_text
returns c =
    read_behind IsSlope signed_decimal (codes " ") c.args.bytes.now c.in_ok-strip_prefix.field-0.now c.slope_of.result (stripped c.args.bytes.now (codes " ") c.in_ok-strip_prefix.field-0 c.in_ok-strip_prefix.ensures.cases) c.slope_of.ensures
