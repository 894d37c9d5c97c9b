use Rattle.std.specs.Prelude.{codes}
use Rattle.text_lines.specs.Parsing.{IsWide, pair_text}
use Rattle.text_lines.specs.Text.{field_text}
use Rattle.text_lines.proofs.FieldLemmas.{last_begins}
use Rattle.text_lines.proofs.ParseLemmas.{none_after, none_behind, none_taken, stripped}
use Rattle.report_text.specs.Parsing.{AreCosts}
use Rattle.report_text.proofs.parse.costs_of.Goals as goal

pub returns-in_err-tiles : goal.returns-in_err-tiles
returns-in_err-tiles c =
    let line = stripped c.args.line.now (codes "costs") c.in_ok-strip_prefix.field-0 c.in_ok-strip_prefix.ensures.cases in
    rw c.from_residual-in_err-tiles.ensures (none_behind AreCosts pair_text (codes "costs") c.args.line.now _ line (λ p h f. none_taken IsWide (λ n w. w) IsWide field_text (λ n _. last_begins n) _ c.in_err-tiles.ensures p.0 p.1 h.0 h.1 f))

pub returns-in_err-last_wide : goal.returns-in_err-last_wide
returns-in_err-last_wide c =
    let line = stripped c.args.line.now (codes "costs") c.in_ok-strip_prefix.field-0 c.in_ok-strip_prefix.ensures.cases in
    rw c.from_residual-in_err-last_wide.ensures (none_behind AreCosts pair_text (codes "costs") c.args.line.now _ line (λ p h f. none_after IsWide (λ n w. w) IsWide field_text (λ n _. last_begins n) _ c.in_ok-tiles.tiles c.in_ok-tiles.seams.now c.in_ok-tiles.ensures c.in_err-last_wide.ensures p.0 p.1 h.0 h.1 f))
