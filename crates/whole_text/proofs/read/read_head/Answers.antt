use Rattle.std.proofs.Common.{of_z, to_z}
use mir.Syntax.{w32}
use Rattle.text_lines.proofs.SeqLemmas.{after_then}
use Rattle.text_parts.proofs.LineLemmas.{slope_is}
use Rattle.text_parts.proofs.PartForms.{ramp_kind, rule_kind, steep_kind, whole_size_kind}
use Rattle.text_parts.proofs.ReadsLemmas.{line_part, reads_first, reads_ok, reads_second, reads_within, took, took_then, turn_after, turn_first}
use Rattle.whole_text.specs.Parts.{HeadOf}
use Rattle.whole_text.proofs.ReadLemmas.{ramp_stored}
use Rattle.whole_text.proofs.Forms.{cost_from, first_kind, ramp_part, rule_part, size_part, steep_part}
use Rattle.whole_text.proofs.read.read_head.Goals as goal

pub returns-in_err-read_known : goal.returns-in_err-read_known
returns-in_err-read_known g c = reads_first c.from_residual.result c.from_residual.ensures.1 (turn_first (line_part first_kind) size_part) c.in_err-read_known.ensures

pub returns-in_err-width : goal.returns-in_err-width
returns-in_err-width g c =
    let k = c.in_ok-read_known.ensures in
    reads_within c.from_residual-in_err-width.result c.from_residual-in_err-width.ensures.1 (turn_after (line_part first_kind) size_part tt tt) (turn_first (line_part whole_size_kind) rule_part) (took k) c.in_err-width.ensures

pub returns-in_err-rule : goal.returns-in_err-rule
returns-in_err-rule g c =
    let k = c.in_ok-read_known.ensures in
    let a = c.in_ok-width.ensures in
    let after = after_then _ _ _ _ _ (turn_after (line_part first_kind) size_part tt tt) (turn_after (line_part whole_size_kind) rule_part (c.in_ok-width.width, c.in_ok-width.height) a.read.0) in
    reads_within c.from_residual-in_err-rule.result c.from_residual-in_err-rule.ensures.1 after (turn_first (line_part rule_kind) ramp_part) (took_then (took k) (took a)) c.in_err-rule.ensures

pub returns-in_err-ramp_x : goal.returns-in_err-ramp_x
returns-in_err-ramp_x g c =
    let k = c.in_ok-read_known.ensures in
    let a = c.in_ok-width.ensures in
    let b = c.in_ok-rule.ensures in
    let after = after_then _ _ _ _ _ (turn_after (line_part first_kind) size_part tt tt) (turn_after (line_part whole_size_kind) rule_part (c.in_ok-width.width, c.in_ok-width.height) a.read.0) in
    let next = after_then _ _ _ _ _ after (turn_after (line_part rule_kind) ramp_part c.in_ok-rule.rule tt) in
    reads_within c.from_residual-in_err-ramp_x.result c.from_residual-in_err-ramp_x.ensures.1 next (turn_first (line_part ramp_kind) steep_part) (took_then (took_then (took k) (took a)) (took b)) c.in_err-ramp_x.ensures

pub returns-in_err-steep : goal.returns-in_err-steep
returns-in_err-steep g c =
    let k = c.in_ok-read_known.ensures in
    let a = c.in_ok-width.ensures in
    let b = c.in_ok-rule.ensures in
    let d = c.in_ok-ramp_x.ensures in
    let after = after_then _ _ _ _ _ (turn_after (line_part first_kind) size_part tt tt) (turn_after (line_part whole_size_kind) rule_part (c.in_ok-width.width, c.in_ok-width.height) a.read.0) in
    let next = after_then _ _ _ _ _ after (turn_after (line_part rule_kind) ramp_part c.in_ok-rule.rule tt) in
    let last = after_then _ _ _ _ _ next (turn_after (line_part ramp_kind) steep_part (c.in_ok-ramp_x.ramp_x, c.in_ok-ramp_x.ramp_y) d.read.0) in
    reads_within c.from_residual-in_err-steep.result c.from_residual-in_err-steep.ensures.1 last (turn_first (line_part steep_kind) cost_from) (took_then (took_then (took_then (took k) (took a)) (took b)) (took d)) c.in_err-steep.ensures

pub returns-in_err-cost : goal.returns-in_err-cost
returns-in_err-cost g c =
    let k = c.in_ok-read_known.ensures in
    let a = c.in_ok-width.ensures in
    let b = c.in_ok-rule.ensures in
    let d = c.in_ok-ramp_x.ensures in
    let s = c.in_ok-steep.ensures in
    let after = after_then _ _ _ _ _ (turn_after (line_part first_kind) size_part tt tt) (turn_after (line_part whole_size_kind) rule_part (c.in_ok-width.width, c.in_ok-width.height) a.read.0) in
    let next = after_then _ _ _ _ _ after (turn_after (line_part rule_kind) ramp_part c.in_ok-rule.rule tt) in
    let last = after_then _ _ _ _ _ next (turn_after (line_part ramp_kind) steep_part (c.in_ok-ramp_x.ramp_x, c.in_ok-ramp_x.ramp_y) d.read.0) in
    reads_second c.from_residual-in_err-cost.result c.from_residual-in_err-cost.ensures.1 (after_then _ _ _ _ _ last (turn_after (line_part steep_kind) cost_from c.in_ok-steep.steep s.read.0)) (took_then (took_then (took_then (took_then (took k) (took a)) (took b)) (took d)) (took s)) c.in_err-cost.ensures

pub returns : goal.returns
returns g c =
    let k = c.in_ok-read_known.ensures in
    let a = c.in_ok-width.ensures in
    let b = c.in_ok-rule.ensures in
    let d = c.in_ok-ramp_x.ensures in
    let s = c.in_ok-steep.ensures in
    let t = c.in_ok-cost.ensures in
    let r = d.read.0 in
    let x = c.in_ok-ramp_x.ramp_x in
    let y = c.in_ok-ramp_x.ramp_y in
    let p : HeadOf = (tt, ((c.in_ok-width.width, c.in_ok-width.height), (c.in_ok-rule.rule, ((x, y), (c.in_ok-steep.steep, c.in_ok-cost.cost))))) in
    let h = ramp_stored p x y (to_z w32 (of_z w32 x)) (to_z w32 (of_z w32 y)) (slope_is x r.0) (slope_is y r.1) (tt, (a.read.0, (tt, (r, (s.read.0, t.read.0))))) in
    reads_ok (took_then (took k) (took_then (took a) (took_then (took b) (took_then (took d) (took_then (took s) (took t)))))) h.0 h.1
