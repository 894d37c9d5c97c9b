use Rattle.std.proofs.Common.{refl}
use Rattle.text_lines.proofs.SeqLemmas.{after_then}
use Rattle.report_text.proofs.PartForms.{frame_part, side_kind, tiling_part, version_kind}
use Rattle.text_parts.proofs.PartForms.{rule_kind, size_kind}
use Rattle.text_parts.proofs.ReadsLemmas.{line_part, reads_ok, took, took_then, turn_after, turn_first, reads_first, reads_second, reads_within}
use Rattle.report_text.proofs.read.read_head.Goals as goal

pub returns-in_err-version : goal.returns-in_err-version
returns-in_err-version g c = reads_first c.from_residual.result c.from_residual.ensures.1 (turn_first (line_part version_kind) frame_part) c.in_err-version.ensures

pub returns-in_err-width : goal.returns-in_err-width
returns-in_err-width g c =
    let n = c.in_ok-version.ensures in
    reads_within c.from_residual-in_err-width.result c.from_residual-in_err-width.ensures.1 (turn_after (line_part version_kind) frame_part c.in_ok-version.version n.read.0) (turn_first (line_part size_kind) tiling_part) (took n) c.in_err-width.ensures

pub returns-in_err-side : goal.returns-in_err-side
returns-in_err-side g c =
    let n = c.in_ok-version.ensures in
    let a = c.in_ok-width.ensures in
    let after = after_then _ _ _ _ _ (turn_after (line_part version_kind) frame_part c.in_ok-version.version n.read.0) (turn_after (line_part size_kind) tiling_part (c.in_ok-width.width, c.in_ok-width.height) a.read.0) in
    reads_within c.from_residual-in_err-side.result c.from_residual-in_err-side.ensures.1 after (turn_first (line_part side_kind) (line_part rule_kind)) (took_then (took n) (took a)) c.in_err-side.ensures

pub returns-in_err-rule : goal.returns-in_err-rule
returns-in_err-rule g c =
    let n = c.in_ok-version.ensures in
    let a = c.in_ok-width.ensures in
    let b = c.in_ok-side.ensures in
    let after = after_then _ _ _ _ _ (turn_after (line_part version_kind) frame_part c.in_ok-version.version n.read.0) (turn_after (line_part size_kind) tiling_part (c.in_ok-width.width, c.in_ok-width.height) a.read.0) in
    reads_second c.from_residual-in_err-rule.result c.from_residual-in_err-rule.ensures.1 (after_then _ _ _ _ _ after (turn_after (line_part side_kind) (line_part rule_kind) c.in_ok-side.side b.read.0)) (took_then (took_then (took n) (took a)) (took b)) c.in_err-rule.ensures

pub returns : goal.returns
returns g c =
    let n = c.in_ok-version.ensures in
    let a = c.in_ok-width.ensures in
    let b = c.in_ok-side.ensures in
    let d = c.in_ok-rule.ensures in
    reads_ok (took_then (took n) (took_then (took a) (took_then (took b) (took d)))) (n.read.0, (a.read.0, (b.read.0, d.read.0))) refl
