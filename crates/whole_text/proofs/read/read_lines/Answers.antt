use Rattle.std.proofs.Common.{sym}
use Rattle.text_lines.proofs.SeqLemmas.{after_then}
use Rattle.text_parts.proofs.PartForms.{values_part}
use Rattle.text_parts.proofs.ReadsLemmas.{line_part, reads_first, reads_ok, reads_second, reads_within, took, took_then, turn_after, turn_first}
use Rattle.text_parts.specs.Parts.{rows_of}
use Rattle.text_parts.specs.Terms.{terms_of}
use Rattle.whole_text.specs.Parts.{head_in}
use Rattle.whole_text.specs.Text.{IsWhole, WholeOf}
use Rattle.whole_text.proofs.Forms.{cells_part, end_kind, end_part, rest_after, whole_first, whole_is}
use Rattle.whole_text.proofs.read.read_lines.Goals as goal

pub returns-in_err-head : goal.returns-in_err-head
returns-in_err-head g c = reads_first c.from_residual.result c.from_residual.ensures.1 whole_first c.in_err-head.ensures

pub returns-in_err-values : goal.returns-in_err-values
returns-in_err-values g c =
    let h = c.in_ok-head.head in
    let a = c.in_ok-head.ensures in
    let z = a.read.0.1.0 in
    reads_within c.from_residual-in_err-values.result c.from_residual-in_err-values.ensures.1 (rest_after (head_in h) a.read.0) (turn_first (values_part h.width h.height z) (end_part h.width h.height)) (took a) c.in_err-values.ensures.read

pub returns-in_err-faces : goal.returns-in_err-faces
returns-in_err-faces g c =
    let h = c.in_ok-head.head in
    let a = c.in_ok-head.ensures in
    let b = c.in_ok-values.ensures.read in
    let z = a.read.0.1.0 in
    let after = after_then _ _ _ _ _ (rest_after (head_in h) a.read.0) (turn_after (values_part h.width h.height z) (end_part h.width h.height) _ b.read.0) in
    reads_within c.from_residual-in_err-faces.result c.from_residual-in_err-faces.ensures.1 after (turn_first (cells_part h.width h.height) (line_part end_kind)) (took_then (took a) (took b)) c.in_err-faces.ensures

pub returns-in_err-read_known : goal.returns-in_err-read_known
returns-in_err-read_known g c =
    let h = c.in_ok-head.head in
    let a = c.in_ok-head.ensures in
    let b = c.in_ok-values.ensures.read in
    let d = c.in_ok-faces.ensures in
    let z = a.read.0.1.0 in
    let after = after_then _ _ _ _ _ (rest_after (head_in h) a.read.0) (turn_after (values_part h.width h.height z) (end_part h.width h.height) _ b.read.0) in
    reads_second c.from_residual-in_err-read_known.result c.from_residual-in_err-read_known.ensures.1 (after_then _ _ _ _ _ after (turn_after (cells_part h.width h.height) (line_part end_kind) _ d.read.0)) (took_then (took_then (took a) (took b)) (took d)) c.in_err-read_known.ensures

pub returns : goal.returns
returns g c =
    let h = c.in_ok-head.head in
    let values = c.in_ok-values.values in
    let faces = c.in_ok-faces.faces in
    let a = c.in_ok-head.ensures in
    let b = c.in_ok-values.ensures.read in
    let d = c.in_ok-faces.ensures in
    let i = a.read.0.1 in
    let taken = took_then (took a) (took_then (took b) (took_then (took d) (took c.in_ok-read_known.ensures))) in
    let v : WholeOf = record { width = h.width; height = h.height; rule = h.rule; terms = terms_of h.terms; cost = h.cost; values = rows_of h.width values; faces = faces.items } in
    let is : IsWhole v = record { sized = i.0; ramp = i.1.1.0; steepness = i.1.1.1.0; cost = i.1.1.1.1; values = b.read.0; faces = d.read.0 } in
    reads_ok taken is (sym (whole_is v))
