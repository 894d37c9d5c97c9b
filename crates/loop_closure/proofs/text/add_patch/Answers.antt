use Rattle.std.proofs.Common.{◌∙◌, ◌≡◌, ◌+◌, ◌*◌, ℤ, List, ap, get_or, pos, refl, to_z, of_z, w64}
use Rattle.std.specs.Option.{unwrap_or}
use Rattle.std.proofs.lemmas.Int.{to_z-of_z}
use Rattle.text_lines.proofs.AddLemmas.{adds_then}
use Rattle.text_lines.proofs.ChainLemmas.{adds_is}
use Rattle.loop_closure.specs.LoopText.{patch_line}
use Rattle.loop_closure.proofs.TextLemmas.{read_at}
use Rattle.loop_closure.proofs.text.add_patch.Goals as goal

pub returns : goal.returns
unfolding patch_line
returns g c =
    let place = c.first-x.result.1 * c.args.loops.now.cycles.width + c.first-x.result.0 in
    let cycles : to_z w64 (of_z w64 c.unwrap_or.result) ≡ get_or c.args.loops.now.cycles.values.items place (pos 0) =
    to_z-of_z w64 c.unwrap_or.result (record { sfits = c.unwrap_or.type_inv }) ∙ c.unwrap_or.ensures ∙ ap (λ o. unwrap_or o (pos 0)) c.copied.ensures ∙ read_at c.deref.result.now place (pos 0) c.get.result c.get.ensures.lookup
    ∙ ap (λ (numbers : List ℤ). get_or numbers place (pos 0)) c.deref.ensures.value in
    adds_is (adds_then c.bytes.ensures (adds_then c.add_field.ensures (adds_then c.add_field-2.ensures (adds_then c.add_field-3.ensures (adds_then c.add_signed_field.ensures c.end_line.ensures)))))
    (rw (cycles, c.first-x.ensures.column, c.first-x.ensures.row, c.size.ensures) refl)
