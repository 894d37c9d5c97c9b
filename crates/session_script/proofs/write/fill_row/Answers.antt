use Rattle.std.proofs.Common.{◌≡◌, ℕ, ◌<◌, List, [], ◌∷◌, ◌++◌, length, ap, sym, ◌∙◌, rules, arith}
use Rattle.std.proofs.lemmas.List.{take_more_set}
use Rattle.raster_model.specs.Masks.{open_at}
use Rattle.session_script.specs.Text.{sample_of}
use Rattle.text_lines.specs.Text.{texts_below}
use Rattle.text_lines.proofs.TextLemmas.{texts_more}
use Rattle.session_script.proofs.WithinLemmas.{byte_is}
use Rattle.session_script.proofs.write.fill_row.Goals as goal

pub loop-x-preserved : goal.loop-x-preserved
loop-x-preserved c =
    let x = c.loop-x.x in
    let within : x < length c.loop-x.row = omega (arith, c.loop-x.invariant.size, c.requires.room) in
    let byte : c.from.result ≡ sample_of (open_at c.args.mask.now x c.args.y) = byte_is c.from.result c.is_open.result _ c.from.ensures c.is_open.ensures in
    record {
      size = search rules;
      front = take_more_set c.loop-x.row x c.from.result within ∙ ap (λ (t : List ℕ). t ++ c.from.result ∷ []) c.loop-x.invariant.front
          ∙ ap (λ (v : ℕ). texts_below x (λ (k : ℕ). sample_of (open_at c.args.mask.now k c.args.y) ∷ []) ++ v ∷ []) byte ∙ sym (texts_more x (λ (k : ℕ). sample_of (open_at c.args.mask.now k c.args.y) ∷ []));
    }
