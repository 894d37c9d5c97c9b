-- Lists of faces, read one after another.
use Rattle.std.proofs.Common.{◌≡◌, ℕ, ◌+◌, ◌<◌, ℤ, List, [], ◌∷◌, ◌++◌, length, sym, ap, subst, ◌∙◌, arith, below_more}
use Rattle.std.specs.Global.{Vec}
use Rattle.std.proofs.lemmas.Grind.{common_steps}
use Rattle.text_lines.specs.Numbers.{AreLongs}
use Rattle.report_text.specs.Contents.{lists_of}
use Rattle.report_text.specs.Parts.{AreFacesBelow}
use Rattle.report_text.specs.Text.{all_faces_text, faces_line, faces_text}
use Rattle.text_parts.specs.Text.{ended_line}
use Rattle.text_lines.proofs.TextLemmas.{texts_more, texts_same}

module _ (lists : List (Vec ℤ)) (v : Vec ℤ) (k : ℕ) (count : length lists ≡ k) where
  list_before : (t : ℕ) → t < k → lists_of (lists ++ v ∷ []) t ≡ lists_of lists t
  list_before t lt = grind (arith, common_steps)

  list_new : lists_of (lists ++ v ∷ []) k ≡ v.items
  list_new = grind (arith, common_steps)

  pub longs_push : AreFacesBelow k (lists_of lists) → AreLongs v.items → AreFacesBelow (k + 1) (lists_of (lists ++ v ∷ []))
  longs_push a b = below_more (λ t. AreLongs (lists_of (lists ++ v ∷ []) t)) k (λ t lt. subst AreLongs (sym (list_before t lt)) (a t lt)) (subst AreLongs (sym list_new) b)

  pub faces_pushed : all_faces_text k (lists_of lists) ++ ended_line (faces_line k) v.items ≡ all_faces_text (k + 1) (lists_of (lists ++ v ∷ []))
  faces_pushed =
      let more = lists_of (lists ++ v ∷ []) in
      ap (λ (l : List ℕ). l ++ ended_line (faces_line k) v.items) (texts_same k (faces_text (lists_of lists)) (faces_text more) (λ u lt. ap (ended_line (faces_line u)) (sym (list_before u lt))))
      ∙ ap (λ (l : List ℤ). all_faces_text k more ++ ended_line (faces_line k) l) (sym list_new)
      ∙ sym (texts_more k (faces_text more))
