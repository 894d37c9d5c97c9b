-- Numbers of a line after its front.
use Rattle.std.proofs.Common.{◌≡◌, ℕ, ℤ, List, ◌++◌, Option, Some, None, Result, Ok, Err, refl, sym, ap, ◌∙◌}
use Rattle.std.specs.Prelude.{codes, decimal, IfOk}
use Rattle.std.specs.Global.{Vec}
use Rattle.std.proofs.lemmas.List.{append_cancel_left}
use Rattle.text_lines.specs.Numbers.{AreLongs, numbers_text}
use Rattle.text_lines.specs.Parsing.{IsWide, behind}
use Rattle.text_lines.specs.Text.{field_text}
use Rattle.text_parts.specs.Parts.{IsListParsedAs}
use Rattle.report_text.specs.Parts.{AreFacesOf}
use Rattle.report_text.specs.Text.{faces_line}

pub faces_line_is : (tile : ℕ) (faces : List ℤ) → faces_line tile faces ≡ codes "faces " ++ (decimal tile ++ numbers_text faces)
unfolding field_text
faces_line_is tile faces = refl

pub faces_found : {E : Type 0} (tile : ℕ) (line fields digits : List ℕ) (result : Result (Option (Vec ℤ)) E) → IsWide tile → line ≡ codes "faces " ++ fields → digits ≡ decimal tile → IfOk result (IsListParsedAs AreLongs (behind digits numbers_text) fields) → IfOk result (IsListParsedAs (AreFacesOf tile) (faces_line tile) line)
faces_found tile line fields digits (Ok (Some v)) small l d h = ((small, h.0), l ∙ ap (λ (x : List ℕ). codes "faces " ++ x) (h.1 ∙ ap (λ (x : List ℕ). x ++ numbers_text v.items) d) ∙ sym (faces_line_is tile v.items))
faces_found tile line fields digits (Ok None) small l d h = λ faces a e. h faces a.1 (append_cancel_left (codes "faces ") fields (digits ++ numbers_text faces) (sym l ∙ e ∙ faces_line_is tile faces ∙ ap (λ (x : List ℕ). codes "faces " ++ (x ++ numbers_text faces)) (sym d)))
faces_found tile line fields digits (Err e) small l d h = tt
