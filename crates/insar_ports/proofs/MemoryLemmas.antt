-- What a source in memory gives.
use Rattle.std.proofs.Common.{◌≡◌, ℕ, ◌+◌, ◌-◌, ◌≤◌, List, ◌++◌, take, drop, length, ap, sym, ◌∙◌, arith}
use Rattle.std.proofs.Math.Seq.{take-append_seam}
use Rattle.std.proofs.lemmas.List.{take_all, take-append-drop, length-take-le, length-drop, drop-drop}

-- the first bytes were copied out, and the rest is left
pub given : (bytes seen copied into : List ℕ) (start count : ℕ) → seen ≡ bytes →
    count ≤ length (take (length seen - start) (drop start seen)) →
    copied ≡ take count (take (length seen - start) (drop start seen)) →
    drop start bytes ≡ take count (copied ++ into) ++ drop (start + count) bytes
given bytes seen copied into start count same within is =
    let whole : take (length seen - start) (drop start seen) ≡ drop start bytes =
    take_all _ _ (omega (arith, length-drop start seen)) ∙ ap (drop start) same in
    let size : length copied ≡ count = ap length is ∙ length-take-le count _ within in
    let first : take count (copied ++ into) ≡ take count (drop start bytes) =
    ap (λ (n : ℕ). take n (copied ++ into)) (sym size) ∙ take-append_seam copied into ∙ is ∙ ap (take count) whole in
    sym (take-append-drop count (drop start bytes))
    ∙ ap (λ (rest : List ℕ). take count (drop start bytes) ++ rest) (drop-drop count start bytes)
    ∙ ap (λ (front : List ℕ). front ++ drop (start + count) bytes) (sym first)
