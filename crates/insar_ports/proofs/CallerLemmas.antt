-- How told bytes come apart and together again: for proofs of callers.
use Rattle.std.proofs.Common.{◌≡◌, ℕ, ◌+◌, List, ◌∷◌, [], ◌++◌, take, drop, Option, Some, None, refl, ap, sym, ◌∙◌, append_assoc, append-nil, arith, ◌-◌, length}
use Rattle.std.proofs.lemmas.List.{take_all, length-drop}
use Rattle.std.proofs.Math.Seq.{take-add}
use Rattle.insar_ports.specs.Bytes.{with_front, with_end, IsAtEnd}

-- fronts put one before another are one front
pub with_front-append : (a b : List ℕ) (left : Option (List ℕ)) → with_front a (with_front b left) ≡ with_front (a ++ b) left
with_front-append a b None = refl
with_front-append a b (Some rest) = ap Some (sym (append_assoc a b rest))

-- ends put one after another are one end
pub with_end-append : (held : Option (List ℕ)) (a b : List ℕ) → with_end (with_end held a) b ≡ with_end held (a ++ b)
with_end-append None a b = refl
with_end-append (Some bytes) a b = ap Some (append_assoc bytes a b)

-- an empty front changes nothing
pub with_front-nil : (left : Option (List ℕ)) → with_front [] left ≡ left
with_front-nil None = refl
with_front-nil (Some rest) = refl

-- an empty end changes nothing
pub with_end-nil : (held : Option (List ℕ)) → with_end held [] ≡ held
with_end-nil None = refl
with_end-nil (Some bytes) = ap Some (append-nil bytes)

-- a piece from a place on, as a slice has it
from-drop : (done : ℕ) (piece : List ℕ) → take (length piece - done) (drop done piece) ≡ drop done piece
from-drop done piece = take_all _ _ (omega (arith, length-drop done piece))

-- of a piece, so many more bytes were appended
pub with_end-take : (done count : ℕ) (piece : List ℕ) (first held : Option (List ℕ)) →
    held ≡ with_end first (take done piece) →
    with_end held (take count (take (length piece - done) (drop done piece))) ≡ with_end first (take (done + count) piece)
with_end-take done count piece first held was =
    ap (λ (rest : List ℕ). with_end held (take count rest)) (from-drop done piece)
    ∙ ap (λ (o : Option (List ℕ)). with_end o (take count (drop done piece))) was
    ∙ with_end-append first (take done piece) (take count (drop done piece))
    ∙ ap (with_end first) (sym (take-add done count piece))

-- a byte handed out after a front is the end of a longer front
pub front-next : (front : List ℕ) (byte : ℕ) (first mid last : Option (List ℕ)) → first ≡ with_front front mid → mid ≡ with_front (byte ∷ []) last → first ≡ with_front (front ++ byte ∷ []) last
front-next front byte first mid last was next =
    was ∙ ap (with_front front) next ∙ with_front-append front (byte ∷ []) last

-- a whole input was read: it is the front
pub whole-front : (bytes front : List ℕ) (last : Option (List ℕ)) → Some bytes ≡ with_front front last → IsAtEnd last → bytes ≡ front
whole-front bytes front None was end = absurd (cc)
whole-front bytes front (Some rest) was end =
    let parts : bytes ≡ front ++ rest = cc in
    parts ∙ ap (λ (more : List ℕ). front ++ more) end ∙ append-nil front
