-- A line that grows by a byte.
use Rattle.std.proofs.Common.{◌≡◌, ℕ, ◌+◌, ◌<◌, ◌∷◌, List, [], ◌++◌, take, length, Option, subst, ap, sym, ◌∙◌, refl}
use Rattle.std.specs.Prelude.{slice_set}
use Rattle.std.proofs.lemmas.List.Elements.{All-append, All-cons, All-nil}
use Rattle.std.proofs.lemmas.Grind.{take-set_at}
use Rattle.insar_ports.specs.Bytes.{with_front, after_first, BeginsWith}
use Rattle.insar_ports.specs.Lines.{AreGone, IsInLine}
use Rattle.insar_ports.proofs.CallerLemmas.{front-next}

-- one more byte of a line is gone, and stands in the next place
pub gone-more : (into : List ℕ) (count byte : ℕ) (first mid seen last : Option (List ℕ)) →
    count < length into → IsInLine byte → AreGone (take count into) first mid →
    seen ≡ mid → BeginsWith byte mid → last ≡ after_first seen →
    AreGone (take (count + 1) (slice_set into count byte)) first last
gone-more into count byte first mid seen last room other gone same begins rest =
    let next : mid ≡ with_front (byte ∷ []) last =
    begins ∙ ap (with_front (byte ∷ [])) (sym (rest ∙ ap after_first same)) in
    let more : AreGone (take count into ++ byte ∷ []) first last = (
      All-append IsInLine (take count into) (byte ∷ []) gone.0 (All-cons IsInLine byte [] other (All-nil IsInLine)),
      front-next (take count into) byte first mid last gone.1 next,
    ) in
    subst (λ (line : List ℕ). AreGone line first last) (sym (take-set_at into count (count + 1) byte refl room)) more
