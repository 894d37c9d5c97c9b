-- The definitions on worked examples.
use Rattle.std.proofs.Common.{◌≡◌, ℕ, ◌∷◌, [], Some, None, refl, arith}
use Rattle.std.specs.Prelude.{All}
use Rattle.std.proofs.lemmas.List.Elements.{All-cons, All-nil}
use Rattle.insar_ports.specs.Bytes.{with_front, with_end, GainsProperPrefix, HasRisen}
use Rattle.insar_ports.specs.Lines.{IsInLine, IsNextLine}
use Rattle.insar_ports.specs.declared.feed.Line.TheVariants.{Whole, Cut, Over}

-- `ab` stands before what is left, and after what is held
pub front-of-two : with_front (97 ∷ 98 ∷ []) (Some (99 ∷ [])) ≡ Some (97 ∷ 98 ∷ 99 ∷ [])
front-of-two = refl

pub end-of-two : with_end (Some (99 ∷ [])) (97 ∷ 98 ∷ []) ≡ Some (99 ∷ 97 ∷ 98 ∷ [])
end-of-two = refl

-- what is not told stays so
pub untold : with_front (97 ∷ []) None ≡ None
untold = refl

-- of `ab` the first byte was appended
pub one-of-two : GainsProperPrefix (Some []) (97 ∷ 98 ∷ []) (Some (97 ∷ []))
one-of-two = (1, omega arith, refl)

-- a count at its last value has risen, and one that stays below it has not
pub last-value : HasRisen 18446744073709551615 18446744073709551615
last-value = omega arith

pub stays-below : HasRisen 7 7 → ⊥
stays-below risen = omega arith

no-feed : (a b : ℕ) → IsInLine a → IsInLine b → All IsInLine (a ∷ b ∷ [])
no-feed a b one two = All-cons IsInLine a (b ∷ []) one (All-cons IsInLine b [] two (All-nil IsInLine))

-- `ab`, a line feed, `cd`, read into two bytes: a whole line and then a cut one
pub whole : IsNextLine (Whole 2) (97 ∷ 98 ∷ []) (Some (97 ∷ 98 ∷ 10 ∷ 99 ∷ 100 ∷ [])) (Some (99 ∷ 100 ∷ []))
whole = (omega arith, no-feed 97 98 (λ e. omega arith) (λ e. omega arith), refl)

pub cut : IsNextLine (Cut 2) (99 ∷ 100 ∷ []) (Some (99 ∷ 100 ∷ [])) (Some [])
cut = (omega arith, (no-feed 99 100 (λ e. omega arith) (λ e. omega arith), refl), refl)

-- `abc`, read into two bytes: the room is full before the line ends
pub over : IsNextLine Over (97 ∷ 98 ∷ []) (Some (97 ∷ 98 ∷ 99 ∷ 10 ∷ [])) (Some (99 ∷ 10 ∷ []))
over = ((no-feed 97 98 (λ e. omega arith) (λ e. omega arith), refl), (99, (λ e. omega arith), refl))
