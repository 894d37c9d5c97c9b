-- Calls on a feed that come one after another.
use Rattle.std.proofs.Common.{◌≡◌, ℕ, ◌+◌, ◌≤◌, List, [], ◌++◌, length, Option, Some, None, refl, sym, ap, subst, ◌∙◌, append_assoc, arith}
use Rattle.std.specs.Prelude.{IfSome}
use Rattle.std.proofs.lemmas.List.{length-append}
use Rattle.insar_ports.specs.Bytes.{with_front, HasRisen}
use Rattle.insar_ports.specs.Calls.{Call, Moves, Takes}
use Rattle.insar_ports.proofs.CallerLemmas.{with_front-append, with_front-nil}

abbrev pub call : Option (List ℕ) → ℕ → Option (List ℕ) → ℕ → ℕ → ℕ → ℕ → Call
call told at left end limit before after = record { told = told; at = at; left = left; end = end; limit = limit; before = before; after = after }

abbrev pub some_of : List ℕ → Option (List ℕ)
some_of bytes = Some bytes

pub some_is : (a b : List ℕ) → some_of a ≡ some_of b → a ≡ b
some_is a b e = cc

pub risen_before : (before middle after : ℕ) → before ≤ middle → HasRisen middle after → HasRisen before after
risen_before before middle after le h = omega (arith, le, h)

module _ (told : Option (List ℕ)) (at : ℕ) (mid : Option (List ℕ)) (at_mid : ℕ) (left : Option (List ℕ)) (end limit limit_2 before middle after : ℕ) where
  pub Moves-then : Moves (call told at mid at_mid limit before middle) → Moves (call mid at_mid left end limit_2 middle after) → Moves (call told at left end limit before after)
  Moves-then p q = record {
    front = p.front ++ q.front;
    parts = p.parts ∙ ap (with_front p.front) q.parts ∙ with_front-append p.front q.front left;
    place = omega (arith, p.place, q.place, length-append p.front q.front);
    grows = omega (arith, p.grows, q.grows);
  }

-- what two calls took one after the other, one call took
second_takes : (mid left : Option (List ℕ)) (m : List ℕ) (end at_mid : ℕ) (Q : List ℕ → List ℕ → Type 0) → mid ≡ Some m → IfSome mid (λ bytes. (text : List ℕ) × (rest : List ℕ) × ((bytes ≡ text ++ rest) × ((left ≡ Some rest) × ((end ≡ at_mid + length text) × Q text rest)))) → (text : List ℕ) × (rest : List ℕ) × ((m ≡ text ++ rest) × ((left ≡ Some rest) × ((end ≡ at_mid + length text) × Q text rest)))
second_takes mid left m end at_mid Q e h = subst (λ (o : Option (List ℕ)). IfSome o (λ bytes. (text : List ℕ) × (rest : List ℕ) × ((bytes ≡ text ++ rest) × ((left ≡ Some rest) × ((end ≡ at_mid + length text) × Q text rest))))) e h

pub Takes-then : (told : Option (List ℕ)) (at : ℕ) (mid : Option (List ℕ)) (at_mid : ℕ) (left : Option (List ℕ)) (end limit limit_2 before middle after : ℕ) (P Q R : List ℕ → List ℕ → Type 0) → ((p m q r : List ℕ) → P p m → m ≡ q ++ r → Q q r → R (p ++ q) r) → Takes (call told at mid at_mid limit before middle) P → Takes (call mid at_mid left end limit_2 middle after) Q → Takes (call told at left end limit before after) R
Takes-then None at mid at_mid left end limit limit_2 before middle after P Q R f h g = tt
Takes-then (Some bytes) at mid at_mid left end limit limit_2 before middle after P Q R f h g =
    let s = second_takes mid left h.1 end at_mid Q h.2.1.0 g in
    let place : end ≡ at + length (h.0 ++ s.0) = omega (arith, h.2.1.1.0, s.2.1.1.0, length-append h.0 s.0) in (
      h.0 ++ s.0,
      s.1,
      (h.2.0 ∙ ap (λ (l : List ℕ). h.0 ++ l) s.2.0 ∙ sym (append_assoc h.0 s.0 s.1), (s.2.1.0, (place, f h.0 h.1 s.0 s.1 h.2.1.1.1 s.2.0 s.2.1.1.1))),
    )

-- what a call took, seen otherwise
pub Takes-weaker : (told : Option (List ℕ)) (at : ℕ) (left : Option (List ℕ)) (end limit before after : ℕ) (P R : List ℕ → List ℕ → Type 0) → ((p r : List ℕ) → P p r → R p r) → Takes (call told at left end limit before after) P → Takes (call told at left end limit before after) R
Takes-weaker None at left end limit before after P R f h = tt
Takes-weaker (Some bytes) at left end limit before after P R f h = (h.0, h.1, (h.2.0, (h.2.1.0, (h.2.1.1.0, f h.0 h.1 h.2.1.1.1))))

-- a call that took nothing
pub stays : (told left : Option (List ℕ)) (at end limit before after : ℕ) → left ≡ told → end ≡ at → before ≤ after → Moves (call told at left end limit before after)
stays told left at end limit before after l e g = record { front = []; parts = sym l ∙ sym (with_front-nil left); place = omega (arith, e); grows = g }

-- the same, where the number of bytes that were taken matters
pub Takes-sized : (told : Option (List ℕ)) (at : ℕ) (left : Option (List ℕ)) (end limit before after : ℕ) (P R : List ℕ → List ℕ → Type 0) → ((p r : List ℕ) → end ≡ at + length p → P p r → R p r) → Takes (call told at left end limit before after) P → Takes (call told at left end limit before after) R
Takes-sized None at left end limit before after P R f h = tt
Takes-sized (Some bytes) at left end limit before after P R f h = (h.0, h.1, (h.2.0, (h.2.1.0, (h.2.1.1.0, f h.0 h.1 h.2.1.1.0 h.2.1.1.1))))

-- where bytes are told, what holds of them is said of what is told, and the other way round
pub if_told : (o : Option (List ℕ)) (P : List ℕ → Type 0) → ((bytes : List ℕ) → o ≡ Some bytes → P bytes) → IfSome o P
if_told None P f = tt
if_told (Some bytes) P f = f bytes refl

pub at_told : (o : Option (List ℕ)) (P : List ℕ → Type 0) (bytes : List ℕ) → o ≡ Some bytes → IfSome o P → P bytes
at_told None P bytes e h = absurd cc
at_told (Some b) P bytes e h = let same : b ≡ bytes = cc in subst P same h

-- a call that handed out these bytes
pub moves_part : (told : Option (List ℕ)) (at : ℕ) (left : Option (List ℕ)) (end limit before after : ℕ) (part : List ℕ) → told ≡ with_front part left → end ≡ at + length part → before ≤ after → Moves (call told at left end limit before after)
moves_part told at left end limit before after part e p g = record { front = part; parts = e; place = p; grows = g }

pub takes_part : (told : Option (List ℕ)) (at : ℕ) (left : Option (List ℕ)) (end limit before after : ℕ) (part : List ℕ) → told ≡ with_front part left → end ≡ at + length part → Takes (call told at left end limit before after) (λ text rest. text ≡ part)
takes_part None at left end limit before after part e p = tt
takes_part (Some bytes) at None end limit before after part e p = absurd (cc)
takes_part (Some bytes) at (Some rest) end limit before after part e p = (part, rest, (some_is bytes (part ++ rest) e, (refl, (p, refl))))
