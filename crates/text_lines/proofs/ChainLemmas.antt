-- Chains of texts, where literals have computed away the shape of the whole: the whole is compared with the parts.
use Rattle.std.proofs.Common.{◌≡◌, ℕ, List, ◌++◌, sym, subst}
use Rattle.text_lines.specs.Adding.{Adds, View}
use Rattle.text_lines.proofs.AddLemmas.{adds_then}

pub adds_is : {v w : View} {s text : List ℕ} → Adds v w s → text ≡ s → Adds v w text
adds_is {v} {w} p e = subst (λ (l : List ℕ). Adds v w l) (sym e) p

pub adds_two : {a b c : View} {s t text : List ℕ} → Adds a b s → Adds b c t → text ≡ s ++ t → Adds a c text
adds_two p q e = adds_is (adds_then p q) e

pub adds_three : {a b c d : View} {s t u text : List ℕ} → Adds a b s → Adds b c t → Adds c d u → text ≡ s ++ (t ++ u) → Adds a d text
adds_three p q r e = adds_is (adds_then p (adds_then q r)) e

pub adds_four : {a b c d k : View} {s t u x text : List ℕ} → Adds a b s → Adds b c t → Adds c d u → Adds d k x → text ≡ s ++ (t ++ (u ++ x)) → Adds a k text
adds_four p q r z e = adds_is (adds_then p (adds_then q (adds_then r z))) e

pub adds_five : {a b c d k l : View} {s t u x y text : List ℕ} → Adds a b s → Adds b c t → Adds c d u → Adds d k x → Adds k l y → text ≡ s ++ (t ++ (u ++ (x ++ y))) → Adds a l text
adds_five p q r z o e = adds_is (adds_then p (adds_then q (adds_then r (adds_then z o)))) e
