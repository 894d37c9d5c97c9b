-- Lines and their ends, added to a writer piece by piece.
use Rattle.std.proofs.Common.{◌≡◌, ℕ, List, [], ◌∷◌, ◌++◌}
use Rattle.text_lines.specs.Adding.{Adds, View}
use Rattle.text_lines.proofs.AddLemmas.{adds_then}
use Rattle.text_lines.proofs.ChainLemmas.{adds_is}

pub adds_line_two : {a b c d : View} {s t text : List ℕ} → Adds a b s → Adds b c t → Adds c d (10 ∷ []) → text ≡ (s ++ t) ++ 10 ∷ [] → Adds a d text
adds_line_two p q r e = adds_is (adds_then (adds_then p q) r) e

pub adds_line_three : {a b c d k : View} {s t u text : List ℕ} → Adds a b s → Adds b c t → Adds c d u → Adds d k (10 ∷ []) → text ≡ (s ++ (t ++ u)) ++ 10 ∷ [] → Adds a k text
adds_line_three p q r z e = adds_is (adds_then (adds_then p (adds_then q r)) z) e
