-- Lines and their ends, added to a writer piece by piece.
use Rattle.std.proofs.Common.{◌≡◌, ℕ, List, [], ◌∷◌, ◌++◌}
use Rattle.text_lines.specs.Adding.{Adds, View}
use Rattle.text_lines.proofs.AddLemmas.{adds_then}
use Rattle.text_lines.proofs.ChainLemmas.{adds_is}

-- a line of a word, a number and numbers
pub adds_faces : {a b c d k : View} {s t u text : List ℕ} → Adds a b s → Adds b c t → Adds c d u → Adds d k (10 ∷ []) → text ≡ ((s ++ t) ++ u) ++ 10 ∷ [] → Adds a k text
adds_faces p q r z e = adds_is (adds_then (adds_then (adds_then p q) r) z) e
