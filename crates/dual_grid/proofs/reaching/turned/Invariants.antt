use Rattle.std.proofs.Common.{◌≡◌, ◌<◌, ℕ, get_or, length}
use Rattle.std.specs.Prelude.{neg_ℤ, pos}
use Rattle.dual_grid.proofs.reaching.turned.Given as goal

abbrev pub invariant-loop-face : goal.invariant-loop-face
invariant-loop-face l = record {
  count : length l.potentials.items ≡ l.face-index;
  values : (u : ℕ) → u < l.face-index → get_or l.potentials.items u (pos 0) ≡ neg_ℤ (get_or l.faces u (pos 0));
}
