-- A table of where tiles end, as a loop fills it.
use Rattle.std.proofs.Common.{◌≡◌, ◌∙◌, ℕ, ◌+◌, ◌<◌, subst, sym, arith, Bool, inl, inr, List, length}
use Rattle.std.specs.Prelude.{slice_index_or, slice_set}
use Rattle.std.proofs.lemmas.List.{get_or-set_same, get_or-set_other}
use Rattle.std.proofs.lemmas.Bool.Decides.{eqb_tells}
use Rattle.std.specs.Prelude.{◌==◌, ◌%◌}
use Rattle.certificates.specs.Ends.{TellsEnds}

pub one_more_end : (side n : ℕ) (last : List Bool) (b : Bool) → n < length last → b ≡ ((n + 1) % side == 0) → TellsEnds side n last → TellsEnds side (n + 1) (slice_set last n b)
one_more_end side n last b l e told k m = elim (eqb_tells k n) [
  | inl same ↦ subst (λ (i : ℕ). slice_index_or (slice_set last n b) i Bool.false ≡ ((i + 1) % side == 0)) (sym same.1) (get_or-set_same last n b Bool.false l ∙ e)
  | inr other ↦ get_or-set_other last n k b Bool.false other.1 ∙ told k (omega (arith, m, other.1))
]
