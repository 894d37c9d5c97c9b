-- What stands in a list of passes after scripts were run over it as a slice.
use Rattle.std.proofs.Common.{◌≡◌, ℕ, ◌<◌, List, [], ◌∷◌, ◌++◌, length, take, drop, refl, ap, subst, arith}
use Rattle.std.specs.List.{All}
use Rattle.board_desk.specs.Passes.{DeskView, IsPassOf, PassView}
use Rattle.board_desk.proofs.CallerLemmas.{still_of_desk}
use Rattle.tile_workers.specs.Scripts.{AreLater}

written : (ys zs : List PassView) → length ys ≡ length zs → take (length zs) (ys ++ drop (length ys) zs) ≡ ys
written [] [] h = refl
written [] (z ∷ zs) h = absurd (omega arith)
written (y ∷ ys) [] h = absurd (omega arith)
written (y ∷ ys) (z ∷ zs) h = ap (λ (l : List PassView). y ∷ l) (written ys zs (omega arith))

pub all_written : (ys zs : List PassView) (n : ℕ) → n ≡ length zs → length ys ≡ length zs → take n (ys ++ drop (length ys) zs) ≡ ys
all_written ys zs n is h = rw is (written ys zs h)

-- passes are of the desk still
pub later_own : (d : DeskView) (start before after : List PassView) → start ≡ before → length after ≡ length before → AreLater start after → All (IsPassOf d) before → All (IsPassOf d) after
later_own d start before after same count later own k p l =
    let less : k < length before = omega (arith, l, count) in
    let kept = subst (λ (ps : List PassView). AreLater ps after) same later in
    still_of_desk d _ _ (own k p less) (kept k p less)
