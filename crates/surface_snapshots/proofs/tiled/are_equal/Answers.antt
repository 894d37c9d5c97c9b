use Rattle.std.proofs.Common.{◌≡◌, ◌∙◌, ℕ, Decides, ap, arith, true}
use Rattle.std.specs.Prelude.{◌==◌, ◌&&◌}
use Rattle.std.proofs.lemmas.Bool.Decides.{nat_tests}
use Rattle.std.proofs.lemmas.Slice.Eq.{slice_eq-Decides}
use Rattle.surface_snapshots.specs.declared.runs.Run.{Run}
use Rattle.surface_snapshots.proofs.tiled.are_equal.Goals as goal

runs_equal : (a b : Run) → (a.end == b.end && a.number == b.number) ≡ true → a ≡ b
runs_equal a b t =
    let ends : a.end ≡ b.end = grind (arith, nat_tests) in
    let numbers : a.number ≡ b.number = grind (arith, nat_tests) in
    ap (λ (n : ℕ). record { end = n; number = a.number }) ends ∙ ap (λ (n : ℕ). record { end = b.end; number = n }) numbers

equal_self : (m n : ℕ) → (m == m && n == n) ≡ true
equal_self m n = grind (arith, nat_tests)

runs_decided : (a b : Run) → Decides (a.end == b.end && a.number == b.number) (a ≡ b)
runs_decided a b = (runs_equal a b, λ e. rw e (equal_self b.end b.number))

pub returns : goal.returns
returns c t = (slice_eq-Decides runs_decided c.args.these.now c.args.those.now c.eq.result c.eq.ensures).0 t
