use Rattle.std.proofs.Common.{◌≡◌, ◌∙◌, ℕ, zero, suc, ◌<◌, [], ◌∷◌, ap, arith, get_or, length, subst, sym}
use Rattle.std.specs.List.{All}
use Rattle.board_desk.specs.Passes.{IsPassOf, PassView}
use Rattle.board_tests.proofs.RunLemmas.{all_written, later_own}
use Rattle.board_tests.proofs.running.run_out.Goals as goal

-- what holds of two passes holds of all of a list of them
of_both : (P : PassView → Type 0) (p q : PassView) → P p → P q → (k : ℕ) (d : PassView) → k < length (p ∷ q ∷ []) → P (get_or (p ∷ q ∷ []) k d)
of_both P p q one two zero d l = one
of_both P p q one two (suc zero) d l = two
of_both P p q one two (suc (suc k)) d l = absurd (omega (arith, l))

pub run_scripts-requires-clause-passes : goal.run_scripts-requires-clause-passes
run_scripts-requires-clause-passes g c κs within =
    subst (All (IsPassOf c.args.desk)) (sym (c.as_mut_slice.ensures.value ∙ c.in_ok-passes.ensures.items)) (of_both (IsPassOf c.args.desk) c.args.one c.args.two c.requires.one c.requires.two)

pub close-requires : goal.close-requires
close-requires g c =
    let xs = c.in_ok-passes.passes.items in
    let ys = c.run_scripts.new.passes in
    let own : All (IsPassOf c.args.desk) xs = subst (All (IsPassOf c.args.desk)) (sym c.in_ok-passes.ensures.items) (of_both (IsPassOf c.args.desk) c.args.one c.args.two c.requires.one c.requires.two) in
    let long : length ys ≡ length xs = c.run_scripts.auto.passes ∙ ap length c.as_mut_slice.ensures.value in
    subst (All (IsPassOf c.args.desk)) (sym (all_written ys xs c.in_ok-passes.passes.len (omega (arith, c.in_ok-passes.passes.ok.0)) long))
    (later_own c.args.desk c.as_mut_slice.result.now xs ys c.as_mut_slice.ensures.value long c.run_scripts.ensures.later own)
