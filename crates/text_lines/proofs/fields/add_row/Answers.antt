use Rattle.std.proofs.Common.{rules, pos, get_or, ◌≡◌, ◌<◌, ◌++◌, List, [], ◌∷◌, ℤ, ◌-◌, length, drop, take, arith, sym, ap}
use Rattle.std.specs.Prelude.{FitsSigned}
use Rattle.std.specs.Int.{w64}
use Rattle.std.specs.Fmt.{signed_decimal}
use Rattle.std.proofs.lemmas.Int.{to_z-of_z}
use Rattle.std.proofs.lemmas.List.{take_all}
use Rattle.text_lines.specs.Numbers.{numbers_line, numbers_text}
use Rattle.text_lines.proofs.AddLemmas.{adds_then}
use Rattle.text_lines.proofs.fields.add_row.Goals as goal

first_and_rest : (numbers : List ℤ) → 0 < length numbers → numbers_line numbers ≡ signed_decimal (get_or numbers 0 (pos 0)) ++ numbers_text (take (length numbers - 1) (drop 1 numbers))
first_and_rest [] lt = absurd (omega (arith, lt))
first_and_rest (n ∷ numbers) lt = ap (λ (l : List ℤ). signed_decimal n ++ numbers_text l) (sym (take_all (length (n ∷ numbers) - 1) numbers (omega arith)))

pub returns-in-len1-up : goal.returns-in-len1-up
returns-in-len1-up g c =
    let x = get_or c.args.numbers.now 0 (pos 0) in
    let fits : FitsSigned w64 x = search rules in
    rw (first_and_rest c.args.numbers.now (omega (arith, c.in-len1-up.len_at_least))) (adds_then (rw (to_z-of_z w64 x fits) at c.signed.ensures) c.add_numbers.ensures.added)
