-- Lists of numbers are lines, and how long they are.
use Rattle.std.proofs.Common.{◌*◌, ◌≤◌, List, [], ◌∷◌, length, ℤ, pos, sym, ap, subst, arith, lit<}
use Rattle.std.specs.Fmt.{signed_decimal}
use Rattle.std.proofs.lemmas.Fmt.{length_signed_le}
use Rattle.std.proofs.lemmas.List.{length-append}
use Rattle.std.proofs.lemmas.List.Elements.{All-head, All-tail}
use Rattle.text_lines.specs.Numbers.{AreLongs, FitsLong, numbers_line, numbers_text}
use Rattle.text_lines.proofs.FormLemmas.{InLine}
use Rattle.text_lines.proofs.NumberLemmas.{magnitude, number_in_line, numbers_cons}
use Rattle.text_lines.proofs.TextLemmas.{in_append}

pub text_in_line : (numbers : List ℤ) → AreLongs numbers → InLine (numbers_text numbers)
text_in_line [] longs = tt
text_in_line (n ∷ numbers) longs =
    subst InLine (sym (numbers_cons n numbers)) (λ e. omega (arith, e), in_append (signed_decimal n) (numbers_text numbers) (number_in_line n (All-head FitsLong n numbers longs)) (text_in_line numbers (All-tail FitsLong n numbers longs)))

pub line_in_line : (row : List ℤ) → AreLongs row → InLine (numbers_line row)
line_in_line [] longs = tt
line_in_line (n ∷ row) longs = (rw (numbers_cons n row) at (text_in_line (n ∷ row) longs)).1

pub zero_long : FitsLong (pos 0)
zero_long = record { sfits = lit< tt }

text_short : (numbers : List ℤ) → AreLongs numbers → length (numbers_text numbers) ≤ 21 * length numbers
text_short [] longs = omega arith
text_short (n ∷ numbers) longs =
    let e = ap length (numbers_cons n numbers) in
    let small = magnitude n (All-head FitsLong n numbers longs) in
    let a = length_signed_le 19 n (omega (arith, small)) small in
    let b = text_short numbers (All-tail FitsLong n numbers longs) in
    omega (arith, e, a, b, length-append (signed_decimal n) (numbers_text numbers))

pub line_short : (row : List ℤ) → AreLongs row → length (numbers_line row) ≤ 21 * length row
line_short [] longs = omega arith
line_short (n ∷ row) longs =
    let e = ap length (numbers_cons n row) in
    let s = text_short (n ∷ row) longs in
    omega (arith, e, s)
