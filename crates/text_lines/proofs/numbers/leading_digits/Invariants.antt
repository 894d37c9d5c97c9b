use Rattle.std.proofs.Common.{◌≡◌, ◌≤◌, take}
use Rattle.std.specs.Str.Parse.{AllDigits, digits_value}
use Rattle.text_lines.proofs.numbers.leading_digits.Given as goal

abbrev pub invariant-loop-count : goal.invariant-loop-count
invariant-loop-count l = record {
  few : l.count ≤ 19;
  digits : AllDigits 10 (take l.count l.text);
  value : l.number ≡ digits_value 10 (take l.count l.text);
}
