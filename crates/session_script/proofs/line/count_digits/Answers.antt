use Rattle.std.proofs.Common.{sym, arith, length}
use Rattle.std.proofs.lemmas.List.Sums.{prefix_len_is}
use Rattle.pgm_planes.specs.Gaps.{is_digit}
use Rattle.session_script.specs.Fields.{digits_in}
use Rattle.session_script.proofs.line.count_digits.Goals as goal

pub returns-clause-count : goal.returns-clause-count
unfolding digits_in
returns-clause-count c = sym (prefix_len_is is_digit c.args.bytes.now (length c.args.bytes.now) 0 (omega arith) (λ k lt. c.loop-count.invariant k (omega (arith, lt))) (λ lt. absurd (omega (arith, lt))))
