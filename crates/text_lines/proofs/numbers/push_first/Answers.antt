use Rattle.std.proofs.Common.{ap, ◌∷◌, List, ℕ, FitsSigned, refl, rules}
use Rattle.std.specs.Int.{w64}
use Rattle.std.proofs.lemmas.Int.{to_z-of_z}
use Rattle.std.proofs.lemmas.Result.{IfOk-weaker}
use Rattle.text_lines.specs.Numbers.{ArePushed}
use Rattle.text_lines.proofs.NumberLemmas.{pushed_more, pushed_none}
use Rattle.text_lines.proofs.numbers.push_first.Goals as goal

pub returns-in_default : goal.returns-in_default
returns-in_default c = pushed_none c.args.numbers.now.items c.args.numbers.now.items (32 ∷ c.args.text.now) c.args.text.now refl c.in_default.ensures.none

pub returns : goal.returns
returns c =
    let split = c.in-Some in
    let fits : FitsSigned w64 split.number = search rules in
    IfOk-weaker c.push_numbers.result (ArePushed split.rest.now c.push.new.self.items c.push_numbers.new.numbers.items) (ArePushed (32 ∷ c.args.text.now) c.args.numbers.now.items c.push_numbers.new.numbers.items)
    (λ all h. pushed_more c.args.numbers.now.items c.push_numbers.new.numbers.items (32 ∷ c.args.text.now) split.rest.now split.number all (ap (λ (l : List ℕ). 32 ∷ l) split.ensures.found) fits split.ensures.rest (rw (c.in_ok-push.ensures.items, to_z-of_z w64 split.number fits) at h))
    c.push_numbers.ensures
