use Rattle.std.proofs.Common.{◌∙◌, ap, length, FitsSigned, rules}
use Rattle.std.specs.Int.{w64}
use Rattle.std.specs.Prelude.{pos}
use Rattle.std.proofs.lemmas.Int.{to_z-of_z}
use Rattle.std.proofs.lemmas.List.{length-replicate, get_or-replicate}
use Rattle.shortest_augment.proofs.balancing.same.Goals as goal

pub returns-clause-count : goal.returns-clause-count
returns-clause-count c =
    let e = c.in_ok-amounts.ensures.items_if_clones_equal (λ y h. h) in
    ap length e ∙ length-replicate c.args.nodes _

pub returns-clause-each : goal.returns-clause-each
returns-clause-each c = λ v l. (
    let e = c.in_ok-amounts.ensures.items_if_clones_equal (λ y h. h) in
    let fits : FitsSigned w64 c.args.amount = search rules in
    rw e (get_or-replicate c.args.nodes v _ (pos 0) l ∙ to_z-of_z w64 c.args.amount fits))
