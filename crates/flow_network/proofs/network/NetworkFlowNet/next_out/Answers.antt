use Rattle.std.proofs.Common.{arith, ◌≡◌, ℕ, ◌<◌, sym, ◌∙◌, subst}
use Rattle.std.specs.Prelude.{length, get_or, Option, None}
use Rattle.std.proofs.lemmas.Bool.{ltb-true}
use Rattle.std.proofs.lemmas.List.{get_or_default}
use Rattle.flow_network.specs.Nets.{IsNextBelow, tail_of}
use Rattle.flow_network.specs.Lists.{shape_in}
use Rattle.flow_network.proofs.network.NetworkFlowNet.next_out.Goals as goal

pub returns : goal.returns
returns c =
    let net = c.args.self.now in
    let s = shape_in (length net.excesses.items) net.heads.items net.costs.items in
    let below : c.args.arc < length net.heads.items = ltb-true c.args.arc (length net.heads.items) c.requires in
    let l : c.args.arc < length net.next.items = omega (arith, net.fit.by_next, below) in
    let e : get_or net.next.items c.args.arc None ≡ c.index.result.now = get_or_default net.next.items c.args.arc None c.index.result.now l ∙ sym c.index.ensures in
    subst (λ (o : Option ℕ). IsNextBelow s (tail_of s c.args.arc) c.args.arc o) e (net.linked.goes_on c.args.arc below)
