use Rattle.std.proofs.Common.{◌≡◌, sym, ◌∙◌, ap, List, true, false, inl, inr, arith, subst}
use Rattle.std.specs.Prelude.{ℕ, ◌<◌, pos, ◌<ℤ◌, Contains}
use Rattle.std.proofs.lemmas.Int.{ints}
use Rattle.std.proofs.lemmas.Bool.{false≢true, cases_Bool}
use Rattle.flow_network.specs.Nets.{Shape, total_excess}
use Rattle.shortest_augment.specs.Labels.{IsSmall}
use Rattle.shortest_augment.specs.Heights.{IsReached}
use Rattle.shortest_augment.specs.Sending.{IsAugmented}
use Rattle.shortest_augment.specs.Trees.{mark_at, IsMarkForest, IsWiping, AreClear}
use Rattle.shortest_augment.specs.declared.mark.Mark.{Mark}
use Rattle.shortest_augment.proofs.SendLemmas.{augmented-trans, forest-augmented, augmented-refl}
use Rattle.shortest_augment.proofs.TreeLemmas.{tight_marked, wiping_start}
use Rattle.shortest_augment.proofs.LinkLemmas.{small-augmented}
use Rattle.shortest_augment.proofs.augment.block.Goals as goal
use Rattle.shortest_augment.proofs.augment.block.Goals.{After-fill_all, After-drain_rest}
use Rattle.shortest_augment.proofs.augment.block.Given.{Over}

first : (g : Over) (c : After-fill_all g) → IsReached (g.N.FlowNet.shape c.args.net.now) (g.N.FlowNet.state c.args.net.now) c.args.source → total_excess (g.N.FlowNet.shape c.args.net.now) (g.N.FlowNet.state c.fill_all.new.net) <ℤ total_excess (g.N.FlowNet.shape c.args.net.now) (g.N.FlowNet.state c.args.net.now)
first g c r =
    elim (cases_Bool c.fill_all.result) [
      | inl t ↦ c.fill_all.ensures.falls t
      | inr t ↦ absurd (
          let at = (
          let f = g.N.FlowNet.state c.args.net.now in
          let s = g.N.FlowNet.shape c.args.net.now in
          let k : (v : ℕ) × ((v < s.nodes) × (f.excess v <ℤ pos 0) × ((mark_at c.tree.new.marks.items v).reached ≡ true)) = elim c.in_ok-queue.ensures.whole [
            | inl m ↦ m
            | inr w ↦ (r.end, (r.node, r.lacks, tight_marked c.tree.new.marks.items (g.met.N.FlowNet.is_network c.args.net.now) c.in_ok-queue.ensures.from w r.tight))
          ] in k) in
          let none : (mark_at c.deref.result.now at.0).reached ≡ false = c.fill_all.ensures.none t at.0 at.1.0 at.1.1 in
          let same : (mark_at c.deref.result.now at.0).reached ≡ (mark_at c.tree.new.marks.items at.0).reached = ap (λ (xs : List Mark). (mark_at xs at.0).reached) c.deref.ensures.value in
          false≢true (sym none ∙ same ∙ at.1.2))
    ]

second : (g : Over) (c : After-drain_rest g) → IsAugmented (g.N.FlowNet.shape c.args.net.now) (g.N.FlowNet.state c.fill_all.new.net) (g.N.FlowNet.state c.drain_rest.new.net)
second g c =
    let now = g.N.FlowNet.state c.fill_all.new.net in
    let then = g.N.FlowNet.state c.drain_rest.new.net in
    subst (λ (t : Shape). IsAugmented t now then) c.fill_all.ensures.shape c.drain_rest.ensures.augmented

pub drain_rest-requires-clause-small : goal.drain_rest-requires-clause-small
drain_rest-requires-clause-small g c =
    let now = g.N.FlowNet.state c.fill_all.new.net in
    subst (λ (t : Shape). IsSmall t now) (sym c.fill_all.ensures.shape) (small-augmented (g.N.FlowNet.shape c.args.net.now) (g.N.FlowNet.state c.args.net.now) now c.requires.small c.fill_all.ensures.augmented)

pub drain_rest-requires-clause-forest : goal.drain_rest-requires-clause-forest
drain_rest-requires-clause-forest g c =
    let now = g.N.FlowNet.state c.fill_all.new.net in
    let marks = c.tree.new.marks.items in
    subst (λ (t : Shape). IsMarkForest t now marks) (sym c.fill_all.ensures.shape) (forest-augmented (g.N.FlowNet.shape c.args.net.now) (g.N.FlowNet.state c.args.net.now) now marks (g.met.N.FlowNet.is_network c.args.net.now) c.in_ok-queue.ensures.tree.forest c.fill_all.ensures.augmented)

pub returns-in_err-drain_rest-clause-augmented : goal.returns-in_err-drain_rest-clause-augmented
returns-in_err-drain_rest-clause-augmented g c = augmented-trans (g.N.FlowNet.shape c.args.net.now) (g.N.FlowNet.state c.args.net.now) (g.N.FlowNet.state c.fill_all.new.net) (g.N.FlowNet.state c.drain_rest.new.net) c.fill_all.ensures.augmented (second g (goal.at.returns-in_err-drain_rest-clause-augmented g c).After-drain_rest)

pub wipe-requires-clause-marked : goal.wipe-requires-clause-marked
wipe-requires-clause-marked g c =
    let s = g.N.FlowNet.shape c.args.net.now in
    let marks = c.tree.new.marks.items in
    subst (λ (t : Shape). IsWiping t marks c.in_ok-queue.queue.items 0) (sym (c.drain_rest.ensures.shape ∙ c.fill_all.ensures.shape)) (wiping_start s (g.N.FlowNet.state c.args.net.now) marks c.in_ok-queue.queue.items c.in_ok-queue.ensures.tree c.in_ok-queue.ensures.queue)

pub wipe-requires-clause-nodes : goal.wipe-requires-clause-nodes
wipe-requires-clause-nodes g c = λ v m. (
    let l = (c.in_ok-queue.ensures.queue.marked v m).0 in
    rw (c.drain_rest.ensures.shape ∙ c.fill_all.ensures.shape) l)

pub returns-clause-augmented : goal.returns-clause-augmented
returns-clause-augmented g c = augmented-trans (g.N.FlowNet.shape c.args.net.now) (g.N.FlowNet.state c.args.net.now) (g.N.FlowNet.state c.fill_all.new.net) (g.N.FlowNet.state c.drain_rest.new.net) c.fill_all.ensures.augmented (second g (goal.at.returns-clause-augmented g c).After-drain_rest)

pub returns-clause-falls : goal.returns-clause-falls
returns-clause-falls g c = λ r. (
    let x = first g (goal.at.returns-clause-falls g c).After-fill_all r in
    let y = (second g (goal.at.returns-clause-falls g c).After-drain_rest).falls in
    omega (arith, ints, x, y))

pub drain_rest-requires-clause-ends : goal.drain_rest-requires-clause-ends
drain_rest-requires-clause-ends g c = λ v m. (
    let l = (c.in_ok-queue.ensures.queue.marked v (subst (λ (xs : List ℕ). Contains xs v) c.deref-3.ensures.value m)).0 in
    rw c.fill_all.ensures.shape l)

pub returns-in_err-queue-clause-origin : goal.returns-in_err-queue-clause-origin
returns-in_err-queue-clause-origin g c = g.met.N.FlowNet.origin_stays c.args.net.now

pub returns-in_err-queue-clause-augmented : goal.returns-in_err-queue-clause-augmented
returns-in_err-queue-clause-augmented g c = augmented-refl (g.N.FlowNet.shape c.args.net.now) (g.N.FlowNet.state c.args.net.now)

pub fill_all-requires-clause-tree : goal.fill_all-requires-clause-tree
fill_all-requires-clause-tree g c = rw c.deref.ensures.value c.in_ok-queue.ensures.tree

pub fill_all-requires-clause-queue : goal.fill_all-requires-clause-queue
fill_all-requires-clause-queue g c = rw (c.deref.ensures.value, c.deref-2.ensures.value) c.in_ok-queue.ensures.queue

pub drain_rest-requires-clause-source : goal.drain_rest-requires-clause-source
drain_rest-requires-clause-source g c = rw c.fill_all.ensures.shape c.requires.source

pub returns-in_err-drain_rest-clause-shape : goal.returns-in_err-drain_rest-clause-shape
returns-in_err-drain_rest-clause-shape g c = c.drain_rest.ensures.shape ∙ c.fill_all.ensures.shape

pub returns-in_err-drain_rest-clause-origin : goal.returns-in_err-drain_rest-clause-origin
returns-in_err-drain_rest-clause-origin g c = g.met.N.FlowNet.origin_follows c.args.net.now c.fill_all.new.net c.drain_rest.new.net c.fill_all.ensures.origin c.drain_rest.ensures.origin

pub returns-clause-shape : goal.returns-clause-shape
returns-clause-shape g c = c.drain_rest.ensures.shape ∙ c.fill_all.ensures.shape

pub returns-clause-origin : goal.returns-clause-origin
returns-clause-origin g c = g.met.N.FlowNet.origin_follows c.args.net.now c.fill_all.new.net c.drain_rest.new.net c.fill_all.ensures.origin c.drain_rest.ensures.origin

pub returns-clause-clear : goal.returns-clause-clear
returns-clause-clear g c = subst (λ (t : Shape). AreClear t c.wipe.new.marks.items) (c.drain_rest.ensures.shape ∙ c.fill_all.ensures.shape) c.wipe.ensures
