use Rattle.std.proofs.Common.{◌≡◌, ◌-◌, ◌<◌, ◌≤◌, ℕ, List, arith, length, refl, subst, sym}
use Rattle.std.specs.Prelude.{ℤ, pos, ◌-ℤ◌, ◌≤ℤ◌}
use Rattle.raster_model.specs.declared.tiling.Window.{Window}
use Rattle.dual_grid.specs.Building.{IsHeldAt, leaves, positive_sum}
use Rattle.dual_grid.specs.Layout.{number_or_zero, weight_in}
use Rattle.dual_grid.specs.Nodes.{cells_of, edges_of}
use Rattle.dual_grid.specs.Problems.{AreSmallNumbers}
use Rattle.dual_grid.proofs.ReachedLemmas.{after_conserved, after_kept, after_near, after_room, after_within, excess_few}
use Rattle.dual_grid.proofs.TogetherLemmas.{few_flow, few_sent, go_together}
use Rattle.sums_and_lists.proofs.Tests.{true_and_false}
use Rattle.sums_and_lists.specs.Sums.{sum_below}
use Rattle.dual_grid.proofs.grid.DualGrid.after.Goals as goal
use Rattle.dual_grid.proofs.grid.DualGrid.after.Goals.{Else-not-sums_within, then-len-via-then-len, then-len-via-else-len+then-most-cells, then-len-via-else-len+else-most-cells+then-not-is_held}

pub move_flows-requires-clause-small : goal.move_flows-requires-clause-small
move_flows-requires-clause-small c = excess_few c.args.self c.requires.fresh c.requires.few

small : (c : Else-not-sums_within) → AreSmallNumbers c.greatest-most.result c.args.flows.items
small c = subst (λ (zs : List ℤ). AreSmallNumbers c.greatest-most.result zs) c.deref.ensures.value c.greatest-most.ensures.small

bound : (c : Else-not-sums_within) → c.greatest-most.result ≤ cells_of c.args.self.window
bound c = omega (arith, c.if-most-cells.false, c.outside-cells.ensures)

sent : (c : Else-not-sums_within) → (u : ℕ) → number_or_zero c.move_flows.new.excesses.items u ≡ number_or_zero c.args.self.excesses.items u -ℤ sum_below (edges_of c.args.self.window) (leaves c.args.self.window (number_or_zero c.args.flows.items) u)
sent c u = subst (λ (zs : List ℤ). number_or_zero c.move_flows.new.excesses.items u ≡ number_or_zero c.args.self.excesses.items u -ℤ sum_below (edges_of c.args.self.window) (leaves c.args.self.window (number_or_zero zs) u)) c.deref-2.ensures.value (c.move_flows.ensures.moved u)

held : (c : Else-not-sums_within) → (n : ℕ) → n < edges_of c.args.self.window → IsHeldAt c.args.self.window c.args.self.steep (weight_in c.args.self.weights.items) (number_or_zero c.args.flows.items) (number_or_zero c.args.potentials.items) n
held c n l =
    subst (λ (zs : List ℤ). IsHeldAt c.args.self.window c.args.self.steep (weight_in c.args.self.weights.items) (number_or_zero zs) (number_or_zero c.args.potentials.items) n) c.deref-else-most-cells.ensures.value
    (subst (λ (zs : List ℤ). IsHeldAt c.args.self.window c.args.self.steep (weight_in c.args.self.weights.items) (number_or_zero c.deref-else-most-cells.result.now) (number_or_zero zs) n) c.deref-else-most-cells-2.ensures.value
    (c.is_held.ensures.held c.if-not-is_held.false n l))

total : (c : Else-not-sums_within) → positive_sum c.move_flows.new.excesses.items (length c.move_flows.new.excesses.items) ≤ℤ pos (cells_of c.args.self.window - c.greatest-most.result)
total c =
    subst (λ (n : ℕ). positive_sum c.move_flows.new.excesses.items (length c.move_flows.new.excesses.items) ≤ℤ pos (n - c.greatest-most.result)) c.outside-cells.ensures
    (subst (λ (zs : List ℤ). positive_sum zs (length zs) ≤ℤ pos (c.outside-cells.result - c.greatest-most.result)) c.deref-3.ensures.value (c.sums_within.ensures.within c.if-not-sums_within.false))

pub invariant_of-result : goal.invariant_of-result
invariant_of-result c =
    let p = (goal.at.invariant_of-result c).Else-not-sums_within in
    let g = c.args.self in
    let flows = c.args.flows.items in
    let excesses = c.move_flows.new.excesses.items in
    let potentials = c.args.potentials.items in
    let most = c.greatest-most.result in
    record {
      limited = g.limited;
      steepness = g.steepness;
      fit = record {
        by_weight = g.fit.by_weight;
        by_edge = omega (arith, c.if-len.false, c.len.ensures, c.len-2.ensures, c.args.flows.ok.0, g.flows.ok.0, g.fit.by_edge);
        by_node = c.move_flows.ensures.length;
        by_height = c.requires.nodes;
      };
      within = after_within g c.requires.fresh c.requires.few flows excesses potentials most (small p) (bound p);
      is_network = g.is_network;
      room = after_room g c.requires.fresh c.requires.few flows excesses potentials most (small p) (bound p) (sent p) c.move_flows.ensures.small;
      reach = λ u. (let l = c.requires.low u in omega (arith, l));
      has_reduced_costs = after_kept g c.requires.fresh c.requires.few flows excesses potentials most (small p) (bound p) (sent p) (held p);
    }

pub returns-clause-origin : goal.returns-clause-origin
returns-clause-origin c =
    let p = (goal.at.returns-clause-origin c).Else-not-sums_within in
    record {
      window = refl;
      steep = refl;
      weights = refl;
      shape = refl;
      conserved = after_conserved c.args.self c.requires.fresh c.requires.few c.args.flows.items c.move_flows.new.excesses.items c.args.potentials.items c.greatest-most.result (small p) (bound p) (sent p);
    }

pub returns-clause-near : goal.returns-clause-near
returns-clause-near c =
    let p = (goal.at.returns-clause-near c).Else-not-sums_within in
    after_near c.args.self c.requires.fresh c.requires.few c.args.flows.items c.move_flows.new.excesses.items c.args.potentials.items c.greatest-most.result (small p) (bound p) c.move_flows.ensures.length (total p)

-- what is said of a list, of a list that is the same
same_small : (most : ℕ) (fs gs : List ℤ) → fs ≡ gs → AreSmallNumbers most fs → AreSmallNumbers most gs
same_small most fs gs e h = subst (λ (zs : List ℤ). AreSmallNumbers most zs) e h

same_least : (most : ℕ) (fs gs : List ℤ) → fs ≡ gs → ((b : ℕ) → AreSmallNumbers b fs → most ≤ b) → (b : ℕ) → AreSmallNumbers b gs → most ≤ b
same_least most fs gs e h = subst (λ (zs : List ℤ). (b : ℕ) → AreSmallNumbers b zs → most ≤ b) e h

same_held : (v : Window) (steep : ℕ) (weight : ℕ → ℕ) (fs gs ps qs : List ℤ) → fs ≡ gs → ps ≡ qs → ((n : ℕ) → n < edges_of v → IsHeldAt v steep weight (number_or_zero gs) (number_or_zero qs) n) → (n : ℕ) → n < edges_of v → IsHeldAt v steep weight (number_or_zero fs) (number_or_zero ps) n
same_held v steep weight fs gs ps qs e f h n l = rw (e, f) (h n l)

same_moved : (v : Window) (excess : ℕ → ℤ) (after fs gs : List ℤ) → fs ≡ gs → ((u : ℕ) → number_or_zero after u ≡ excess u -ℤ sum_below (edges_of v) (leaves v (number_or_zero fs) u)) → (u : ℕ) → number_or_zero after u ≡ excess u -ℤ sum_below (edges_of v) (leaves v (number_or_zero gs) u)
same_moved v excess after fs gs e h u = subst (λ (zs : List ℤ). number_or_zero after u ≡ excess u -ℤ sum_below (edges_of v) (leaves v (number_or_zero zs) u)) e (h u)

same_sum : (zs ys : List ℤ) (m n most : ℕ) → zs ≡ ys → m ≡ n → positive_sum zs (length zs) ≤ℤ pos (n - most) → positive_sum ys (length ys) ≤ℤ pos (m - most)
same_sum zs ys m n most e f h = rw (sym e, f) h

pub returns-then-len-clause-none : goal.returns-then-len-clause-none
returns-then-len-clause-none c =
    λ t.
    let g = c.args.self in
    let flows = c.args.flows.items in
    let small = same_small c.greatest-most.result _ flows c.deref.ensures.value c.greatest-most.ensures.small in
    let least = same_least c.greatest-most.result _ flows c.deref.ensures.value c.greatest-most.ensures.least in
    elim c.then-len.branch [
      | then-len-via-then-len w ↦ omega (arith, w.if-len.true, c.len.ensures, c.len-2.ensures, c.args.flows.ok.0, g.flows.ok.0, g.fit.by_edge, t.count)
      | then-len-via-else-len+then-most-cells w ↦ (
          let few = few_flow g.window g.steep (weight_in g.weights.items) (number_or_zero g.excesses.items) flows (number_or_zero c.args.potentials.items) c.greatest-most.result small least t in
          omega (arith, w.if-most-cells.true, c.outside-cells.ensures, few))
      | then-len-via-else-len+else-most-cells+then-not-is_held w ↦ true_and_false w.is_held.result (w.is_held.ensures.told (same_held g.window g.steep (weight_in g.weights.items) _ flows _ c.args.potentials.items w.deref-else-most-cells.ensures.value w.deref-else-most-cells-2.ensures.value t.held)) w.if-not-is_held.true
    ]

pub returns-then-not-sums_within-clause-none : goal.returns-then-not-sums_within-clause-none
returns-then-not-sums_within-clause-none c =
    λ t.
    let g = c.args.self in
    let flows = c.args.flows.items in
    let most = c.greatest-most.result in
    let excesses = c.move_flows.new.excesses.items in
    let small = same_small most _ flows c.deref.ensures.value c.greatest-most.ensures.small in
    let least = same_least most _ flows c.deref.ensures.value c.greatest-most.ensures.least in
    let sent = same_moved g.window (number_or_zero g.excesses.items) excesses _ flows c.deref-2.ensures.value c.move_flows.ensures.moved in
    let few = few_sent g.window g.steep (weight_in g.weights.items) (number_or_zero g.excesses.items) flows (number_or_zero c.args.potentials.items) most small least excesses c.move_flows.ensures.length sent t in
    true_and_false c.sums_within.result (c.sums_within.ensures.told (same_sum excesses _ c.outside-cells.result (cells_of g.window) most (sym c.deref-3.ensures.value) c.outside-cells.ensures few)) c.if-not-sums_within.true

pub returns-clause-together : goal.returns-clause-together
returns-clause-together c =
    let p = (goal.at.returns-clause-together c).Else-not-sums_within in
    let g = c.args.self in
    let flows = c.args.flows.items in
    let least = same_least c.greatest-most.result _ flows c.deref.ensures.value c.greatest-most.ensures.least in
    go_together g.window g.steep (weight_in g.weights.items) (number_or_zero g.excesses.items) flows (number_or_zero c.args.potentials.items) c.greatest-most.result (small p) least c.move_flows.new.excesses.items c.move_flows.ensures.length (sent p)
    (omega (arith, c.if-len.false, c.len.ensures, c.len-2.ensures, c.args.flows.ok.0, g.flows.ok.0, g.fit.by_edge)) (bound p) (held p) (total p)
