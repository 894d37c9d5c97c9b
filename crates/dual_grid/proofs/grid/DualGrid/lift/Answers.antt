use Rattle.std.proofs.Common.{◌≡◌, ◌+◌, ◌^◌, ◌∙◌, ap, arith, inl, inr, refl}
use Rattle.std.specs.Prelude.{ℤ, List, ℕ, ◌<◌, pos, ◌+ℤ◌, length, get_or, unsigned_abs}
use Rattle.std.specs.Vec.{with_items}
use Rattle.std.proofs.lemmas.Bool.{cases_lt}
use Rattle.std.proofs.lemmas.List.{get_or_past, with_items_is}
use Rattle.flow_network.specs.Moves.{IsRaised}
use Rattle.flow_network.proofs.CallerLemmas.{conserved-raised, kept-raised}
use Rattle.dual_grid.specs.Layout.{AreWithinReach, number_or_zero, state_by}
use Rattle.dual_grid.specs.Nodes.{cells_of}
use Rattle.dual_grid.specs.Views.{grid_shape, grid_state}
use Rattle.dual_grid.proofs.grid.DualGrid.lift.Goals as goal
use Rattle.dual_grid.proofs.grid.DualGrid.lift.Goals.{After-add_each}

-- the potentials after the raise
held : (c : After-add_each) → (with_items c.args.self.now.potentials c.add_each.new.values).items ≡ c.add_each.new.values
held c = with_items_is c.args.self.now.potentials c.add_each.new.values (c.add_each.ensures.length ∙ c.deref_mut.ensures.len)

raised : (c : After-add_each) → IsRaised (grid_shape c.args.self.now) c.args.amounts.now (grid_state c.args.self.now) (state_by c.args.self.now.window c.args.self.now.steep c.args.self.now.weights.items c.args.self.now.flows.items c.args.self.now.excesses.items (with_items c.args.self.now.potentials c.add_each.new.values).items)
raised c =
    let g = c.args.self.now in
    let values = c.add_each.new.values in
    let added : (v : ℕ) → v < length g.potentials.items → get_or values v (pos 0) ≡ get_or g.potentials.items v (pos 0) +ℤ get_or c.args.amounts.now v (pos 0) = rw c.deref_mut.ensures.value at c.add_each.ensures.added in
    record {
      residual = λ b arc. refl;
      excess = λ v l. refl;
      potential = λ v l. ap (λ (xs : List ℤ). get_or xs v (pos 0)) (held c) ∙ added v (omega (arith, g.fit.by_height, l));
    }

-- numbers that are within reach at the nodes are so everywhere
reached : (zs : List ℤ) (n : ℕ) → length zs ≡ n → ((u : ℕ) → u < n → unsigned_abs (number_or_zero zs u) < 2 ^ 62) → AreWithinReach zs
reached zs n e h u =
    elim (cases_lt u n) [
      | inl l ↦ h u l
      | inr l ↦ rw (get_or_past zs u (pos 0) (omega (arith, e, l))) (omega arith)
    ]

pub invariant_of-self : goal.invariant_of-self
invariant_of-self c =
    let g = c.args.self.now in
    let p = (goal.at.invariant_of-self c).After-add_each in
    let moved = raised p in
    let height = ap length (held p) ∙ c.add_each.ensures.length ∙ ap length c.deref_mut.ensures.value ∙ g.fit.by_height in
    record {
      limited = g.limited;
      steepness = g.steepness;
      fit = record {
        by_weight = g.fit.by_weight;
        by_edge = g.fit.by_edge;
        by_node = g.fit.by_node;
        by_height = height;
      };
      within = g.within;
      is_network = g.is_network;
      room = g.room;
      reach = reached (with_items g.potentials c.add_each.new.values).items (cells_of g.window + 1) height (λ u l. rw (moved.potential u l) (c.requires.within u l));
      has_reduced_costs = kept-raised (grid_shape g) (grid_state g) _ c.args.amounts.now g.is_network g.has_reduced_costs moved c.requires.kept;
    }

pub returns-clause-origin : goal.returns-clause-origin
returns-clause-origin c =
    let g = c.args.self.now in
    record {
      window = refl;
      steep = refl;
      weights = refl;
      shape = refl;
      conserved = conserved-raised (grid_shape g) (grid_state g) _ c.args.amounts.now g.is_network (raised (goal.at.returns-clause-origin c).After-add_each);
    }
