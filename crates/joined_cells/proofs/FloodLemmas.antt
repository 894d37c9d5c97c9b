-- The flood goes on by one edge.
use Rattle.std.proofs.Common.{◌≡◌, ℕ, ◌+◌, ◌*◌, ◌/◌, ◌%◌, ◌<◌, ◌≤◌, inl, inr, sym, ◌∙◌, refl, arith, Bool, true, false, List, length, subst}
use Rattle.std.specs.Prelude.{IsTrue, if◌then◌else◌, slice_index}
use Rattle.std.proofs.lemmas.Nat.{mod-mul-add, div-mul-add}
use Rattle.raster_model.specs.declared.edge.Edge.{Edge}
use Rattle.raster_model.specs.Sums.{end_x, end_y, right_edge, down_edge}
use Rattle.joined_cells.specs.Flood.{edge_rank, IsFlooded, IsFlood}
use Rattle.joined_cells.specs.Forest.{IsForest, root_with}
use Rattle.joined_cells.specs.Joining.{AreJoinedBy, Joining, joins}
use Rattle.joined_cells.specs.Joining.AreJoinedBy.{here, rightward, downward}
use Rattle.joined_cells.proofs.EdgeLemmas.{ends_in, one_number, down_is, right_is}
use Rattle.joined_cells.proofs.ForestLemmas.{root_with-beyond, root_with-ends, root_with-same, root_with-least, root_with-stays, root_with-related}
use Rattle.joined_cells.proofs.WalkLemmas.{walk_sym, walk_trans}
use Rattle.sums_and_lists.proofs.Orders.{below_or_last}
use Rattle.std.proofs.lemmas.Bool.{cases_Bool}

-- an edge starts before it ends
starts_before : (d : Bool) (x y w : ℕ) → y * w + x ≤ (if d then y + 1 else y) * w + (if d then x else x + 1)
starts_before true x y w = omega arith
starts_before false x y w = omega arith

half : (d : Bool) (p n : ℕ) → 2 * p + (if d then 1 else 0) ≡ n → 2 * p ≤ n
half true p n e = omega arith
half false p n e = omega arith

module _ (joining : Joining) where
  -- the places i and j are joined by a walk
  abbrev Walk : ℕ → ℕ → Type 0
  Walk i j = AreJoinedBy joining (i % joining.width) (i / joining.width) (j % joining.width) (j / joining.width)

  right_walk : (x y : ℕ) → IsTrue (joins joining (right_edge x y)) → Walk (y * joining.width + x) (y * joining.width + (x + 1))
  right_walk x y t =
      let i = ends_in joining (right_edge x y) t in
      rw (mod-mul-add y joining.width x i.0, div-mul-add y joining.width x i.0, mod-mul-add y joining.width (x + 1) i.2, div-mul-add y joining.width (x + 1) i.2) (rightward here t)

  down_walk : (x y : ℕ) → IsTrue (joins joining (down_edge x y)) → Walk (y * joining.width + x) ((y + 1) * joining.width + x)
  down_walk x y t =
      let i = ends_in joining (down_edge x y) t in
      rw (mod-mul-add y joining.width x i.0, div-mul-add y joining.width x i.0, mod-mul-add (y + 1) joining.width x i.0, div-mul-add (y + 1) joining.width x i.0) (downward here t)

  edge_walk : (e : Edge) → IsTrue (joins joining e) → Walk (e.y * joining.width + e.x) (end_y e * joining.width + end_x e)
  edge_walk e t =
      let P : Edge → Type 0 = λ f. Walk (f.y * joining.width + f.x) (end_y f * joining.width + end_x f) in
      let Q : Edge → Type 0 = λ f. IsTrue (joins joining f) in
      elim (cases_Bool e.down) [
        | inl h ↦ (let s = down_is e h in subst P (sym s) (down_walk e.x e.y (subst Q s t)))
        | inr h ↦ (let s = right_is e h in subst P (sym s) (right_walk e.x e.y (subst Q s t)))
      ]

  module _ (n : ℕ) (root : ℕ → ℕ) (is : IsFlooded joining n root) where
    -- nothing is joined where the ends have one root already, or no edge joins its ends
    pub flooded_already : ((e : Edge) → IsTrue (joins joining e) → edge_rank joining.width e ≡ n → root (e.y * joining.width + e.x) ≡ root (end_y e * joining.width + end_x e)) → IsFlooded joining (n + 1) root
    flooded_already same = record {
      least = is.least;
      stays = is.stays;
      walks = is.walks;
      edges = λ f t m. elim (below_or_last (edge_rank joining.width f) n m) [ inl k ↦ is.edges f t k | inr k ↦ same f t k ];
      alone = λ i l. is.alone i (omega arith);
    }

    -- else the trees of its ends become one
    pub flooded_with : (e : Edge) → edge_rank joining.width e ≡ n → IsTrue (joins joining e) → IsFlooded joining (n + 1) (root_with root (e.y * joining.width + e.x) (end_y e * joining.width + end_x e))
    flooded_with e number joined =
        let a = e.y * joining.width + e.x in
        let b = end_y e * joining.width + end_x e in
        record {
          least = root_with-least root a b is.least;
          stays = root_with-stays root a b is.stays;
          walks = root_with-related Walk (λ i j. walk_sym) (λ i j k. walk_trans) root a b is.walks (edge_walk e joined);
          edges = λ f t m. elim (below_or_last (edge_rank joining.width f) n m) [
            | inl k ↦ root_with-same root a b (f.y * joining.width + f.x) (end_y f * joining.width + end_x f) (is.edges f t k)
            | inr k ↦ rw (one_number joining.width f e (ends_in joining f t).2 (ends_in joining e joined).2 (k ∙ sym number)) (root_with-ends root a b)
          ];
          alone = λ i l.
              (let before : a ≤ b = starts_before e.down e.x e.y joining.width in
              let last : 2 * b ≤ n = half e.down b n number in
              root_with-beyond root a b i (omega (arith, is.least a, before, last, l)) (omega (arith, is.least b, last, l)) (is.alone i (omega arith)));
        }

  module _ (n : ℕ) (ps : List ℕ) (is : IsFlood joining n ps) where
    pub flood_already : ((e : Edge) → IsTrue (joins joining e) → edge_rank joining.width e ≡ n → is.root (e.y * joining.width + e.x) ≡ is.root (end_y e * joining.width + end_x e)) → IsFlood joining (n + 1) ps
    flood_already same = record {
      root = is.root;
      size = is.size;
      forest = is.forest;
      flooded = flooded_already n is.root is.flooded same;
    }

    pub flood_without : ((e : Edge) → IsTrue (joins joining e) → edge_rank joining.width e ≡ n → ⊥) → IsFlood joining (n + 1) ps
    flood_without none = flood_already (λ e t k. absurd (none e t k))

    -- a and b are the ends
    pub flood_with : (qs : List ℕ) (e : Edge) (a b : ℕ) → a ≡ e.y * joining.width + e.x → b ≡ end_y e * joining.width + end_x e → edge_rank joining.width e ≡ n → IsTrue (joins joining e) → length qs ≡ length ps → IsForest qs (root_with is.root a b) → IsFlood joining (n + 1) qs
    flood_with qs e a b p q number joined size forest = record {
      root = root_with is.root (e.y * joining.width + e.x) (end_y e * joining.width + end_x e);
      size = size ∙ is.size;
      forest = rw (p, q) at forest;
      flooded = flooded_with n is.root is.flooded e number joined;
    }

  -- there is no edge of number n, and the trees of the ends of the next become one
  pub flood_then : (n : ℕ) (ps : List ℕ) (is : IsFlood joining n ps) → ((e : Edge) → IsTrue (joins joining e) → edge_rank joining.width e ≡ n → ⊥)
      → (qs : List ℕ) (e : Edge) (a b : ℕ) → a ≡ e.y * joining.width + e.x → b ≡ end_y e * joining.width + end_x e → edge_rank joining.width e ≡ n + 1 → IsTrue (joins joining e) → length qs ≡ length ps → IsForest qs (root_with is.root a b) → IsFlood joining (n + 1 + 1) qs
  unfolding flood_without flood_already
  flood_then n ps is none = flood_with (n + 1) ps (flood_without n ps is none)

-- at first each pixel is its own parent, and nothing is joined
pub flood_begins : (joining : Joining) (ps : List ℕ) → length ps ≡ joining.width * joining.height → ((i : ℕ) → i < length ps → slice_index ps i ≡ i) → IsFlood joining 0 ps
flood_begins joining ps size own = record {
  root = λ i. i;
  size = size;
  forest = record {
    below = λ i l. omega (arith, own i l);
    leads = own;
    ends = λ i l e. refl;
  };
  flooded = record {
    least = λ i. omega arith;
    stays = λ i. refl;
    walks = λ i. here;
    edges = λ e t l. absurd (omega arith);
    alone = λ i l. refl;
  };
}
