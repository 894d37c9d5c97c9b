-- The first published mask of a trial, and the numbers of its summary.
use Rattle.std.proofs.Common.{◌≡◌, ◌∙◌, ℕ, zero, suc, ◌+◌, ◌<◌, Bool, false, true, List, [], ◌∷◌, Some, refl, sym, ap, ap₂, subst, arith, ◌==◌, ◌≤◌, of_z, w32}
use Rattle.std.specs.Prelude.{ℤ, pos, ◌≤ℤ◌, not, unsigned_abs}
use Rattle.std.proofs.lemmas.Bool.Decides.{Decides-eqb, Decides-int_eq, same_from_decides}
use Rattle.raster_model.specs.declared.script.Command.TheVariants.{Settle, Show}
use Rattle.raster_model.specs.declared.script.Script.{Script}
use Rattle.raster_model.specs.declared.session.Session.{Session}
use Rattle.raster_model.specs.Best.{tiles_cost}
use Rattle.raster_model.specs.Masks.{open_at}
use Rattle.raster_model.specs.Raster.{Raster, IsCongruent, tile_cost}
use Rattle.raster_model.specs.Scene.{raster_of}
use Rattle.raster_model.specs.Sums.{Field}
use Rattle.tile_board.specs.declared.entry.Entry.{Entry}
use Rattle.tile_board.specs.LastSettled.{last_settled, settled_revisions}
use Rattle.tile_board.proofs.OneScript.{newest_settled}
use Rattle.tile_board.specs.Histories.{IsComplete, IsLegal, newest_of, mask_in}
use Rattle.trial_maker.specs.Trials.{AreTrialScripts}
use Rattle.surface_snapshots.proofs.SameLemmas.{same_tile_cost}
use Rattle.trial_maker.specs.declared.fault.TrialFault.TheVariants as trial_faults
use Rattle.answer_lines.specs.TrialLines.{IsLeastCost, IsLeastInTiles, count_grid, count_row}
use Rattle.sums_and_lists.specs.Sums.{count_below, one_if}
use Rattle.sums_and_lists.proofs.SumLemmas.{sum_below-same}
use Rattle.std.specs.Int.{from_bool}
use Rattle.std.specs.Ordering.{int_eq}
use Rattle.std.proofs.lemmas.Int.{ints}
use Rattle.raster_model.specs.Cells.{face_at}
use Rattle.raster_model.proofs.TileLeast.{least_in_tile}
use Rattle.mask_revisions.specs.Edits.{mask_after}
use Rattle.surface_snapshots.specs.Parts.{Parts, faces_in, open_in, raster_in, surface_in, tile_costs}
use Rattle.tile_board.specs.Boards.{IsSurfaceOf}
use Rattle.report_text.proofs.CertifiedLemmas.{surface_is_certified}
use Rattle.sums_and_lists.proofs.CountLemmas.{count_below-more, count_below-none}
use Rattle.trial_maker.proofs.DrawLemmas.{is_size}

-- ---- the session

one_script : (scripts : List Script) → AreTrialScripts scripts → (script : Script) × ((scripts ≡ script ∷ []) × (script.commands.items ≡ Settle ∷ Show ∷ []))
one_script [] e = absurd (cc)
one_script (script ∷ []) e = (script, (refl, (cc)))
one_script (script ∷ other ∷ rest) e = absurd (cc)

settles_first : last_settled (Settle ∷ Show ∷ []) ≡ Some 0
unfolding settled_revisions
settles_first = refl

-- the first mask of such a session is published
pub first_published : (s : Session) (H : List Entry) → AreTrialScripts s.scripts.items → IsLegal s H → IsComplete s H → newest_of H ≡ Some 0
first_published s H scripts legal complete =
    let one = one_script s.scripts.items scripts in
    newest_settled s one.0 one.1.0 H legal complete ∙ ap last_settled one.1.1 ∙ settles_first

-- ---- the numbers of two sessions

count_same : (n : ℕ) (f g : ℕ → ℕ) → ((k : ℕ) → k < n → f k ≡ g k) → count_below n f ≡ count_below n g
unfolding count_below
count_same zero f g same = refl
count_same (suc n) f g same = ap₂ ◌+◌ (count_same n f g (λ k l. same k (omega (arith, l)))) (same n (omega arith))

pub grid_same : (w h : ℕ) (m n : Field Bool) → ((x y : ℕ) → x < w → y < h → m x y ≡ n x y) → count_grid w h m ≡ count_grid w h n
grid_same w h m n same = count_same h (count_row w m) (count_row w n) (λ y b. count_same w (λ x. one_if (m x y)) (λ x. one_if (n x y)) (λ x a. ap one_if (same x y a b)))

module _ (r : Raster) (m n : Field Bool) (same : (x y : ℕ) → x < r.width → y < r.height → m x y ≡ n x y) where
  congruent_too : (S : Field ℤ) → IsCongruent r m S → IsCongruent r n S
  congruent_too S congruent x y a b clear = congruent x y a b (same x y a b ∙ clear)

  congruent_back : (S : Field ℤ) → IsCongruent r n S → IsCongruent r m S
  congruent_back S congruent x y a b clear = congruent x y a b (sym (same x y a b) ∙ clear)

  same_cost : (S : Field ℤ) (t : ℕ) → tile_cost r m t S ≡ tile_cost r n t S
  same_cost S t = same_tile_cost r m n same S S (λ x y l k o. refl) t

  least_too : (S : Field ℤ) → IsLeastInTiles r m S → IsLeastInTiles r n S
  least_too S least = record {
    congruent = congruent_too S least.congruent;
    least = λ t l other congruent. subst (λ (z : ℤ). z ≤ℤ tile_cost r n t other) (same_cost S t) (subst (λ (z : ℤ). tile_cost r m t S ≤ℤ z) (same_cost other t) (least.least t l other (congruent_back other congruent)));
  }

  pub one_cost : (a b : ℕ) → IsLeastCost r m a → IsLeastCost r n b → a ≡ b
  one_cost a b here there =
      let S = here.surface in
      let e : tiles_cost r m S ≡ tiles_cost r n S = sum_below-same r.tile_count (λ t. tile_cost r m t S) (λ t. tile_cost r n t S) (λ t l. same_cost S t) in
      number (sym (here.of_each S here.is_least) ∙ e ∙ there.of_each S (least_too S here.is_least))
    where
      number : pos a ≡ pos b → a ≡ b
      number e = cc

-- ---- counts

pub byte_is : (b : Bool) → from_bool b ≡ one_if b
byte_is true = refl
byte_is false = refl

pub at_most_one : (b : Bool) → one_if b ≤ 1
at_most_one true = omega arith
at_most_one false = omega arith

-- a small residue is 0 where its 32 bits are
pub residue_test : (z : ℤ) → unsigned_abs z ≤ 1 → not (of_z w32 z == 0) ≡ not (int_eq z (pos 0))
residue_test z small =
    let bits = Decides-eqb (of_z w32 z) 0 in
    ap not (same_from_decides (of_z w32 z == 0) (int_eq z (pos 0)) ((λ e. (let none = bits.0 e in omega (arith, ints, none, small))), (λ e. bits.1 (ap (of_z w32) e))) (Decides-int_eq z (pos 0)))

-- by these loops that count are proved
pub ruleset counting = (count_below-none, count_below-more, byte_is, at_most_one, residue_test, is_size)

-- ---- the least cost

same_between : (a b : ℤ) → a ≤ℤ b → b ≤ℤ a → a ≡ b
same_between a b l g = omega (arith, ints, l, g)

one_least : (r : Raster) (mask : Field Bool) (S other : Field ℤ) → IsLeastInTiles r mask S → IsLeastInTiles r mask other → tiles_cost r mask other ≡ tiles_cost r mask S
one_least r mask S other here there =
    sum_below-same r.tile_count (λ t. tile_cost r mask t other) (λ t. tile_cost r mask t S)
    (λ t l. same_between (tile_cost r mask t other) (tile_cost r mask t S) (there.least t l S here.congruent) (here.least t l other there.congruent))

pub costs_are : (r : Raster) (mask : Field Bool) (S : Field ℤ) → tile_costs r mask S ≡ tiles_cost r mask S
unfolding tile_costs
costs_are r mask S = refl

pub first_is : (s : Session) (H : List Entry) → mask_in s H 0 ≡ open_at s.first_mask
unfolding mask_after
first_is s H = refl

module _ (s : Session) (H : List Entry) (p : Parts) (is : IsSurfaceOf s H p) (first : p.seams.revision ≡ 0) where
  abbrev r : Raster
  r = raster_of s.scene

  abbrev mask : Field Bool
  mask = mask_in s H p.seams.revision

  is_least : IsLeastInTiles r mask (surface_in p)
  is_least =
      let certified = surface_is_certified s H p is in
      record {
        congruent = certified.congruent;
        least = λ t l. least_in_tile r mask (surface_in p) t (face_at r t (faces_in p t)) (certified.tiles t l).1;
      }

  cost_there : (cost : ℕ) → pos cost ≡ tile_costs (raster_in p) (open_in p) (surface_in p) → pos cost ≡ tiles_cost r mask (surface_in p)
  cost_there cost e = ap (λ (z : ℤ). pos (unsigned_abs z)) e ∙ (surface_is_certified s H p is).tile_cost ∙ costs_are r mask (surface_in p)

  pub least_cost : (cost : ℕ) → pos cost ≡ tile_costs (raster_in p) (open_in p) (surface_in p) → IsLeastCost r (open_at s.first_mask) cost
  least_cost cost e =
      let there : mask ≡ open_at s.first_mask = ap (mask_in s H) first ∙ first_is s H in
      subst (λ (m : Field Bool). IsLeastCost r m cost) there (record {
        surface = surface_in p;
        is_least = is_least;
        of_each = λ S least. one_least r mask (surface_in p) S is_least least ∙ sym (cost_there cost e);
      })
