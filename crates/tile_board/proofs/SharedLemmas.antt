-- What is so of shared results is so of what they point to.
use Rattle.std.proofs.Common.{◌≡◌, ◌∙◌, ℕ, zero, suc, ◌+◌, ◌<◌, sym, ap, ap₂, arith, List, [], ◌∷◌, ◌++◌, get_or, length, refl, take}
use Rattle.std.specs.Prelude.{Option, Some, None, Bool, MatchBool, MatchOption, is_some, map, option_map, replicate, slice_get}
use Rattle.std.specs.Arc.{arc_value}
use Rattle.std.specs.declared.alloc.Global.{Global}
use Rattle.std.specs.declared.sync.Arc.{Arc}
use Rattle.std.proofs.lemmas.List.{length-map, map-append, map_more}
use Rattle.std.proofs.lemmas.Option.{get_or_from_slice_get, slice_get-map, slice_get_read}
use Rattle.certificates.specs.declared.results.TileResult.{TileResult}
use Rattle.certificates.specs.TileSets.{shared_results}
use Rattle.tile_board.specs.Places.{AreSet}
use Rattle.tile_board.specs.States.{HasResult, HaveResults, IsFirstGap, IsGap, held_results}

abbrev Shared : Type 0
Shared = Arc TileResult Global

module _ (items : List (Option Shared)) where
  at : (t : ℕ) → slice_get (held_results items) t ≡ option_map (option_map arc_value) (slice_get items t)
  at t = slice_get-map (option_map arc_value) items t

  held_at : (t : ℕ) (place : Option Shared) → slice_get items t ≡ Some place → slice_get (held_results items) t ≡ Some (option_map arc_value place)
  held_at t place e = at t ∙ ap (option_map (option_map arc_value)) e

  pub as_long : length (held_results items) ≡ length items
  as_long = length-map items (option_map arc_value)

  pub has_held : (t : ℕ) → HasResult items t → HasResult (held_results items) t
  has_held t h = (arc_value h.0, held_at t (Some h.0) h.1)

  pub gap_held : (t : ℕ) → IsGap items t → IsGap (held_results items) t
  gap_held t g = held_at t None g

  all_held : HaveResults items → HaveResults (held_results items)
  all_held h t l = has_held t (h t (omega (arith, l, as_long)))

  pub first_found : (found : Option ℕ) → MatchOption found (HaveResults items) (IsFirstGap items) → MatchOption found (HaveResults (held_results items)) (IsFirstGap (held_results items))
  first_found None m = all_held m
  first_found (Some t) m = (gap_held t m.0, λ u l. has_held u (m.1 u l))

  -- what stands at a place tells whether the tile has a result
  pub told : (t : ℕ) (place : Option Shared) (answer : Bool) → t < length items → place ≡ get_or items t place → answer ≡ is_some place → MatchBool answer (HasResult (held_results items) t) (IsGap (held_results items) t)
  told t None answer l e f = rw f (gap_held t (slice_get_read items (length items) t None refl l e))
  told t (Some k) answer l e f = rw f (has_held t (k, slice_get_read items (length items) t (Some k) refl l e))

  -- one more is shared
  pub share_more : (n : ℕ) (before more : List Shared) (k solved : Shared) → n < length items → slice_get items n ≡ Some (Some k) → more ≡ before ++ solved ∷ [] → arc_value solved ≡ arc_value k → map Some (shared_results before) ≡ held_results (take n items) → map Some (shared_results more) ≡ held_results (take (n + 1) items)
  share_more n before more k solved l here grown same before_is =
      ap (λ (xs : List Shared). map Some (shared_results xs)) grown
      ∙ ap (map Some) (map-append arc_value before (solved ∷ []))
      ∙ map-append Some (shared_results before) (arc_value solved ∷ [])
      ∙ ap₂ (λ (xs : List (Option TileResult)) (y : TileResult). xs ++ Some y ∷ []) before_is same
      ∙ ap (λ (o : Option Shared). held_results (take n items) ++ option_map arc_value o ∷ []) (sym (get_or_from_slice_get items n (Some k) (Some k) here))
      ∙ sym (map_more (option_map arc_value) items n (Some k) l)

  -- and the other way round
  from_place : (t : ℕ) (place : Option (Option Shared)) (k : TileResult) → slice_get items t ≡ place → option_map (option_map arc_value) place ≡ Some (Some k) → HasResult items t
  from_place t None k e f = absurd (cc)
  from_place t (Some None) k e f = absurd (cc)
  from_place t (Some (Some shared)) k e f = (shared, e)

  pub have_results : HaveResults (held_results items) → HaveResults items
  have_results h t l =
      let k = h t (omega (arith, l, as_long)) in
      from_place t (slice_get items t) k.0 refl (sym (at t) ∙ k.1)

pub emptied : (old new : List (Option Shared)) (places : List ℕ) (n : ℕ) → AreSet old new places n None → AreSet (held_results old) (held_results new) places n None
emptied old new places n is = record {
  count = as_long new ∙ is.count ∙ sym (as_long old);
  given = λ i l. held_at new _ None (is.given i l);
  others = λ t away. at new t ∙ ap (option_map (option_map arc_value)) (is.others t away) ∙ sym (at old t);
}

pub none_held : (n : ℕ) → held_results (replicate n None) ≡ replicate n None
none_held zero = refl
none_held (suc n) = ap (λ (ks : List (Option TileResult)). None ∷ ks) (none_held n)
