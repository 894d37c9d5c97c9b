-- The newest snapshot of a board: its session, and that it is of the newest published revision.
use Rattle.std.proofs.Common.{◌≡◌, ◌∙◌, ℕ, suc, ◌-◌, List, [], ◌∷◌, Option, Some, None, length, map, refl, sym, ap, arith}
use Rattle.std.specs.Prelude.{option_map, slice_get}
use Rattle.std.specs.List.{last_or}
use Rattle.std.proofs.lemmas.List.{length-map}
use Rattle.std.proofs.lemmas.Option.{slice_get-map}
use Rattle.surface_snapshots.specs.Parts.{Parts}
use Rattle.surface_snapshots.specs.Views.{parts_of}
use Rattle.surface_snapshots.specs.declared.snapshot.Snapshot.{Snapshot}
use Rattle.tile_board.specs.BoardView.{BoardView}
use Rattle.tile_board.specs.Boards.{IsBoard, IsSurfaceOf}
use Rattle.tile_board.specs.Histories.{newest_of, published_in}
use Rattle.tile_board.specs.Surfaces.{IsNewestIn, last_surface}
use Rattle.tile_board.proofs.ListLemmas.{get_beyond, get_map}

-- ---- the last element of a list

last_behind : {A : Type 0} (x : A) (xs : List A) → slice_get (x ∷ xs) (length xs) ≡ last_or (Some x) xs
last_behind x [] = refl
last_behind x (y ∷ xs) = last_behind y xs

pub last_is : {A : Type 0} (xs : List A) → slice_get xs (length xs - 1) ≡ last_or None xs
last_is [] = get_beyond [] 0 (omega arith)
last_is (x ∷ xs) =
    let e : suc (length xs) - 1 ≡ length xs = omega arith in
    ap (slice_get (x ∷ xs)) e ∙ last_behind x xs

pub last_map : {A B : Type 0} (f : A → B) (o : Option A) (xs : List A) → last_or (option_map f o) (map f xs) ≡ option_map f (last_or o xs)
last_map f o [] = refl
last_map f o (x ∷ xs) = last_map f (Some x) xs

pub map_twice : {A B C : Type 0} (f : A → B) (g : B → C) (o : Option A) → option_map g (option_map f o) ≡ option_map (λ x. g (f x)) o
map_twice f g None = refl
map_twice f g (Some x) = refl

-- the newest snapshot, where there is one
abbrev pub newest_snapshot : List Snapshot → Option Snapshot
newest_snapshot snapshots = slice_get snapshots (length snapshots - 1)

module _ (v : BoardView) (snapshots : List Snapshot) (same : map parts_of snapshots ≡ v.surfaces) (board : IsBoard v) where
  pub newest_there : (n : Snapshot) → newest_snapshot snapshots ≡ Some n → IsSurfaceOf v.session v.entries (parts_of n)
  newest_there n at =
      board.surfaces.each (length snapshots - 1) (parts_of n) (ap (λ (ps : List Parts). slice_get ps (length snapshots - 1)) (sym same) ∙ get_map parts_of snapshots (length snapshots - 1) n at)

  -- the newest snapshot is of the newest published revision
  newest_revision : newest_of v.entries ≡ option_map (λ (n : Snapshot). (parts_of n).seams.revision) (newest_snapshot snapshots)
  newest_revision =
      last_is (published_in v.entries)
      ∙ ap (last_or None) (sym board.surfaces.revisions)
      ∙ last_map (λ (p : Parts). p.seams.revision) None v.surfaces
      ∙ ap (λ (ps : List Parts). option_map (λ (p : Parts). p.seams.revision) (last_or None ps)) (sym same)
      ∙ ap (option_map (λ (p : Parts). p.seams.revision)) (last_map parts_of None snapshots)
      ∙ ap (λ (o : Option Snapshot). option_map (λ (p : Parts). p.seams.revision) (option_map parts_of o)) (sym (last_is snapshots))
      ∙ map_twice parts_of (λ (p : Parts). p.seams.revision) (newest_snapshot snapshots)

  module _ (revision : ℕ) (published : newest_of v.entries ≡ Some revision) where
    pub some_newest : newest_snapshot snapshots ≡ None → ⊥
    some_newest none = (let e = sym published ∙ newest_revision ∙ ap (option_map (λ (n : Snapshot). (parts_of n).seams.revision)) none in cc)

    pub newest_is : (n : Snapshot) → newest_snapshot snapshots ≡ Some n → IsSurfaceOf v.session v.entries (parts_of n) × ((parts_of n).seams.revision ≡ revision)
    newest_is n at = (
      newest_there n at,
      (let e : Some (parts_of n).seams.revision ≡ Some revision = sym (ap (option_map (λ (m : Snapshot). (parts_of m).seams.revision)) at) ∙ sym newest_revision ∙ published in some_same e),
    )
      where
        some_same : {a b : ℕ} → Some a ≡ Some b → a ≡ b
        some_same e = cc

-- the revision of the last surface is the newest published
pub last_is_newest : (v : BoardView) → IsBoard v → option_map (λ (p : Parts). p.seams.revision) (last_surface v) ≡ newest_of v.entries
last_is_newest v board =
    let revision : Parts → ℕ = λ p. p.seams.revision in
    sym (slice_get-map revision v.surfaces (length v.surfaces - 1))
    ∙ ap (λ (n : ℕ). slice_get (map revision v.surfaces) (n - 1)) (sym (length-map v.surfaces revision))
    ∙ ap (λ (ns : List ℕ). slice_get ns (length ns - 1)) board.surfaces.revisions

pub newest_in : (v : BoardView) → IsBoard v → (o : Option Snapshot) → option_map parts_of o ≡ last_surface v → IsNewestIn v.session v.entries o
newest_in v board None e = sym (last_is_newest v board) ∙ ap (option_map (λ (p : Parts). p.seams.revision)) (sym e)
newest_in v board (Some n) e = (board.surfaces.each (length v.surfaces - 1) (parts_of n) (sym e), sym (last_is_newest v board) ∙ ap (option_map (λ (p : Parts). p.seams.revision)) (sym e))
