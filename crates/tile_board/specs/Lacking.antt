-- The tiles that lack a result, by keys in the order in which tiles are claimed. No clause of a public function cites this file.
use Rattle.std.specs.Prelude.{◌≡◌, ◌≢◌, ℕ, ◌<◌, ◌≤◌, All, AllPairs, Bool, true, false, not, ◌&&◌, ◌||◌, ◌==◌, nat_lt, IsFalse, IsTrue, MatchOption, Option, Some, None, List, length, slice_get, slice_index}
use Rattle.std.specs.BTreeSet.{BTreeSet, contains}
use Rattle.std.specs.Ordering.{nat_cmp, ordering_then}
use Rattle.std.specs.declared.cmp.Ordering.{Ordering}
use Rattle.mask_revisions.specs.Edits.{any_below}

-- a key is a number of claims and a tile; fewer claims come first, and then the lower-numbered tile
abbrev pub Keys : Type 0
Keys = BTreeSet (ℕ × ℕ)

abbrev pub key_order : ℕ × ℕ → ℕ × ℕ → Ordering
key_order x y = ordering_then (nat_cmp x.0 y.0) (nat_cmp x.1 y.1)

abbrev pub has_key : Keys → ℕ → ℕ → Bool
has_key keys claims tile = contains key_order keys (claims, tile)

-- how often each tile was claimed at its stamp, and the keys
pub record LackingView : Type 0 where
  pub claims : List ℕ
  pub keys : Keys

-- a key was added, or taken out if it was there
abbrev pub is_key : ℕ → ℕ → ℕ → ℕ → Bool
is_key claims tile c t = (claims == c) && (tile == t)

abbrev pub IsAdded : Keys → Keys → ℕ → ℕ → Type 0
IsAdded old new claims tile = (c t : ℕ) → has_key new c t ≡ (is_key claims tile c t || has_key old c t)

abbrev pub IsKeyTaken : Keys → Keys → ℕ → ℕ → Type 0
IsKeyTaken old new claims tile = (c t : ℕ) → has_key new c t ≡ (not (is_key claims tile c t) && has_key old c t)

-- the key was taken out, except if it has no claims
abbrev pub IsTakenIfClaimed : Keys → Keys → ℕ → ℕ → Type 0
IsTakenIfClaimed old new claims tile = (c t : ℕ) → has_key new c t ≡ (not (is_key claims tile c t && not (claims == 0)) && has_key old c t)

-- each tile that passes the test has the key with its number of claims, and there is no other key; or each tile that passes a second test has the key with no claims too
abbrev pub AreLacking : (ℕ → Bool) → List ℕ → Keys → Type 0
AreLacking lacks claims keys = (c t : ℕ) → has_key keys c t ≡ (lacks t && (c == slice_index claims t))

abbrev pub AreLackingWith : (ℕ → Bool) → (ℕ → Bool) → List ℕ → Keys → Type 0
AreLackingWith lacks fresh claims keys = (c t : ℕ) → has_key keys c t ≡ ((lacks t && (c == slice_index claims t)) || (fresh t && (c == 0)))

-- the tiles below a number; those of a test but for one tile; those of a test and one tile
abbrev pub is_below : ℕ → ℕ → Bool
is_below n tile = nat_lt tile n

abbrev pub but_for : (ℕ → Bool) → ℕ → ℕ → Bool
but_for lacks tile t = lacks t && not (tile == t)

abbrev pub with_one : (ℕ → Bool) → ℕ → ℕ → Bool
with_one lacks tile t = (tile == t) || lacks t

-- the first n tiles of a list; those of a test, with them or without them
abbrev pub is_listed : List ℕ → ℕ → ℕ → Bool
is_listed tiles n tile = any_below n (λ i. slice_index tiles i == tile)

abbrev pub with_listed : (ℕ → Bool) → List ℕ → ℕ → ℕ → Bool
with_listed lacks tiles n tile = is_listed tiles n tile || lacks tile

abbrev pub without_listed : (ℕ → Bool) → List ℕ → ℕ → ℕ → Bool
without_listed lacks tiles n tile = lacks tile && not (is_listed tiles n tile)

-- the first n tiles of a list got the key with no claims
abbrev pub AreAddedFresh : Keys → Keys → List ℕ → ℕ → Type 0
AreAddedFresh old new tiles n = (c t : ℕ) → has_key new c t ≡ ((is_listed tiles n t && (c == 0)) || has_key old c t)

-- all of the first n tiles of a list pass a test
abbrev pub AreAllFresh : (ℕ → Bool) → List ℕ → ℕ → Type 0
AreAllFresh fresh tiles n = (i : ℕ) → i < n → IsTrue (fresh (slice_index tiles i))

-- a tile passes the test, and of those that do it was claimed least often; what is claimed next: such a tile, or None if no tile passes
pub record IsLeastClaimed (lacks : ℕ → Bool) (claims : List ℕ) (tile : ℕ) : Type 0 where
  pub lacking : IsTrue (lacks tile)
  pub least : (u : ℕ) → IsTrue (lacks u) → slice_index claims tile ≤ slice_index claims u

abbrev pub IsNextClaim : (ℕ → Bool) → List ℕ → Option ℕ → Type 0
IsNextClaim lacks claims found = MatchOption found ((tile : ℕ) → IsFalse (lacks tile)) (IsLeastClaimed lacks claims)

-- tiles that pass a test, no two of them the same
pub record AreDifferent (lacks : ℕ → Bool) (tiles : List ℕ) : Type 0 where
  pub lacking : All (λ t. IsTrue (lacks t)) tiles
  pub apart : AllPairs (λ t u. t ≢ u) tiles

-- the tiles that have no result
module _ {A : Type 0} where
  abbrev pub is_empty : Option (Option A) → Bool
  is_empty None = false
  is_empty (Some None) = true
  is_empty (Some (Some k)) = false

  abbrev pub lacks_in : List (Option A) → ℕ → Bool
  lacks_in kept t = is_empty (slice_get kept t)

  pub record AreLackingIn (kept : List (Option A)) (v : LackingView) : Type 0 where
    pub count : length v.claims ≡ length kept
    pub keys : AreLacking (lacks_in kept) v.claims v.keys
