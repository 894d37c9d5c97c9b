-- What contracts see of a curator and of a watcher, and what becomes of them.
use Rattle.std.specs.Prelude.{◌≡◌, ◌+◌, ◌<◌, ◌≤◌, ◌⊎◌, ℕ, List, [], ◌∷◌, ◌++◌, All, IfSome, MatchOption, Option, Some, None, length, slice_get, slice_index_or}
use mathlib.Core.List.{IsPrefix}
use Rattle.board_desk.specs.Passes.{PassView}
use Rattle.reader_desk.specs.Fronts.{HasAllOf, Learned, ShelfView, last_of, last_revision, shelf_view}
use Rattle.surface_snapshots.specs.Parts.{Parts}
use Rattle.tile_board.specs.Histories.{newest_of}
use Rattle.tile_board.specs.Runs.{IsNoLater}
use Rattle.tile_workers.specs.Scripts.{HasSeenMore}

-- the pass by which a curator asks the desk, and what its writer has placed
pub record CuratorView : Type 0 where
  pub pass : PassView
  pub shelf : ShelfView

abbrev pub curator_view : PassView → ShelfView → CuratorView
curator_view pass shelf = record { pass = pass; shelf = shelf }

-- a curator later: its pass has seen more, nothing was added in its name, and more may be placed
pub record HasCurated (old new : CuratorView) : Type 0 where
  pub pass : HasSeenMore old.pass new.pass
  pub shelf : HasAllOf old.shelf new.shelf

-- a revision is above the last one, if there is one
abbrev pub IsAbove : ℕ → Option ℕ → Type 0
IsAbove revision last = IfSome last (λ number. number < revision)

-- a surface was placed, or its revision is no later than that of the last one that was placed
abbrev pub PlacesAbove : ShelfView → ShelfView → Parts → Type 0
PlacesAbove old new parts = (IsAbove parts.seams.revision (last_revision old.surfaces) × (new ≡ shelf_view old.shelf (old.surfaces ++ parts ∷ []))) ⊎ (IsNoLater (Some parts.seams.revision) (last_revision old.surfaces) × (new ≡ old))

-- the newest publication that the curator's pass has seen is no later than what was placed last
abbrev pub HasPlaced : CuratorView → Type 0
HasPlaced c = IsNoLater (newest_of c.pass.seen) (last_revision c.shelf.surfaces)

-- what a watcher's reader knows, the revisions that it kept, how many reads are left, and for how many more revisions it has room
pub record WatcherView : Type 0 where
  pub reader : ShelfView
  pub revisions : List ℕ
  pub reads : ℕ
  pub room : ℕ

abbrev pub watcher_view : ShelfView → List ℕ → ℕ → ℕ → WatcherView
watcher_view reader revisions reads room = record { reader = reader; revisions = revisions; reads = reads; room = room }

-- each number is above those before it
abbrev pub Rises : List ℕ → Type 0
Rises numbers = (i j a b : ℕ) → i < j → slice_get numbers i ≡ Some a → slice_get numbers j ≡ Some b → a < b

-- the revision is that of the last surface of a beginning of what is known
abbrev pub Shows : List Parts → ℕ → Type 0
Shows surfaces revision = (known : List Parts) × (IsPrefix known surfaces × (last_revision known ≡ Some revision))

abbrev pub AreShown : List Parts → List ℕ → Type 0
AreShown surfaces revisions = All (Shows surfaces) revisions

-- a revision was added at the end of the list, or it is no later than the last one there
abbrev pub KeepsAbove : List ℕ → List ℕ → ℕ → Type 0
KeepsAbove old new revision = (IsAbove revision (last_of old) × (new ≡ old ++ revision ∷ [])) ⊎ (IsNoLater (Some revision) (last_of old) × (new ≡ old))

-- the watcher has room for all reads that are left, and for one more
abbrev pub HasRoom : WatcherView → Type 0
HasRoom watcher = watcher.reads + 1 ≤ watcher.room

-- a watcher has read once: it knows all that it knew, and kept what it then knows last
pub record HasRead (old new : WatcherView) : Type 0 where
  pub reader : HasAllOf old.reader new.reader
  pub kept : MatchOption (last_revision new.reader.surfaces) (new.revisions ≡ old.revisions) (KeepsAbove old.revisions new.revisions)
  pub reads : new.reads + 1 ≡ old.reads
  pub room : HasRoom new

-- what a watcher knows last is no later than the last revision that it kept
abbrev pub HasKept : WatcherView → Type 0
HasKept watcher = IsNoLater (last_revision watcher.reader.surfaces) (last_of watcher.revisions)

-- a watcher has read until no read was left: it knows all that it knew, kept all that it had kept and what it knows last, and has room for one more
pub record HasWatched (old new : WatcherView) : Type 0 where
  pub reader : HasAllOf old.reader new.reader
  pub kept : IsPrefix old.revisions new.revisions
  pub last : 0 < old.reads → HasKept new
  pub reads : new.reads ≡ 0
  pub place : 1 ≤ new.room

abbrev pub HaveWatched : List WatcherView → List WatcherView → Type 0
HaveWatched before after = (k : ℕ) (watcher : WatcherView) → k < length before → HasWatched (slice_index_or before k watcher) (slice_index_or after k watcher)

-- the revision stands in the list
abbrev pub Keeps : List ℕ → ℕ → Type 0
Keeps revisions revision = (i : ℕ) × (slice_get revisions i ≡ Some revision)

-- the list has one more revision, at its place in order
pub record HasOneMore (old new : List ℕ) (revision : ℕ) : Type 0 where
  pub below : List ℕ
  pub above : List ℕ
  pub was : old ≡ below ++ above
  pub is : new ≡ below ++ revision ∷ above

-- a revision of a note was added where the list lacked it
abbrev pub KeepsToo : List ℕ → List ℕ → Option ℕ → Type 0
KeepsToo old new None = new ≡ old
KeepsToo old new (Some r) = (Keeps old r × (new ≡ old)) ⊎ HasOneMore old new r

-- a watcher took in a last note
pub record HasFinished (old new : WatcherView) (note : ShelfView) : Type 0 where
  pub reader : Learned old.reader note new.reader
  pub revisions : KeepsToo old.revisions new.revisions (last_revision note.surfaces)

-- each element of a list has become what the relation says
pub record Became {A : Type 0} (R : A → A → Type 0) (before after : List A) : Type 0 where
  pub each : (k : ℕ) (d : A) → k < length before → R (slice_index_or before k d) (slice_index_or after k d)
