-- What `watch` writes for a session: what was published, and what each reader saw of it.
use Rattle.std.specs.Prelude.{◌≡◌, ◌≤◌, ℕ, List, [], All, Contains, Some, IfSome, length, map}
use Rattle.logbook.specs.Pages.{Book}
use Rattle.insar_ports.specs.Bytes.{with_end}
use Rattle.raster_model.specs.declared.session.Session.{Session}
use Rattle.tile_board.specs.declared.entry.Entry.{Entry}
use Rattle.tile_board.specs.Histories.{IsComplete, IsLegal, published_in}
use Rattle.tile_workers.specs.Watching.{HasRoom, WatcherView}
use Rattle.answer_lines.specs.WatchLines.{IsSeen, last_in, seen_of, watch_text}
use Rattle.insar_words.specs.Asked.{Options}
use Rattle.insar_commands.specs.Run.{Run}
use Rattle.insar_commands.specs.Unwrap.{IsGiven}

-- there is a complete legal history of the session that published these revisions, in this order; each of so many readers saw some of them, and the last
pub record IsWatchOf (s : Session) (readers : ℕ) (published : List ℕ) (seen : List (List ℕ)) : Type 0 where
  pub history : List Entry
  pub legal : IsLegal s history
  pub complete : IsComplete s history
  pub published_are : published ≡ published_in history
  pub count : length seen ≡ readers
  pub each : All (IsSeen published) seen

-- the text is the lines of it, for the session that the bytes spell
pub record IsWatchAnswer (options : Options) (readers : ℕ) (bytes text : List ℕ) : Type 0 where
  pub session : Session
  pub published : List ℕ
  pub seen : List (List ℕ)
  pub given : IsGiven options bytes session
  pub told : IsWatchOf session readers published seen
  pub written : text ≡ watch_text published seen

-- where the bytes are told, they are a session, nothing of it is left, and the sink gained exactly such a text
abbrev pub IsWatchDone : Options → Run → Type 0
IsWatchDone options run = IfSome run.told (λ bytes. (readers : ℕ) × (text : List ℕ) × (IsWatchAnswer options readers bytes text × ((run.left ≡ Some []) × (run.held_now ≡ with_end run.held text))))

-- ---- on the way to it

-- a watcher of this shelf has so many reads and all its room left; and it may still take in a note
pub record IsFresh (shelf : Book) (reads : ℕ) (watcher : WatcherView) : Type 0 where
  pub own : watcher.reader.shelf ≡ shelf
  pub left : watcher.reads ≡ reads
  pub room : HasRoom watcher

pub record IsReady (shelf : Book) (watcher : WatcherView) : Type 0 where
  pub own : watcher.reader.shelf ≡ shelf
  pub place : 1 ≤ watcher.room

-- a watcher kept the last of the published revisions
abbrev pub KeptLast : List ℕ → WatcherView → Type 0
KeptLast published watcher = (last : ℕ) → last_in published ≡ Some last → Contains watcher.revisions last

-- what each watcher saw of what was published
abbrev pub all_seen : List ℕ → List WatcherView → List (List ℕ)
all_seen published watchers = map (λ w. seen_of published w.revisions) watchers
