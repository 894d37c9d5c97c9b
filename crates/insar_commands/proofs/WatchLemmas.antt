-- A board's publications, and what readers kept of them.
use Rattle.std.proofs.Common.{◌≡◌, ◌≢◌, ◌∙◌, ◌+◌, ◌<◌, ◌≤◌, ℕ, zero, suc, List, [], ◌∷◌, ◌++◌, Option, Some, None, Result, Ok, Err, inl, inr, refl, sym, ap, ap₂, subst, arith, length, map, get_or, get_or-set_other, get_or-set_same}
use Rattle.std.specs.Prelude.{All, Contains, IfSome, MatchResult, OnOk, option_map, set, slice_get, slice_index_or}
use mathlib.Core.Logic.{dite}
use native.Mathlib.Decide.{dec_lt}
use Rattle.logbook.specs.Pages.{Book}
use Rattle.reader_desk.specs.Fronts.{ShelfView, last_revision, shelf_view}
use Rattle.surface_snapshots.specs.Parts.{Parts}
use Rattle.surface_snapshots.specs.Views.{parts_of}
use Rattle.surface_snapshots.specs.declared.snapshot.Snapshot.{Snapshot}
use Rattle.text_lines.specs.Adding.{Adds, View}
use Rattle.text_lines.specs.Text.{texts_below}
use Rattle.text_lines.proofs.AddLemmas.{adds_below}
use Rattle.tile_board.specs.BoardView.{BoardView}
use Rattle.tile_board.specs.Boards.{IsBoard}
use Rattle.tile_board.proofs.ListLemmas.{get_below, last_push}
use Rattle.tile_board.proofs.NewestSurface.{last_is, newest_is, newest_snapshot, some_newest}
use Rattle.std.proofs.lemmas.Simd.{map-map}
use Rattle.std.proofs.lemmas.Option.{get_or_from_slice_get}
use Rattle.std.specs.List.Sorted.{IsStrictlyIncreasing}
use Rattle.std.proofs.lemmas.List.{get_or-map, length-map, length-set}
use Rattle.std.proofs.lemmas.List.Elements.{All-map, Contains-append_right}
use Rattle.raster_model.specs.declared.session.Session.{Session}
use Rattle.tile_board.specs.declared.entry.Entry.{Entry}
use Rattle.tile_board.specs.declared.entry.Entry.TheVariants.{Revised, Kept, Published, Settled, Shown}
use Rattle.tile_board.specs.Histories.{IsComplete, IsLegal, published_in}
use Rattle.tile_board.specs.Runs.{PublishedRise}
use Rattle.tile_board.proofs.LawLemmas.{legal_histories_move_on}
use Rattle.tile_workers.specs.Watching.{HasFinished, HaveWatched, KeepsToo, WatcherView}
use Rattle.insar_commands.specs.Watch.{IsFresh, IsReady, IsWatchOf, KeptLast, all_seen}
use Rattle.insar_ports.proofs.CallLemmas.{at_told, if_told}
use Rattle.insar_words.specs.Requests.{options_of}
use Rattle.insar_words.specs.declared.request.Request.TheVariants.{Watch}
use Rattle.insar_words.specs.declared.watching.Watching.{Watching}
use Rattle.insar_commands.specs.Answers.{IsAnswerTo, IsUsedUp}
use Rattle.insar_commands.specs.Run.{ReadsAll, Run}
use Rattle.insar_commands.specs.Unwrap.{IsGiven}
use Rattle.answer_lines.specs.WatchLines.{IsSeen, last_in, reader_line, seen_of, watch_text}
use Rattle.answer_lines.proofs.SeenLemmas.{seen_end_with_the_last}

-- ---- published revisions rise

-- the first of them is that of an entry
first_at : (H : List Entry) (r : ℕ) (rest : List ℕ) → published_in H ≡ r ∷ rest → (j : ℕ) × (a : ℕ) × (slice_get H j ≡ Some (Published a r))
first_at [] r rest e = absurd cc
first_at (Revised a edit ∷ H) r rest e = let k = first_at H r rest e in (suc k.0, k.1, k.2)
first_at (Kept t s ∷ H) r rest e = let k = first_at H r rest e in (suc k.0, k.1, k.2)
first_at (Published a s ∷ H) r rest e = let same : s ≡ r = cc in (zero, a, ap (λ (n : ℕ). Some (Published a n)) same)
first_at (Settled a s ∷ H) r rest e = let k = first_at H r rest e in (suc k.0, k.1, k.2)
first_at (Shown a s ∷ H) r rest e = let k = first_at H r rest e in (suc k.0, k.1, k.2)

one_before : (r : ℕ) (xs : List ℕ) → ((s : ℕ) (rest : List ℕ) → xs ≡ s ∷ rest → r < s) → IsStrictlyIncreasing xs → IsStrictlyIncreasing (r ∷ xs)
one_before r [] below up k l = absurd (omega (arith, l))
one_before r (x ∷ xs) below up zero l = below x xs refl
one_before r (x ∷ xs) below up (suc k) l =
    let e : suc k + 1 ≡ suc (k + 1) = omega arith in
    let next : k + 1 < suc (length xs) = omega (arith, l) in rw e (up k next)

later_on : (e : Entry) (H : List Entry) → PublishedRise (e ∷ H) → PublishedRise H
later_on e H rise i j a b r s l p q = rise (suc i) (suc j) a b r s (omega (arith, l)) p q

rises : (H : List Entry) → PublishedRise H → IsStrictlyIncreasing (published_in H)
rises [] rise = λ k l. absurd (omega (arith, l))
rises (Revised a edit ∷ H) rise = rises H (later_on (Revised a edit) H rise)
rises (Kept t s ∷ H) rise = rises H (later_on (Kept t s) H rise)
rises (Published a r ∷ H) rise = one_before r (published_in H) (λ s rest e. (let k = first_at H s rest e in rise zero (suc k.0) a k.1 r s (omega arith) refl k.2)) (rises H (later_on (Published a r) H rise))
rises (Settled a s ∷ H) rise = rises H (later_on (Settled a s) H rise)
rises (Shown a s ∷ H) rise = rises H (later_on (Shown a s) H rise)

pub published_rises : (s : Session) (H : List Entry) → IsLegal s H → IsStrictlyIncreasing (published_in H)
published_rises s H legal = rises H (legal_histories_move_on s H legal).1

-- ---- what is told of a board that is closed

-- watchers that kept the last publication saw some of them, which rise to it
pub is_watch : (s : Session) (H : List Entry) (readers : ℕ) (watchers : List WatcherView) → IsLegal s H → IsComplete s H → length watchers ≡ readers → All (KeptLast (published_in H)) watchers → IsWatchOf s readers (published_in H) (all_seen (published_in H) watchers)
is_watch s H readers watchers legal complete count kept =
    let published = published_in H in
    record {
      history = H;
      legal = legal;
      complete = complete;
      published_are = refl;
      count = length-map watchers (λ (w : WatcherView). seen_of published w.revisions) ∙ count;
      each = All-map (IsSeen published) (λ (w : WatcherView). seen_of published w.revisions) watchers (λ k d l. seen_end_with_the_last published _ (published_rises s H legal) (kept k d l));
    }

-- the same of what is made of a closed board
pub told_watch : (s : Session) (b : BoardView) → b.session ≡ s → IsLegal b.session b.entries → IsComplete b.session b.entries → (published : List ℕ) → published ≡ published_in b.entries → (readers : ℕ) (ws vs : List WatcherView) → vs ≡ ws → length ws ≡ readers
    → All (KeptLast (published_in b.entries)) ws → IsWatchOf s readers published (all_seen published vs)
told_watch s b of legal complete published are readers ws vs same count kept =
    subst (λ (x : Session). IsWatchOf x readers published (all_seen published vs)) of
    (subst (λ (ps : List ℕ). IsWatchOf b.session readers ps (all_seen ps vs)) (sym are) (subst (λ (l : List WatcherView). IsWatchOf b.session readers (published_in b.entries) (all_seen (published_in b.entries) l)) (sym same) (is_watch b.session b.entries readers ws legal complete count kept)))

-- ---- watchers that have watched

pub watched_ready : (shelf own : Book) (reads : ℕ) → own ≡ shelf → (now before after : List WatcherView) → now ≡ before → length after ≡ length before → All (IsFresh shelf reads) before → HaveWatched now after → All (IsReady own) after
watched_ready shelf own reads same now before after is long fresh watched k d l =
    let within : k < length before = omega (arith, l, long) in
    let w = subst (λ (ws : List WatcherView). HaveWatched ws after) is watched k d within in
    record { own = w.reader.same ∙ (fresh k d within).own ∙ sym same; place = w.place }

-- ---- the last publication is told

-- the last of the published revisions is that of a board's last surface
pub last_published : (v : BoardView) (snapshots : List Snapshot) → map parts_of snapshots ≡ v.surfaces → IsBoard v → (n : Snapshot) → newest_snapshot snapshots ≡ Some n → (last : ℕ) → last_in (published_in v.entries) ≡ Some last → (parts_of n).seams.revision ≡ last
last_published v snapshots same board n at last is = (newest_is v snapshots same board last (last_is (published_in v.entries) ∙ is) n at).1

-- there is none where there is no surface
pub none_published : (v : BoardView) (snapshots : List Snapshot) → map parts_of snapshots ≡ v.surfaces → IsBoard v → newest_snapshot snapshots ≡ None → (last : ℕ) → last_in (published_in v.entries) ≡ Some last → ⊥
none_published v snapshots same board none last is = some_newest v snapshots same board last (last_is (published_in v.entries) ∙ is) none

pub revisions_are : (v : BoardView) (snapshots : List Snapshot) → map parts_of snapshots ≡ v.surfaces → IsBoard v → map (λ (n : Snapshot). (parts_of n).seams.revision) snapshots ≡ published_in v.entries
revisions_are v snapshots same board = sym (map-map (λ (p : Parts). p.seams.revision) parts_of snapshots) ∙ ap (map (λ (p : Parts). p.seams.revision)) same ∙ board.surfaces.revisions

-- what was placed now is the last
pub placed_last : {E : Type 0} (r : Result (Unit {0}) E) (old new : ShelfView) (p : Parts) (revision : ℕ) → p.seams.revision ≡ revision → MatchResult r (λ _. new ≡ shelf_view old.shelf (old.surfaces ++ p ∷ [])) (λ _. new ≡ old) → OnOk r (last_revision new.surfaces ≡ Some revision)
placed_last (Ok done) old new p revision is placed = ap (λ (v : ShelfView). last_revision v.surfaces) placed ∙ ap (option_map (λ (q : Parts). q.seams.revision)) (last_push old.surfaces p) ∙ ap (λ (n : ℕ). Some n) is
placed_last (Err fault) old new p revision is placed = tt

pub placed_as_last : {E : Type 0} (r : Result (Unit {0}) E) (v : BoardView) (snapshots : List Snapshot) → map parts_of snapshots ≡ v.surfaces → IsBoard v → (n : Snapshot) → newest_snapshot snapshots ≡ Some n → (new : ShelfView) → OnOk r (last_revision new.surfaces ≡ Some (parts_of n).seams.revision)
    → OnOk r ((last : ℕ) → last_in (published_in v.entries) ≡ Some last → last_revision new.surfaces ≡ Some last)
placed_as_last (Ok done) v snapshots same board n at new placed = λ last is. placed ∙ ap (λ (k : ℕ). Some k) (last_published v snapshots same board n at last is)
placed_as_last (Err fault) v snapshots same board n at new placed = tt

pub same_shelf : {E : Type 0} (r : Result (Unit {0}) E) (old new : ShelfView) (surfaces : List Parts) → MatchResult r (λ _. new ≡ shelf_view old.shelf surfaces) (λ _. new ≡ old) → new.shelf ≡ old.shelf
same_shelf (Ok done) old new surfaces placed = ap (λ (v : ShelfView). v.shelf) placed
same_shelf (Err fault) old new surfaces placed = ap (λ (v : ShelfView). v.shelf) placed

-- what a watcher was told it kept
kept_told : (old new : List ℕ) (o : Option ℕ) → KeepsToo old new o → (last : ℕ) → o ≡ Some last → Contains new last
kept_told old new None keeps last is = absurd cc
kept_told old new (Some r) (inl keeps) last is =
    let same : r ≡ last = cc in
    subst (Contains new) same (subst (λ (l : List ℕ). Contains l r) (sym keeps.1) (keeps.0.0, get_below old keeps.0.0 r keeps.0.1, get_or_from_slice_get old keeps.0.0 r r keeps.0.1))
kept_told old new (Some r) (inr more) last is =
    let same : r ≡ last = cc in
    let first : Contains (r ∷ more.above) r = (zero, omega arith, refl) in
    subst (Contains new) same (subst (λ (l : List ℕ). Contains l r) (sym more.is) (Contains-append_right more.below (r ∷ more.above) r first))

-- a watcher kept the last of what was placed
abbrev pub KnowsLast : ShelfView → WatcherView → Type 0
KnowsLast placed w = (last : ℕ) → last_revision placed.surfaces ≡ Some last → Contains w.revisions last

pub knows_last : (placed note : ShelfView) (old new : WatcherView) → note ≡ placed → HasFinished old new note → KnowsLast placed new
knows_last placed note old new is finished last e = kept_told old.revisions new.revisions (last_revision note.surfaces) finished.revisions last (ap (λ (v : ShelfView). last_revision v.surfaces) is ∙ e)

module _ (ws : List WatcherView) (i : ℕ) (w : WatcherView) (within : i < length ws) where
  pub told_more : (placed : ShelfView) → KnowsLast placed w → ((k : ℕ) (d : WatcherView) → k < i → KnowsLast placed (get_or ws k d)) → (k : ℕ) (d : WatcherView) → k < i + 1 → KnowsLast placed (get_or (set ws i w) k d)
  told_more placed now before k d l = dite (dec_lt k i)
      (λ less. (let other : k ≢ i = omega (arith, less) in subst (KnowsLast placed) (sym (get_or-set_other ws i k w d other)) (before k d less)))
      (λ not. (let same : k ≡ i = omega (arith, not, l) in subst (λ (n : ℕ). KnowsLast placed (get_or (set ws i w) n d)) (sym same) (subst (KnowsLast placed) (sym (get_or-set_same ws i w d within)) now)))

  pub ready_still : (shelf : Book) → ((k : ℕ) (d : WatcherView) → i ≤ k → k < length ws → IsReady shelf (get_or ws k d)) → (k : ℕ) (d : WatcherView) → i + 1 ≤ k → k < length (set ws i w) → IsReady shelf (get_or (set ws i w) k d)
  ready_still shelf ready k d m l =
      let other : k ≢ i = omega (arith, m) in
      subst (IsReady shelf) (sym (get_or-set_other ws i k w d other)) (ready k d (omega (arith, m)) (omega (arith, l, length-set ws i w)))

-- ---- the lines of watchers

abbrev lines_of : List ℕ → List WatcherView → ℕ → List ℕ
lines_of published ws = λ reader. reader_line (reader + 1) (slice_index_or (all_seen published ws) reader [])

pub adds_reader : {v m w : View} (published : List ℕ) (ws : List WatcherView) (i number : ℕ) (kept : List ℕ) (d : WatcherView) → i < length ws → number ≡ i + 1 → kept ≡ (get_or ws i d).revisions → Adds v m (texts_below i (lines_of published ws)) → Adds m w (reader_line number (seen_of published kept)) → Adds v w (texts_below (i + 1) (lines_of published ws))
adds_reader {v} {m} {w} published ws i number kept d within numbered is before line =
    let seen : slice_index_or (all_seen published ws) i [] ≡ seen_of published kept = get_or-map (λ (x : WatcherView). seen_of published x.revisions) ws i d [] within ∙ ap (seen_of published) (sym is) in
    let same : reader_line number (seen_of published kept) ≡ lines_of published ws i = ap₂ reader_line numbered (sym seen) in
    adds_below (lines_of published ws) i before (subst (λ (t : List ℕ). Adds m w t) same line)

-- ---- how `watch` ends
-- the same lists under other names
pub same_watch : (s : Session) (readers : ℕ) (published ps : List ℕ) (ws vs : List WatcherView) → ps ≡ published → vs ≡ ws → IsWatchOf s readers published (all_seen published ws) → IsWatchOf s readers ps (all_seen ps vs)
same_watch s readers published ps ws vs same there told =
    subst (λ (x : List ℕ). IsWatchOf s readers x (all_seen x vs)) (sym same) (subst (λ (l : List WatcherView). IsWatchOf s readers published (all_seen published l)) (sym there) told)

pub few_watchers : (s : Session) (readers : ℕ) (published : List ℕ) (ws : List WatcherView) → IsWatchOf s readers published (all_seen published ws) → readers ≤ 8 → length ws ≤ 8
few_watchers s readers published ws told few =
    let count = told.count in
    let long = length-map ws (λ (w : WatcherView). seen_of published w.revisions) in
    omega (arith, count, long, few)

pub watch_ready : (watching : Watching) (r : Run) (s : Session) (published : List ℕ) (seen : List (List ℕ)) → ReadsAll r.told r.left (λ bytes. IsGiven (options_of watching.settings) bytes s) → IsWatchOf s watching.readers published seen
    → IfSome r.told (λ bytes. IsAnswerTo (Watch watching) bytes 0 (watch_text published seen) × IsUsedUp (Watch watching) r)
watch_ready watching r s published seen read told = if_told r.told _ (λ bytes t.
    let k = at_told r.told _ bytes t read in
    ((refl, record { session = s; published = published; seen = seen; given = k.0; told = told; written = refl }), k.1))
