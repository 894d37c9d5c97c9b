-- Boards after more work: what stays, and how much is left to do.
use Rattle.std.proofs.Common.{◌≡◌, ◌≢◌, ◌∙◌, ℕ, zero, suc, ◌+◌, ◌-◌, ◌<◌, ◌≤◌, ◌⊎◌, inl, inr, refl, sym, ap, subst, arith, Bool, true, false, List, [], ◌∷◌, ◌++◌, length, Some, None}
use Rattle.std.specs.Prelude.{IsTrue, OnErr, OnOk, Result, Ok, Err, cond, slice_get, ◌&&◌, ◌||◌, ◌==◌}
use Rattle.std.proofs.lemmas.Bool.{cases_lt, or_right, or_left}
use Rattle.std.proofs.lemmas.List.{append-nil, append_assoc}
use Rattle.std.proofs.lemmas.List.Sums.{sum_by-append}
use Rattle.raster_model.specs.declared.script.Command.{Command}
use Rattle.raster_model.specs.declared.script.Command.TheVariants.{Change, Settle, Show}
use Rattle.raster_model.specs.declared.script.Script.{Script}
use Rattle.raster_model.specs.declared.session.Session.{Session}
use Rattle.raster_model.specs.Tiles.{tiles_of}
use Rattle.certificates.specs.declared.results.SeamResult.{SeamResult}
use Rattle.certificates.specs.declared.results.TileResult.{TileResult}
use Rattle.tile_board.specs.declared.answers.Advance.{Advance}
use Rattle.tile_board.specs.declared.answers.Advance.TheVariants as advances
use Rattle.tile_board.specs.declared.entry.Entry.{Entry}
use Rattle.tile_board.specs.declared.entry.Entry.TheVariants.{Revised, Kept, Published, Settled, Shown}
use Rattle.tile_board.specs.declared.gathered.Gathered.{Gathered}
use Rattle.tile_board.specs.BoardView.{BoardView}
use Rattle.tile_board.specs.Calls.{AddsEntry, IsAdvance, IsGathering, IsKeep, IsPublication, MayPublish, MaySettle}
use Rattle.tile_board.specs.Histories.{IsComplete, commands_of, done_by, is_kept, keeps, names, newest_of, next_command, now_of, script_of, stamp_in}
use Rattle.tile_board.proofs.HistoryLemmas.{done_push, edits_same, kept_push, newest_same}
use Rattle.tile_board.proofs.ListLemmas.{get_below, get_beyond, get_none}
use Rattle.collector_core.specs.Finishing.{IsLater, OnlyKept, commands_left, tiles_left}
use Rattle.collector_core.proofs.CountLemmas.{fewer}
use Rattle.sums_and_lists.proofs.Orders.{below_or_last}
use Rattle.sums_and_lists.proofs.Tests.{same_number}

-- ---- later boards
pub later_same : (v : BoardView) → IsLater v v
later_same v = record { session = refl; begins = ([], sym (append-nil v.entries)) }

pub later_trans : (u v w : BoardView) → IsLater u v → IsLater v w → IsLater u w
later_trans u v w a b = record {
  session = b.session ∙ a.session;
  begins = (a.begins.0 ++ b.begins.0, b.begins.1 ∙ ap (λ (H : List Entry). H ++ b.begins.0) a.begins.1 ∙ append_assoc u.entries a.begins.0 b.begins.0);
}

pub later_adds : (old new : BoardView) (e : Entry) → AddsEntry old new e → IsLater old new
later_adds old new e a = record { session = a.session; begins = (e ∷ [], a.entries) }

-- ---- commands
-- an analyst whose commands are done stays so
past_end : {A : Type 0} (xs : List A) (m n : ℕ) → m ≤ n → slice_get xs m ≡ None → slice_get xs n ≡ None
past_end xs m n l e = (let k = get_none xs m e in get_beyond xs n (omega (arith, k, l)))

done_grows : (a : ℕ) (H more : List Entry) → done_by a H ≤ done_by a (H ++ more)
done_grows a H more = omega (arith, sum_by-append (λ (x : Entry). cond (names a x) 1 0) H more)

pub ended_stays : (old new : BoardView) (a : ℕ) → IsLater old new → next_command old.session old.entries a ≡ None → next_command new.session new.entries a ≡ None
ended_stays old new a later end =
    let grown : done_by a old.entries ≤ done_by a new.entries = subst (λ (H : List Entry). done_by a old.entries ≤ done_by a H) (sym later.begins.1) (done_grows a old.entries later.begins.0) in
    subst (λ (s : Session). next_command s new.entries a ≡ None) (sym later.session) (past_end (script_of old.session a) (done_by a old.entries) (done_by a new.entries) grown end)

-- a number that is no analyst's has no command
none_in : (scripts : List Script) (k n : ℕ) → length scripts ≤ k → slice_get (commands_of (slice_get scripts k)) n ≡ None
none_in scripts k n l = rw (get_beyond scripts k l) refl

pub complete_at : (s : Session) (H : List Entry) → ((a : ℕ) → a < length s.scripts.items + 1 → next_command s H a ≡ None) → IsComplete s H
complete_at s H ended zero = refl
complete_at s H ended (suc k) = elim (cases_lt k (length s.scripts.items)) [
  | inl below ↦ ended (suc k) (omega (arith, below))
  | inr beyond ↦ none_in s.scripts.items k (done_by (suc k) H) beyond
]

-- a command done is a command less
fewer_left : (n d e : ℕ) → d < n → e ≡ d + 1 → n - e < n - d
fewer_left n d e l q = omega (arith, l, q)

done_once : (H K : List Entry) (e : Entry) (a : ℕ) → K ≡ H ++ (e ∷ []) → names a e ≡ true → done_by a K ≡ done_by a H + 1
done_once H K e a k n = ap (done_by a) k ∙ done_push H e a ∙ ap (λ (b : Bool). done_by a H + cond b 1 0) n

pub does_more : (old new : BoardView) (e : Entry) (a : ℕ) (c : Command) → AddsEntry old new e → names a e ≡ true → next_command old.session old.entries a ≡ Some c → commands_left a new < commands_left a old
does_more old new e a c adds named next =
    subst (λ (s : Session). length (script_of s a) - done_by a new.entries < commands_left a old) (sym adds.session)
    (fewer_left (length (script_of old.session a)) (done_by a old.entries) (done_by a new.entries)
    (get_below (script_of old.session a) (done_by a old.entries) c next)
    (done_once old.entries new.entries e a adds.entries named))

-- ---- tiles kept
-- an entry that keeps a tile does no command, edits nothing and publishes nothing
pub keeps_only : (old new : BoardView) (k : TileResult) → IsKeep old new k → OnlyKept old new
keeps_only old new k kept =
    let e = Kept k.tile k.stamp in
    record {
      later = later_adds old new e kept.adds;
      done = λ a. ap (done_by a) kept.adds.entries ∙ done_push old.entries e a ∙ omega arith;
      now = ap now_of kept.adds.entries ∙ ap (λ (l : List _). length l) (edits_same old.entries e refl);
      newest = ap newest_of kept.adds.entries ∙ newest_same old.entries e refl;
    }

pub only_same : (v : BoardView) → OnlyKept v v
only_same v = record { later = later_same v; done = λ a. refl; now = refl; newest = refl }

pub only_trans : (u v w : BoardView) → OnlyKept u v → OnlyKept v w → OnlyKept u w
only_trans u v w a b = record {
  later = later_trans u v w a.later b.later;
  done = λ n. b.done n ∙ a.done n;
  now = b.now ∙ a.now;
  newest = b.newest ∙ a.newest;
}

-- what an analyst is to do stays
pub next_same : (old new : BoardView) (a : ℕ) → OnlyKept old new → next_command new.session new.entries a ≡ next_command old.session old.entries a
next_same old new a only = ap (λ (s : Session). slice_get (script_of s a) (done_by a new.entries)) only.later.session ∙ ap (slice_get (script_of old.session a)) (only.done a)

pub left_same : (old new : BoardView) (a : ℕ) → OnlyKept old new → commands_left a new ≡ commands_left a old
left_same old new a only = ap (λ (s : Session). length (script_of s a) - done_by a new.entries) only.later.session ∙ ap (λ (n : ℕ). length (script_of old.session a) - n) (only.done a)

keeps_itself : (t r s : ℕ) → r ≡ s → IsTrue ((t == t) && (r == s))
keeps_itself t r s e = grind arith

pub keeps_more : (old new : BoardView) (k : TileResult) → IsKeep old new k → tiles_left new < tiles_left old
keeps_more old new k kept =
    let e = Kept k.tile k.stamp in
    let s = old.session in
    let H = old.entries in
    let told = λ (t : ℕ). ap (λ (K : List Entry). is_kept s K t) kept.adds.entries ∙ kept_push s H e t refl in
    subst (λ (u : Session). tiles_left (record { session = u; entries = new.entries; kept = new.kept; surfaces = new.surfaces }) < tiles_left old) (sym kept.adds.session)
    (fewer (is_kept s H) (is_kept s new.entries)
    (λ t passes. told t ∙ or_left (is_kept s H t) (keeps t (stamp_in s H t) e) passes)
    (tiles_of s.scene.tiling) k.tile kept.adds.step.0 kept.adds.step.2
    (told k.tile ∙ or_right (is_kept s H k.tile) (keeps k.tile (stamp_in s H k.tile) e) (keeps_itself k.tile k.stamp (stamp_in s H k.tile) kept.adds.step.1)))

-- ---- results of calls
-- a result was kept, or nothing was done
pub kept_either : {T E : Type 0} (r : Result T E) (old new : BoardView) (k : TileResult) → OnOk r (IsKeep old new k) → OnErr r (new ≡ old) → OnlyKept old new
kept_either (Ok x) old new k kept same = keeps_only old new k kept
kept_either (Err e) old new k kept same = subst (OnlyKept old) (sym same) (only_same old)

-- a surface was published, or nothing was done
pub published_either : {T E : Type 0} (r : Result T E) (old new : BoardView) (a : ℕ) (seams : SeamResult) → OnOk r (IsPublication old new a seams) → OnErr r (new ≡ old) → IsLater old new
published_either (Ok x) old new a seams published same = later_adds old new (Published a seams.revision) published.adds
published_either (Err e) old new a seams published same = subst (IsLater old) (sym same) (later_same old)

-- what a settle command needs of a board on which only tiles were kept since
pub may_publish : (old mid : BoardView) (a : ℕ) (g : Gathered) (seams : SeamResult) → OnlyKept old mid → MaySettle old a → (newest_of old.entries ≢ Some (now_of old.entries)) → IsGathering mid g → seams.revision ≡ g.revision → MayPublish mid a seams
may_publish old mid a g seams only settles fresh gathering stamp =
    let now : seams.revision ≡ now_of mid.entries = stamp ∙ gathering.revision in
    (((next_same old mid a only ∙ settles, now), λ e. fresh (sym only.newest ∙ e ∙ ap Some (now ∙ only.now))), gathering.ready)

pub settled_more : (old mid new : BoardView) (a : ℕ) (seams : SeamResult) → OnlyKept old mid → IsPublication mid new a seams → commands_left a new < commands_left a old
settled_more old mid new a seams only published =
    let less = does_more mid new (Published a seams.revision) a Settle published.adds (same_number a) published.adds.step.0 in
    omega (arith, less, left_same old mid a only)

-- an analyst's next command
pub advanced_later : (old new : BoardView) (a : ℕ) (answer : Advance) → IsAdvance old new a answer → IsLater old new
advanced_later old new a (advances.Revised r) is = later_adds old new (Revised a is.1) is.2.adds
advanced_later old new a (advances.Settled r) is = later_adds old new (Settled a r) is.adds
advanced_later old new a (advances.Shown r) is = later_adds old new (Shown a r) is.adds
advanced_later old new a (advances.NotYet r) is = subst (IsLater old) (sym is.3) (later_same old)
advanced_later old new a advances.Ended is = subst (IsLater old) (sym is.1) (later_same old)

-- it was done, unless it is a settle command that waits, or there is none
abbrev pub IsUndone : Advance → Type 0
IsUndone answer = ((r : ℕ) × (answer ≡ advances.NotYet r)) ⊎ (answer ≡ advances.Ended)

pub advanced_more : (old new : BoardView) (a : ℕ) (answer : Advance) → IsAdvance old new a answer → (commands_left a new < commands_left a old) ⊎ IsUndone answer
advanced_more old new a (advances.Revised r) is = inl (does_more old new (Revised a is.1) a (Change is.1) is.2.adds (same_number a) is.2.adds.step)
advanced_more old new a (advances.Settled r) is = inl (does_more old new (Settled a r) a Settle is.adds (same_number a) is.adds.step.0)
advanced_more old new a (advances.Shown r) is = inl (does_more old new (Shown a r) a Show is.adds (same_number a) is.adds.step.0)
advanced_more old new a (advances.NotYet r) is = inr (inl (r, refl))
advanced_more old new a advances.Ended is = inr (inr refl)

-- ---- one script after another

pub one_more_ended : (old new : BoardView) (n : ℕ) → IsLater old new → ((a : ℕ) → a < n → next_command old.session old.entries a ≡ None) → next_command new.session new.entries n ≡ None → (a : ℕ) → a < n + 1 → next_command new.session new.entries a ≡ None
one_more_ended old new n later before here a l = elim (below_or_last a n l) [
  | inl k ↦ ended_stays old new a later (before a k)
  | inr e ↦ subst (λ (b : ℕ). next_command new.session new.entries b ≡ None) (sym e) here
]
