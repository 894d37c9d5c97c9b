-- Curators and watchers later.
use Rattle.std.proofs.Common.{◌≡◌, ◌∙◌, ◌<◌, ◌≤◌, ℕ, List, [], ◌∷◌, ◌++◌, Option, Some, None, Result, Ok, Err, inl, inr, ap, arith, length, refl, subst, sym}
use Rattle.std.specs.Prelude.{MatchOption, OnOk, option_map}
use Rattle.std.specs.List.{All}
use mathlib.Core.List.{IsPrefix}
use Rattle.std.proofs.lemmas.List.Elements.{All-cons, All-head, All-push, All-tail, All-weaker}
use Rattle.surface_snapshots.specs.Parts.{Parts}
use Rattle.tile_board.specs.Histories.{newest_of}
use Rattle.tile_board.specs.Runs.{IsNoLater}
use Rattle.tile_board.proofs.ListLemmas.{last_push}
use Rattle.board_desk.specs.Passes.{DeskView, IsPassOf}
use Rattle.board_desk.proofs.Histories.{prefix_self, prefix_trans}
use Rattle.reader_desk.specs.Fronts.{HasAllOf, ShelfView, last_of, last_revision}
use Rattle.tile_workers.specs.Watching.{AreShown, CuratorView, HasCurated, HasKept, HasPlaced, HasRead, HasRoom, HasWatched, HaveWatched, KeepsAbove, KeepsToo, PlacesAbove, Shows, WatcherView}
use Rattle.tile_workers.proofs.ScriptLemmas.{more_self, more_trans, of_desk}

pub all_self : (p : ShelfView) → HasAllOf p p
all_self p = record { same = refl; begins = prefix_self p.surfaces }

pub all_trans : (p q r : ShelfView) → HasAllOf p q → HasAllOf q r → HasAllOf p r
all_trans p q r a b = record { same = b.same ∙ a.same; begins = prefix_trans p.surfaces q.surfaces r.surfaces a.begins b.begins }

pub curated_self : (c : CuratorView) → HasCurated c c
curated_self c = record { pass = more_self c.pass; shelf = all_self c.shelf }

pub curated_trans : (a b c : CuratorView) → HasCurated a b → HasCurated b c → HasCurated a c
curated_trans a b c p q = record { pass = more_trans a.pass b.pass c.pass p.pass q.pass; shelf = all_trans a.shelf b.shelf c.shelf p.shelf q.shelf }

pub curated_of : (d : DeskView) (a b : CuratorView) → IsPassOf d a.pass → HasCurated a b → IsPassOf d b.pass
curated_of d a b of more = of_desk d a.pass b.pass of more.pass

-- ---- what was placed
last_placed : (s : ShelfView) (p : Parts) → last_revision (s.surfaces ++ p ∷ []) ≡ Some p.seams.revision
last_placed s p = ap (option_map (λ (q : Parts). q.seams.revision)) (last_push s.surfaces p)

no_later_self : (r : ℕ) (o : Option ℕ) → o ≡ Some r → IsNoLater (Some r) o
no_later_self r o is = subst (IsNoLater (Some r)) (sym is) (omega arith)

up_to : (old new : ShelfView) (p : Parts) → PlacesAbove old new p → IsNoLater (Some p.seams.revision) (last_revision new.surfaces)
up_to old new p (inl placed) = no_later_self p.seams.revision (last_revision new.surfaces) (ap (λ (s : ShelfView). last_revision s.surfaces) placed.1 ∙ last_placed old p)
up_to old new p (inr kept) = subst (λ (s : ShelfView). IsNoLater (Some p.seams.revision) (last_revision s.surfaces)) (sym kept.1) kept.0

-- the newest surface was placed, if it is above what was placed last
pub has_placed : {E : Type 0} (r : Result (Unit {0}) E) (c : CuratorView) (old : ShelfView) (p : Parts) → newest_of c.pass.seen ≡ Some p.seams.revision → OnOk r (PlacesAbove old c.shelf p) → OnOk r (HasPlaced c)
has_placed (Ok done) c old p newest places = subst (λ (o : Option ℕ). IsNoLater o (last_revision c.shelf.surfaces)) (sym newest) (up_to old c.shelf p places)
has_placed (Err fault) c old p newest places = tt

pub none_placed : (c : CuratorView) → newest_of c.pass.seen ≡ None → HasPlaced c
none_placed c none = subst (λ (o : Option ℕ). IsNoLater o (last_revision c.shelf.surfaces)) (sym none) tt

-- ---- what was kept
pub shown_later : (old new : ShelfView) (revisions : List ℕ) → HasAllOf old new → AreShown old.surfaces revisions → AreShown new.surfaces revisions
shown_later old new revisions all shown =
    All-weaker (Shows old.surfaces) (Shows new.surfaces) (λ r s. (s.0, (prefix_trans s.0 old.surfaces new.surfaces s.1.0 all.begins, s.1.1))) revisions shown

pub shown_kept : (surfaces : List Parts) (old new : List ℕ) (r : ℕ) → AreShown surfaces old → last_revision surfaces ≡ Some r → KeepsAbove old new r → AreShown surfaces new
shown_kept surfaces old new r shown last (inl more) = subst (AreShown surfaces) (sym more.1) (All-push (Shows surfaces) old r shown (surfaces, (prefix_self surfaces, last)))
shown_kept surfaces old new r shown last (inr same) = subst (AreShown surfaces) (sym same.1) shown

-- a list with one more item, of which all hold
all_mid : {X : Type 0} (P : X → Type 0) (below above : List X) (x : X) → All P (below ++ above) → P x → All P (below ++ x ∷ above)
all_mid P [] above x all one = All-cons P x above one all
all_mid P (y ∷ below) above x all one = All-cons P y (below ++ x ∷ above) (All-head P y (below ++ above) all) (all_mid P below above x (All-tail P y (below ++ above) all) one)

pub shown_too : (note new : ShelfView) (before after : List ℕ) (o : Option ℕ) → o ≡ last_revision note.surfaces → HasAllOf note new → AreShown new.surfaces before → KeepsToo before after o → AreShown new.surfaces after
shown_too note new before after None told all shown keeps = subst (AreShown new.surfaces) (sym keeps) shown
shown_too note new before after (Some r) told all shown (inl there) = subst (AreShown new.surfaces) (sym there.1) shown
shown_too note new before after (Some r) told all shown (inr more) =
    subst (AreShown new.surfaces) (sym more.is) (all_mid (Shows new.surfaces) more.below more.above r (subst (AreShown new.surfaces) more.was shown) (note.surfaces, (all.begins, sym told)))

begins_above : (old new : List ℕ) (r : ℕ) → KeepsAbove old new r → IsPrefix old new
begins_above old new r (inl more) = (r ∷ [], sym more.1)
begins_above old new r (inr same) = subst (IsPrefix old) (sym same.1) (prefix_self old)

kept_above : (old new : List ℕ) (r : ℕ) → KeepsAbove old new r → IsNoLater (Some r) (last_of new)
kept_above old new r (inl more) = no_later_self r (last_of new) (ap last_of more.1 ∙ last_push old r)
kept_above old new r (inr same) = subst (λ (rs : List ℕ). IsNoLater (Some r) (last_of rs)) (sym same.1) same.0

kept_of : (o : Option ℕ) (old new : List ℕ) → MatchOption o (new ≡ old) (KeepsAbove old new) → IsNoLater o (last_of new)
kept_of None old new same = tt
kept_of (Some r) old new keeps = kept_above old new r keeps

begins_of : (o : Option ℕ) (old new : List ℕ) → MatchOption o (new ≡ old) (KeepsAbove old new) → IsPrefix old new
begins_of None old new same = subst (IsPrefix old) (sym same) (prefix_self old)
begins_of (Some r) old new keeps = begins_above old new r keeps

-- ---- a watcher that reads
-- some reads are done
pub record IsReading (old new : WatcherView) : Type 0 where
  pub reader : HasAllOf old.reader new.reader
  pub kept : IsPrefix old.revisions new.revisions
  pub last : new.reads < old.reads → HasKept new
  pub room : HasRoom new

pub reads_on : (a b c : WatcherView) → IsReading a b → HasRead b c → IsReading a c
reads_on a b c before read = record {
  reader = all_trans a.reader b.reader c.reader before.reader read.reader;
  kept = prefix_trans a.revisions b.revisions c.revisions before.kept (begins_of (last_revision c.reader.surfaces) b.revisions c.revisions read.kept);
  last = λ less. kept_of (last_revision c.reader.surfaces) b.revisions c.revisions read.kept;
  room = read.room;
}

pub watched_at : (p p' q q' : WatcherView) → p ≡ p' → q ≡ q' → HasWatched p q → HasWatched p' q'
watched_at p p' q q' a b watched = subst (λ (r : WatcherView × WatcherView). HasWatched r.0 r.1) (λ i. (a i, b i)) watched

-- for the crates above: watchers of a shelf are still of it, and each may finish
pub ready : (s : ShelfView) (before after : List WatcherView) → length after ≡ length before → All (λ w. w.reader.shelf ≡ s.shelf) before → HaveWatched before after → All (λ w. (1 ≤ w.room) × (w.reader.shelf ≡ s.shelf)) after
ready s before after count of watched k d l =
    let within : k < length before = omega (arith, l, count) in
    let w = watched k d within in (w.place, w.reader.same ∙ of k d within)
