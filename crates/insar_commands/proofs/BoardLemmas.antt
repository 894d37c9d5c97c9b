-- The board on which a session's scripts are done.
use Rattle.std.proofs.Common.{◌≡◌, ◌∙◌, ℕ, zero, suc, ◌+◌, ◌<◌, List, [], ◌∷◌, ◌++◌, get_or, length, take, drop, None, refl, ap, sym, subst, arith, length-append}
use Rattle.std.specs.Prelude.{set}
use Rattle.std.proofs.lemmas.List.{length-set}
use Rattle.std.specs.List.{All}
use Rattle.raster_model.specs.declared.session.Session.{Session}
use Rattle.tile_board.specs.declared.entry.Entry.{Entry}
use Rattle.tile_board.specs.Histories.{IsComplete}
use Rattle.board_desk.specs.Passes.{DeskView, IsLaterPass, IsPassOf, IsSound, Merged, PassView, Stands, first_pass, first_passes, worker_pass}
use Rattle.board_desk.proofs.CallerLemmas.{later_merged, later_trans, still_of_desk}
use Rattle.tile_workers.specs.Scripts.{AreEnded, AreLater, HasScriptEnded}
use Rattle.tile_workers.proofs.CallerLemmas.{complete}
use Rattle.insar_commands.specs.Desks.{AreFirst, HaveRun, passes_at_start}

-- ---- the passes that the run wrote back
module _ {A : Type 0} where
  written : (ys zs : List A) → length ys ≡ length zs → take (length zs) (ys ++ drop (length ys) zs) ≡ ys
  written [] [] h = refl
  written [] (z ∷ zs) h = absurd (omega arith)
  written (y ∷ ys) [] h = absurd (omega arith)
  written (y ∷ ys) (z ∷ zs) h = ap (λ (l : List A). y ∷ l) (written ys zs (omega arith))

  pub all_written : (ys zs : List A) (n : ℕ) → n ≡ length zs → length ys ≡ length zs → take n (ys ++ drop (length ys) zs) ≡ ys
  all_written ys zs n is h = ap (λ (k : ℕ). take k (ys ++ drop (length ys) zs)) is ∙ written ys zs h

pub all_at : (P : PassView → Type 0) (ws ys : List PassView) → ws ≡ ys → All P ys → All P ws
all_at P ws ys e all = subst (All P) (sym e) all

-- they are still of the desk
pub later_own : (d : DeskView) (before after : List PassView) → length after ≡ length before → AreLater before after → All (IsPassOf d) before → All (IsPassOf d) after
later_own d before after count later own k p l = (let less : k < length before = omega (arith, l, count) in still_of_desk d _ _ (own k p less) (later k p less))

pub later_from : (xs ys zs : List PassView) → xs ≡ zs → AreLater xs ys → AreLater zs ys
later_from xs ys zs e later = subst (λ (l : List PassView). AreLater l ys) e later

-- passes that began as the first ones, and have ended
pub have_run : (d : DeskView) (xs ys : List PassView) → xs ≡ passes_at_start d → length ys ≡ length xs → AreLater xs ys → All (IsPassOf d) xs → AreEnded ys → HaveRun d ys
have_run d xs ys first count later own ended = record { own = later_own d xs ys count later own; count = count ∙ ap length first; later = later_from xs ys (passes_at_start d) first later; ended = ended }

-- where the analysts are done, the history is complete
pub complete_of : (s : Session) (d : DeskView) (log : List Entry) (passes : List PassView) → s ≡ d.session → HaveRun d passes → All (Stands log) passes → IsComplete s log
complete_of s d log passes is run stand = rw is (complete d log (passes_at_start d) passes refl run.count run.later run.ended stand)

-- ---- a desk with a worker's pass besides
first_count : (d : DeskView) (n : ℕ) → length (first_passes d n) ≡ n
first_count d zero = refl
first_count d (suc n) = length-append (first_passes d n) (first_pass d (n + 1) ∷ []) ∙ omega (arith, first_count d n)

-- a session has an analyst, so there is a first pass
some_at_start : (d : DeskView) → 0 < length (passes_at_start d)
some_at_start d =
    let many = first_count d (length d.session.scripts.items) in
    let analysts = d.session.analysts.0 in
    let sized = d.session.scripts.ok.0 in
    omega (arith, many, analysts, sized)

pub some_first : (d : DeskView) (passes : List PassView) → AreFirst d passes → 0 < length passes
some_first d passes first = (let e = ap length first.first in let some = some_at_start d in omega (arith, e, some))

pub some_run : (d : DeskView) (passes : List PassView) → HaveRun d passes → 0 < length passes
some_run d passes run = (let e = run.count in let some = some_at_start d in omega (arith, e, some))

-- the first of a list was replaced
module _ (q : PassView) where
  all_with : (P : PassView → Type 0) (ps : List PassView) → All P ps → P q → All P (set ps 0 q)
  all_with P [] all now k d l = absurd (omega (arith, l))
  all_with P (p ∷ ps) all now zero d l = now
  all_with P (p ∷ ps) all now (suc k) d l = all (suc k) d l

  later_with : (before after : List PassView) → length after ≡ length before → AreLater before after → ((p : PassView) → IsLaterPass p (get_or after 0 p) → IsLaterPass p q) → AreLater before (set after 0 q)
  later_with before [] same later now k d l = absurd (omega (arith, same, l))
  later_with before (a ∷ after) same later now zero d l = now (get_or before 0 d) (later zero d l)
  later_with before (a ∷ after) same later now (suc k) d l = later (suc k) d l

-- the first pass of analysts that are done took a worker's pass in
pub gave_back : (d : DeskView) (passes : List PassView) (p w q : PassView) → get_or passes 0 p ≡ p → HaveRun d passes → Merged p w q → IsSound q → HaveRun d (set passes 0 q)
gave_back d passes p w q is run merged sound =
    let some = some_run d passes run in
    let own : IsPassOf d p = subst (IsPassOf d) is (run.own 0 p some) in
    let done : HasScriptEnded p = subst HasScriptEnded is (run.ended 0 p some) in
    let ended = merged.still.ended ∙ done.ended in
    let count = length-set passes 0 q in
    record {
      own = all_with q (IsPassOf d) passes run.own (still_of_desk d p q own (later_merged p w q merged));
      count = count ∙ run.count;
      later = later_with q (passes_at_start d) passes run.count run.later (λ s l. later_trans s p q (subst (IsLaterPass s) (first_is passes p s is some) l) (later_merged p w q merged));
      ended = all_with q HasScriptEnded passes run.ended (record { ended = ended; exact = sound.exact; at_end = sound.at_end ended });
    }
  where
    first_is : (ps : List PassView) (p s : PassView) → get_or ps 0 p ≡ p → 0 < length ps → get_or ps 0 s ≡ p
    first_is [] p s e l = absurd (omega (arith, l))
    first_is (x ∷ ps) p s e l = e

-- a worker's pass of the first pass is of the desk, and has no analyst
pub worker_own : (d : DeskView) (passes : List PassView) (e w v : PassView) → AreFirst d passes → w ≡ worker_pass (get_or passes 0 e) → v ≡ w → IsPassOf d v × (v.analyst ≡ None)
worker_own d passes e w v first is same =
    let own = first.own 0 e (some_first d passes first) in
    let all = same ∙ is in
    (record { table = ap (λ (p : PassView). p.table) all ∙ own.table; session = ap (λ (p : PassView). p.session) all ∙ own.session }, ap (λ (p : PassView). p.analyst) all)
