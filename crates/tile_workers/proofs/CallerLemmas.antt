-- For the crates above: where every analyst's script has ended and every pass stands in a history, that history is complete.
use Rattle.std.proofs.Common.{◌≡◌, ℕ, zero, suc, ◌+◌, ◌<◌, ◌≤◌, List, [], ◌∷◌, ◌++◌, length, get_or, Option, Some, None, slice_get, refl, ap, sym, ◌∙◌, subst, arith, length-append}
use Rattle.std.specs.List.{All}
use mathlib.Core.Logic.{dite}
use native.Mathlib.Decide.{dec_lt}
use Rattle.raster_model.specs.declared.session.Session.{Session}
use Rattle.raster_model.specs.declared.script.Script.{Script}
use Rattle.tile_board.specs.declared.entry.Entry.{Entry}
use Rattle.tile_board.specs.Histories.{IsComplete, commands_of, done_by, next_command}
use Rattle.tile_board.proofs.ListLemmas.{get_beyond}
use Rattle.board_desk.specs.Mine.{mine_of}
use Rattle.board_desk.specs.Passes.{DeskView, PassView, Stands, first_pass, first_passes}
use Rattle.board_desk.proofs.Ending.{same_next}
use Rattle.tile_workers.specs.Scripts.{AreEnded, AreLater, HasScriptEnded}

-- ---- the passes of a desk, by place
module _ {A : Type 0} where
  get_left : (xs ys : List A) (k : ℕ) (d : A) → k < length xs → get_or (xs ++ ys) k d ≡ get_or xs k d
  get_left [] ys k d l = absurd (omega arith)
  get_left (x ∷ xs) ys zero d l = refl
  get_left (x ∷ xs) ys (suc k) d l = get_left xs ys k d (omega arith)

  get_end : (xs : List A) (x d : A) (k : ℕ) → k ≡ length xs → get_or (xs ++ x ∷ []) k d ≡ x
  get_end [] x d zero e = refl
  get_end [] x d (suc k) e = absurd (omega arith)
  get_end (y ∷ xs) x d zero e = absurd (omega arith)
  get_end (y ∷ xs) x d (suc k) e = get_end xs x d k (omega arith)

first_count : (d : DeskView) (n : ℕ) → length (first_passes d n) ≡ n
first_count d zero = refl
first_count d (suc n) = length-append (first_passes d n) (first_pass d (n + 1) ∷ []) ∙ omega (arith, first_count d n)

first_at : (d : DeskView) (n k : ℕ) (p : PassView) → k < n → get_or (first_passes d n) k p ≡ first_pass d (k + 1)
first_at d zero k p l = absurd (omega arith)
first_at d (suc n) k p l = dite (dec_lt k n)
    (λ less. get_left (first_passes d n) (first_pass d (n + 1) ∷ []) k p (omega (arith, less, first_count d n)) ∙ first_at d n k p less)
    (λ not. (
    let e : k ≡ n = omega (arith, not, l) in
    get_end (first_passes d n) (first_pass d (n + 1)) p k (e ∙ sym (first_count d n)) ∙ ap (λ (a : ℕ). first_pass d (a + 1)) (sym e)))

-- ---- a script at its end
ends : (s : Session) (log : List Entry) (p : PassView) (a : ℕ) → p.session ≡ Some s → p.analyst ≡ Some a → Stands log p → HasScriptEnded p → next_command s log a ≡ None
ends s log p a of who stands done =
    same_next s a log p.seen (subst (λ (o : Option ℕ). mine_of o log ≡ mine_of o p.seen) who (sym stands.exact ∙ done.exact)) ∙ done.at_end s a of who

none_done : (s : Session) (log : List Entry) (k : ℕ) → length s.scripts.items ≤ k → next_command s log (suc k) ≡ None
none_done s log k l =
    ap (λ (o : Option Script). slice_get (commands_of o) (done_by (suc k) log)) (get_beyond s.scripts.items k l) ∙ get_beyond [] (done_by (suc k) log) (omega arith)

module _ (d : DeskView) (log : List Entry) (before after : List PassView) where
  ended_at : before ≡ first_passes d (length d.session.scripts.items) → length after ≡ length before → AreLater before after → AreEnded after → All (Stands log) after → (a : ℕ) → next_command d.session log a ≡ None
  ended_at first count later ended stand zero = get_beyond [] (done_by 0 log) (omega arith)
  ended_at first count later ended stand (suc k) = dite (dec_lt k (length d.session.scripts.items)) here (λ not. none_done d.session log k (omega (arith, not)))
    where
      here : k < length d.session.scripts.items → next_command d.session log (suc k) ≡ None
      here less =
          let p : PassView = first_pass d (k + 1) in
          let many : length before ≡ length d.session.scripts.items = ap length first ∙ first_count d (length d.session.scripts.items) in
          let was : get_or before k p ≡ p = ap (λ (l : List PassView). get_or l k p) first ∙ first_at d (length d.session.scripts.items) k p less in
          let on = later k p (omega (arith, less, many)) in
          let there : k < length after = omega (arith, less, many, count) in
          let number : k + 1 ≡ suc k = omega arith in
          ends d.session log (get_or after k p) (suc k) (on.same.session ∙ ap (λ (q : PassView). q.session) was) (on.same.analyst ∙ (ap (λ (q : PassView). q.analyst) was ∙ ap (λ (n : ℕ). Some n) number)) (stand k p there) (ended k p there)

  pub complete : before ≡ first_passes d (length d.session.scripts.items) → length after ≡ length before → AreLater before after → AreEnded after → All (Stands log) after → IsComplete d.session log
  complete first count later ended stand a = ended_at first count later ended stand a
