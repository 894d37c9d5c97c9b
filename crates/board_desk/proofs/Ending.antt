-- What a pass keeps: what was added through it is what it has seen of its analyst, and an end that was told is one.
use Rattle.std.proofs.Common.{◌≡◌, ℕ, ◌||◌, Bool, true, false, List, [], length, Option, Some, None, Result, Ok, Err, refl, ap, sym, ◌∙◌, subst, slice_get}
use Rattle.std.specs.Result.{IfOk, OnErr}
use Rattle.std.proofs.lemmas.List.Sums.{length-filter}
use Rattle.atomic_table.specs.Seated.{TableId}
use Rattle.raster_model.specs.declared.session.Session.{Session}
use Rattle.tile_board.specs.declared.answers.Advance.{Advance}
use Rattle.tile_board.specs.declared.answers.Advance.TheVariants as advances
use Rattle.tile_board.specs.declared.answers.AdvanceFault.{AdvanceFault}
use Rattle.tile_board.specs.declared.entry.Entry.{Entry}
use Rattle.tile_board.specs.BoardView.{BoardView}
use Rattle.tile_board.specs.Calls.{IsAdvance}
use Rattle.tile_board.specs.Histories.{done_by, names, next_command, script_of}
use Rattle.board_desk.specs.declared.law.View.{View}
use Rattle.board_desk.specs.Answers.{tells_end}
use Rattle.board_desk.specs.Mine.{mine_of}
use Rattle.board_desk.specs.Passes.{IsSound}
use Rattle.board_desk.specs.Rules.{Grows, Held, Place, given, holding_it}
use Rattle.board_desk.specs.Seats.{pass_view}
use Rattle.board_desk.proofs.Histories.{same_mine}

-- how many commands an analyst has done, by its entries
pub done_is : (a : ℕ) (log : List Entry) → done_by a log ≡ length (mine_of (Some a) log)
done_is a log = sym (length-filter (names a) log)

pub count_own : (o : Option ℕ) (a n : ℕ) (log : List Entry) → o ≡ Some a → n ≡ done_by a log → n ≡ length (mine_of o log)
count_own o a n log is e = e ∙ (done_is a log ∙ ap (λ (p : Option ℕ). length (mine_of p log)) (sym is))

-- the next command hangs on the analyst's own entries
pub same_next : (s : Session) (a : ℕ) (xs ys : List Entry) → mine_of (Some a) xs ≡ mine_of (Some a) ys → next_command s xs a ≡ next_command s ys a
same_next s a xs ys e = ap (λ (n : ℕ). slice_get (script_of s a) n) (done_is a xs ∙ (ap (λ (l : List Entry). length l) e ∙ sym (done_is a ys)))

-- a call after which an end stays one
abbrev pub Stays : BoardView → BoardView → Option ℕ → Bool → Bool → Type 0
Stays b c o e f = (a : ℕ) → o ≡ Some a → (e ≡ true → next_command b.session b.entries a ≡ None) → f ≡ true → next_command b.session c.entries a ≡ None

pub sound_after : (t u : TableId) (e f : Bool) (m n k : Place) (b c : BoardView) → IsSound (pass_view t m e) → Held m.0 b n → k ≡ (given n.0 c.entries, []) → Stays b c m.0.own.analyst e f → IsSound (pass_view u k f)
sound_after t u e f m n k b c sound held back stays =
    let view : n.0 ≡ holding_it m.0 b.entries = ap (λ (p : Place). p.0) held.now in
    let after : k.0 ≡ given (holding_it m.0 b.entries) c.entries = ap (λ (p : Place). p.0) back ∙ ap (λ (w : View). given w c.entries) view in
    let goal : View → Type 0 = λ w. IsSound (pass_view u (w, []) f) in
    let same : IsSound (pass_view u (given (holding_it m.0 b.entries) c.entries, []) f) = record {
      exact = refl;
      at_end = λ on s a of who.
          let here : s ≡ b.session = held.session_is s of in
          let before : e ≡ true → next_command b.session b.entries a ≡ None = λ told.
          same_next b.session a b.entries m.0.own.seen (subst (λ (o : Option ℕ). mine_of o b.entries ≡ mine_of o m.0.own.seen) who (sym held.exact ∙ sound.exact))
          ∙ (ap (λ (x : Session). next_command x m.0.own.seen a) (sym here) ∙ sound.at_end told s a of who) in
          ap (λ (x : Session). next_command x c.entries a) here ∙ stays a who before on;
    } in
    let fields : IsSound (pass_view u (k.0, []) f) = subst goal (sym after) same in
    record { exact = fields.exact; at_end = fields.at_end }

-- where nobody's script moved
pub still_ended : (b c : BoardView) (o : Option ℕ) (e : Bool) → Grows None b c → Stays b c o e e
still_ended b c o e grows a who before on =
    same_next b.session a c.entries b.entries (ap (mine_of (Some a)) grows.log_is ∙ same_mine (Some a) b.entries grows.added (λ d is. grows.others d (λ no. cc no))) ∙ before on

-- a script that has ended has no next command to do, so no other answer follows
or_true : (x y : Bool) → (x || y) ≡ true → y ≡ false → x ≡ true
or_true true y h f = refl
or_true false true h f = absurd (cc f)
or_true false false h f = absurd (cc h)

no_command : {X : Type 0} (x : X) (o : Option X) → o ≡ Some x → o ≡ None → ⊥
no_command x o is none = cc (sym is ∙ none)

pub advance_stays : (b c : BoardView) (o : Option ℕ) (a : ℕ) (e : Bool) (answer : Result Advance AdvanceFault) → o ≡ Some a → IfOk answer (IsAdvance b c a) → OnErr answer (c ≡ b) → Stays b c o e (e || tells_end answer)
advance_stays b c o a e answer is ok err d who before on = subst (λ (x : ℕ). next_command b.session c.entries x ≡ None) same (at answer ok err on)
  where
    same : a ≡ d
    same = cc (is, who)

    none : e ≡ true → next_command b.session b.entries a ≡ None
    none on' = subst (λ (x : ℕ). next_command b.session b.entries x ≡ None) (sym same) (before on')

    unmoved : c ≡ b → next_command b.session b.entries a ≡ None → next_command b.session c.entries a ≡ None
    unmoved e' n = ap (λ (x : BoardView). next_command b.session x.entries a) e' ∙ n

    at : (answer : Result Advance AdvanceFault) → IfOk answer (IsAdvance b c a) → OnErr answer (c ≡ b) → (e || tells_end answer) ≡ true → next_command b.session c.entries a ≡ None
    at (Ok (advances.Revised r)) ok err on = absurd (no_command _ _ ok.2.adds.step (none (or_true e false on refl)))
    at (Ok (advances.Settled r)) ok err on = absurd (no_command _ _ ok.adds.step.0 (none (or_true e false on refl)))
    at (Ok (advances.Shown r)) ok err on = absurd (no_command _ _ ok.adds.step.0 (none (or_true e false on refl)))
    at (Ok (advances.NotYet r)) ok err on = absurd (no_command _ _ ok.0 (none (or_true e false on refl)))
    at (Ok advances.Ended) ok err on = unmoved ok.1 ok.0
    at (Err x) ok err on = unmoved err (none (or_true e false on refl))
