-- What a call tells of its pass.
use Rattle.std.proofs.Common.{◌≡◌, ◌≢◌, ◌∙◌, ℕ, ◌==◌, Bool, true, cond, List, [], ◌∷◌, ◌++◌, Option, Some, None, Result, Ok, Err, length, slice_get, refl, ap, sym, subst}
use Rattle.std.proofs.lemmas.Bool.{eq-eqb}
use Rattle.std.specs.Result.{OnErr, OnOk}
use mathlib.Core.List.{IsPrefix}
use Rattle.atomic_table.specs.Seated.{TableId}
use Rattle.raster_model.specs.declared.script.Command.{Command}
use Rattle.raster_model.specs.declared.script.Command.TheVariants.{Change, Settle, Show}
use Rattle.raster_model.specs.declared.script.Edit.{Edit}
use Rattle.raster_model.specs.declared.session.Session.{Session}
use Rattle.raster_model.specs.MaskView.{MaskView}
use Rattle.certificates.specs.declared.results.SeamResult.{SeamResult}
use Rattle.certificates.specs.declared.results.TileResult.{TileResult}
use Rattle.tile_board.specs.declared.answers.Advance.{Advance}
use Rattle.tile_board.specs.declared.answers.Advance.TheVariants as advances
use Rattle.tile_board.specs.declared.answers.AdvanceFault.{AdvanceFault}
use Rattle.tile_board.specs.declared.answers.PublishFault.{PublishFault}
use Rattle.tile_board.specs.declared.answers.PublishFault.TheVariants as publish_faults
use Rattle.tile_board.specs.declared.entry.Entry.{Entry}
use Rattle.tile_board.specs.declared.entry.Entry.TheVariants.{Published, Revised, Settled, Shown}
use Rattle.tile_board.specs.BoardView.{BoardView}
use Rattle.surface_snapshots.specs.Parts.{Parts}
use Rattle.tile_board.specs.Calls.{IsMadePublication, IsPublication, WasGood, WasGoodAt, WasMask, WasMaskAt}
use Rattle.tile_board.specs.Histories.{names, next_command, script_of}
use Rattle.board_desk.specs.Answers.{AdvanceAnswers, AwaitsSurface, IsOfSettle, MadeAnswers, OwnAdvance, OwnPublish, PublishAnswers}
use Rattle.board_desk.specs.Mine.{mine_of}
use Rattle.board_desk.specs.Passes.{AddsOwn, Called, HasNotMoved, IsAtSettle, PassView}
use Rattle.board_desk.specs.Rules.{Grows, Held, Place, given}
use Rattle.board_desk.specs.Seats.{pass_view}
use Rattle.board_desk.proofs.Ending.{Stays, done_is}
use Rattle.board_desk.proofs.Histories.{mine_of-append, same_mine}

-- ---- calls that add nothing in anyone's name
pub not_moved : (t u : TableId) (e : Bool) (m n k : Place) (b c : BoardView) (p : PassView) → pass_view t m e ≡ p → Held m.0 b n → k ≡ (given n.0 c.entries, []) → Grows None b c → HasNotMoved p (pass_view u k e)
not_moved t u e m n k b c p view held back grows =
    let analyst : n.0.own.analyst ≡ m.0.own.analyst = ap (λ (x : Place). x.0.own.analyst) held.now in
    let after : k.0.own.mine ≡ mine_of m.0.own.analyst c.entries = ap (λ (x : Place). x.0.own.mine) back ∙ ap (λ (o : Option ℕ). mine_of o c.entries) analyst in
    let same : mine_of m.0.own.analyst c.entries ≡ mine_of m.0.own.analyst b.entries = ap (mine_of m.0.own.analyst) grows.log_is ∙ same_mine m.0.own.analyst b.entries grows.added (λ d is. grows.others d (λ no. cc no)) in
    record {
      mine = after ∙ (same ∙ (sym held.exact ∙ ap (λ (x : PassView). x.mine) view));
      ended = ap (λ (x : PassView). x.ended) view;
    }

-- ---- what was good, and the mask, at the end of what a pass had seen
pub was_good : (t : TableId) (e : Bool) (m n : Place) (b : BoardView) (p : PassView) (s : Session) (k : TileResult) → pass_view t m e ≡ p → p.session ≡ Some s → Held m.0 b n → WasGoodAt s p.seen k → WasGood b k
was_good t e m n b p s k view of held was = record {
  earlier = p.seen;
  begins = subst (λ (x : PassView). IsPrefix x.seen b.entries) view held.begins;
  was = subst (λ (x : Session). WasGoodAt x p.seen k) (held.session_is s (ap (λ (x : PassView). x.session) view ∙ of)) was;
}

pub was_mask : (t : TableId) (e : Bool) (m n : Place) (b : BoardView) (p : PassView) (s : Session) (mask : MaskView) (r : ℕ) → pass_view t m e ≡ p → p.session ≡ Some s → Held m.0 b n → WasMaskAt s p.seen mask r → WasMask b mask r
was_mask t e m n b p s mask r view of held was = record {
  earlier = p.seen;
  begins = subst (λ (x : PassView). IsPrefix x.seen b.entries) view held.begins;
  was = subst (λ (x : Session). WasMaskAt x p.seen mask r) (held.session_is s (ap (λ (x : PassView). x.session) view ∙ of)) was;
}

-- ---- calls in an analyst's name
pub some_of : (o : Option ℕ) → o ≢ None → (a : ℕ) × (o ≡ Some a)
some_of None h = absurd (h refl)
some_of (Some a) h = (a, refl)

self : (a : ℕ) → (a == a) ≡ true
self a = eq-eqb a a refl

module _ (s : Session) (p q : PassView) (answers : BoardView → BoardView → Type 0) (c : Called s p q answers) (a : ℕ) (is : p.analyst ≡ Some a) where
  own_before : mine_of (Some a) c.before.entries ≡ p.mine
  own_before = ap (λ (o : Option ℕ). mine_of o c.before.entries) (sym is) ∙ sym c.exact

  next_there : next_command c.before.session c.before.entries a ≡ slice_get (script_of s a) (length p.mine)
  next_there =
      ap (λ (x : Session). next_command x c.before.entries a) c.session ∙ ap (λ (n : ℕ). slice_get (script_of s a) n) (done_is a c.before.entries ∙ ap (λ (l : List Entry). length l) own_before)

  own_after : q.mine ≡ mine_of (Some a) c.after.entries
  own_after =
      c.mine
      ∙ (ap (λ (o : Option ℕ). p.mine ++ mine_of o c.added) is
      ∙ (ap (λ (l : List Entry). l ++ mine_of (Some a) c.added) (sym own_before) ∙ (sym (mine_of-append (Some a) c.before.entries c.added) ∙ ap (mine_of (Some a)) (sym c.grown))))

  added_own : (entry : ℕ → Entry) → names a (entry a) ≡ true → c.after.entries ≡ c.before.entries ++ entry a ∷ [] → AddsOwn p q entry
  added_own entry named grown = record {
    analyst = a;
    is = is;
    mine = own_after
        ∙ (ap (mine_of (Some a)) grown
        ∙ (mine_of-append (Some a) c.before.entries (entry a ∷ [])
        ∙ (ap (λ (l : List Entry). l ++ mine_of (Some a) (entry a ∷ [])) own_before ∙ ap (λ (t : Bool). p.mine ++ cond t (entry a ∷ []) []) named)));
  }

  still_own : c.after ≡ c.before → q.mine ≡ p.mine
  still_own same = own_after ∙ (ap (λ (b : BoardView). mine_of (Some a) b.entries) same ∙ own_before)

-- ---- advance
own_advance_at : (s : Session) (p q : PassView) (answer : Result Advance AdvanceFault) → Called s p q (AdvanceAnswers p.analyst answer) → (a : ℕ) → p.analyst ≡ Some a → OwnAdvance p q answer
own_advance_at s p q (Ok (advances.Revised r)) c a is =
    let t = subst (λ (o : Option ℕ). AdvanceAnswers o (Ok (advances.Revised r)) c.before c.after) is c.answer in
    (t.1, added_own s p q (AdvanceAnswers p.analyst (Ok (advances.Revised r))) c a is (λ d. Revised d t.1) (self a) t.2.adds.entries)
own_advance_at s p q (Ok (advances.Settled r)) c a is =
    let t = subst (λ (o : Option ℕ). AdvanceAnswers o (Ok (advances.Settled r)) c.before c.after) is c.answer in
    added_own s p q (AdvanceAnswers p.analyst (Ok (advances.Settled r))) c a is (λ d. Settled d r) (self a) t.adds.entries
own_advance_at s p q (Ok (advances.Shown r)) c a is =
    let t = subst (λ (o : Option ℕ). AdvanceAnswers o (Ok (advances.Shown r)) c.before c.after) is c.answer in
    added_own s p q (AdvanceAnswers p.analyst (Ok (advances.Shown r))) c a is (λ d. Shown d r) (self a) t.adds.entries
own_advance_at s p q (Ok (advances.NotYet r)) c a is =
    let t = subst (λ (o : Option ℕ). AdvanceAnswers o (Ok (advances.NotYet r)) c.before c.after) is c.answer in
    still_own s p q (AdvanceAnswers p.analyst (Ok (advances.NotYet r))) c a is t.3
own_advance_at s p q (Ok advances.Ended) c a is =
    let t = subst (λ (o : Option ℕ). AdvanceAnswers o (Ok advances.Ended) c.before c.after) is c.answer in
    still_own s p q (AdvanceAnswers p.analyst (Ok advances.Ended)) c a is t.1
own_advance_at s p q (Err fault) c a is =
    let t = subst (λ (o : Option ℕ). AdvanceAnswers o (Err fault) c.before c.after) is c.answer in
    still_own s p q (AdvanceAnswers p.analyst (Err fault)) c a is t.1

pub own_advance : (s : Session) (p q : PassView) (answer : Result Advance AdvanceFault) → p.analyst ≢ None → Called s p q (AdvanceAnswers p.analyst answer) → OwnAdvance p q answer
own_advance s p q answer some c = (let w = some_of p.analyst some in own_advance_at s p q answer c w.0 w.1)

awaits_at : (s : Session) (p q : PassView) (answer : Result Advance AdvanceFault) → Called s p q (AdvanceAnswers p.analyst answer) → (a : ℕ) → p.analyst ≡ Some a → AwaitsSurface s q answer
awaits_at s p q (Ok (advances.Revised r)) c a is = tt
awaits_at s p q (Ok (advances.Settled r)) c a is = tt
awaits_at s p q (Ok (advances.Shown r)) c a is = tt
awaits_at s p q (Ok (advances.NotYet r)) c a is =
    let t = subst (λ (o : Option ℕ). AdvanceAnswers o (Ok (advances.NotYet r)) c.before c.after) is c.answer in
    let still = still_own s p q (AdvanceAnswers p.analyst (Ok (advances.NotYet r))) c a is t.3 in
    record {
      analyst = a;
      is = c.same.analyst ∙ is;
      next = ap (λ (l : List Entry). slice_get (script_of s a) (length l)) still ∙ (sym (next_there s p q (AdvanceAnswers p.analyst (Ok (advances.NotYet r))) c a is) ∙ t.0);
    }
awaits_at s p q (Ok advances.Ended) c a is = tt
awaits_at s p q (Err fault) c a is = tt

pub awaits : (s : Session) (p q : PassView) (answer : Result Advance AdvanceFault) → p.analyst ≢ None → Called s p q (AdvanceAnswers p.analyst answer) → AwaitsSurface s q answer
awaits s p q answer some c = (let w = some_of p.analyst some in awaits_at s p q answer c w.0 w.1)

not_change : (o : Option Command) (edit : Edit) → o ≡ Some Settle → o ≡ Some (Change edit) → ⊥
not_change o edit a b = cc (sym a ∙ b)

not_show : (o : Option Command) → o ≡ Some Settle → o ≡ Some Show → ⊥
not_show o a b = cc (sym a ∙ b)

not_none : (o : Option Command) → o ≡ Some Settle → o ≡ None → ⊥
not_none o a b = cc (sym a ∙ b)

pub of_settle : (s : Session) (p q : PassView) (answer : Result Advance AdvanceFault) → Called s p q (AdvanceAnswers p.analyst answer) → IsAtSettle s p → IsOfSettle answer
of_settle s p q (Ok (advances.Revised r)) c at =
    let t = subst (λ (o : Option ℕ). AdvanceAnswers o (Ok (advances.Revised r)) c.before c.after) at.is c.answer in
    not_change _ t.1 (next_there s p q (AdvanceAnswers p.analyst (Ok (advances.Revised r))) c at.analyst at.is ∙ at.next) t.2.adds.step
of_settle s p q (Ok (advances.Settled r)) c at = tt
of_settle s p q (Ok (advances.Shown r)) c at =
    let t = subst (λ (o : Option ℕ). AdvanceAnswers o (Ok (advances.Shown r)) c.before c.after) at.is c.answer in
    not_show _ (next_there s p q (AdvanceAnswers p.analyst (Ok (advances.Shown r))) c at.analyst at.is ∙ at.next) t.adds.step.0
of_settle s p q (Ok (advances.NotYet r)) c at = tt
of_settle s p q (Ok advances.Ended) c at =
    let t = subst (λ (o : Option ℕ). AdvanceAnswers o (Ok advances.Ended) c.before c.after) at.is c.answer in
    not_none _ (next_there s p q (AdvanceAnswers p.analyst (Ok advances.Ended)) c at.analyst at.is ∙ at.next) t.0
of_settle s p q (Err fault) c at = tt

-- ---- publish
own_publish_at : {U : Type 0} (s : Session) (p q : PassView) (seams : SeamResult) (answer : Result U PublishFault) → Called s p q (PublishAnswers p.analyst seams answer) → (a : ℕ) → p.analyst ≡ Some a → OwnPublish p q seams.revision answer
own_publish_at {U} s p q seams (Ok x) c a is =
    let t = subst (λ (o : Option ℕ). PublishAnswers {U = U} o seams (Ok x) c.before c.after) is c.answer in
    added_own s p q (PublishAnswers {U = U} p.analyst seams (Ok x)) c a is (λ d. Published d seams.revision) (self a) t.adds.entries
own_publish_at {U} s p q seams (Err fault) c a is =
    let t = subst (λ (o : Option ℕ). PublishAnswers {U = U} o seams (Err fault) c.before c.after) is c.answer in
    still_own s p q (PublishAnswers {U = U} p.analyst seams (Err fault)) c a is t.1

pub own_publish : {U : Type 0} (s : Session) (p q : PassView) (seams : SeamResult) (answer : Result U PublishFault) → p.analyst ≢ None → Called s p q (PublishAnswers p.analyst seams answer) → OwnPublish p q seams.revision answer
own_publish s p q seams answer some c = (let w = some_of p.analyst some in own_publish_at s p q seams answer c w.0 w.1)

pub not_refused : {U : Type 0} (s : Session) (p q : PassView) (seams : SeamResult) (answer : Result U PublishFault) → Called s p q (PublishAnswers p.analyst seams answer) → IsAtSettle s p → answer ≢ Err publish_faults.NotSettle
not_refused {U} s p q seams answer c at e =
    let t = subst (λ (w : Option ℕ × Result U PublishFault). PublishAnswers {U = U} w.0 seams w.1 c.before c.after) (λ i. (at.is i, e i)) c.answer in
    t.0 (next_there s p q (PublishAnswers {U = U} p.analyst seams answer) c at.analyst at.is ∙ at.next)

-- an end stays one: where the script has ended nothing is published
pub publish_stays : {U : Type 0} (b c : BoardView) (o : Option ℕ) (a : ℕ) (e : Bool) (seams : SeamResult) (answer : Result U PublishFault) → o ≡ Some a → OnOk answer (IsPublication b c a seams) → OnErr answer (c ≡ b) → Stays b c o e e
publish_stays b c o a e seams (Ok x) is ok err d who before on =
    let same : a ≡ d = cc (is, who) in
    absurd (not_none _ (subst (λ (n : ℕ). next_command b.session b.entries n ≡ Some Settle) same ok.adds.step.0) (before on))
publish_stays b c o a e seams (Err fault) is ok err d who before on = ap (λ (x : BoardView). next_command b.session x.entries d) err ∙ before on

-- ---- publish_made
own_made_at : {U : Type 0} (s : Session) (p q : PassView) (made : Parts) (answer : Result U PublishFault) → Called s p q (MadeAnswers p.analyst made answer) → (a : ℕ) → p.analyst ≡ Some a → OwnPublish p q made.seams.revision answer
own_made_at {U} s p q made (Ok x) c a is =
    let t = subst (λ (o : Option ℕ). MadeAnswers {U = U} o made (Ok x) c.before c.after) is c.answer in
    added_own s p q (MadeAnswers {U = U} p.analyst made (Ok x)) c a is (λ d. Published d made.seams.revision) (self a) t.adds.entries
own_made_at {U} s p q made (Err fault) c a is =
    let t = subst (λ (o : Option ℕ). MadeAnswers {U = U} o made (Err fault) c.before c.after) is c.answer in
    still_own s p q (MadeAnswers {U = U} p.analyst made (Err fault)) c a is t.1

pub own_made : {U : Type 0} (s : Session) (p q : PassView) (made : Parts) (answer : Result U PublishFault) → p.analyst ≢ None → Called s p q (MadeAnswers p.analyst made answer) → OwnPublish p q made.seams.revision answer
own_made s p q made answer some c = (let w = some_of p.analyst some in own_made_at s p q made answer c w.0 w.1)

pub made_not_refused : {U : Type 0} (s : Session) (p q : PassView) (made : Parts) (answer : Result U PublishFault) → Called s p q (MadeAnswers p.analyst made answer) → IsAtSettle s p → answer ≢ Err publish_faults.NotSettle
made_not_refused {U} s p q made answer c at e =
    let t = subst (λ (w : Option ℕ × Result U PublishFault). MadeAnswers {U = U} w.0 made w.1 c.before c.after) (λ i. (at.is i, e i)) c.answer in
    t.0 (next_there s p q (MadeAnswers {U = U} p.analyst made answer) c at.analyst at.is ∙ at.next)

pub made_stays : {U : Type 0} (b c : BoardView) (o : Option ℕ) (a : ℕ) (e : Bool) (made : Parts) (answer : Result U PublishFault) → o ≡ Some a → OnOk answer (IsMadePublication b c a made) → OnErr answer (c ≡ b) → Stays b c o e e
made_stays b c o a e made (Ok x) is ok err d who before on =
    let same : a ≡ d = cc (is, who) in
    absurd (not_none _ (subst (λ (n : ℕ). next_command b.session b.entries n ≡ Some Settle) same ok.adds.step.0) (before on))
made_stays b c o a e made (Err fault) is ok err d who before on = ap (λ (x : BoardView). next_command b.session x.entries d) err ∙ before on
