-- What a board holds beside its history, read and with one more entry.
use Rattle.std.proofs.Common.{◌≡◌, ℕ, zero, suc, ◌+◌, ◌-◌, ◌^◌, ◌<◌, ◌≤◌, inl, inr, sym, ◌∙◌, ap, refl, subst, arith, Bool, false, List, [], ◌∷◌, ◌++◌, length}
use Rattle.std.specs.Prelude.{Option, Some, None, IsTrue, ◌↔◌, cond, replicate, set, slice_get, slice_index, ◌==◌}
use Rattle.std.proofs.lemmas.List.{get_or_default, get_or-replicate, get_or_past, length-replicate, get_or-set_same, get_or-set_other, length-set}
use Rattle.std.proofs.lemmas.Bool.{cases_eq, cases_lt}
use Rattle.std.proofs.lemmas.Bool.Decides.{nat_tests}
use Rattle.std.proofs.lemmas.List.Sums.{sum_by-set, sum_by-le}
use Rattle.raster_model.specs.declared.script.Command.{Command}
use Rattle.raster_model.specs.declared.script.Script.{Script}
use Rattle.raster_model.specs.declared.session.Session.{Session}
use Rattle.raster_model.specs.Masks.{open_at}
use Rattle.raster_model.specs.Tiles.{tiles_of}
use Rattle.certificates.specs.declared.results.TileResult.{TileResult}
use Rattle.mask_revisions.specs.Revisions.{AreRevisionsOf}
use Rattle.mask_revisions.specs.RevisionsView.{RevisionsView}
use Rattle.surface_snapshots.specs.Parts.{Parts}
use Rattle.tile_board.specs.declared.entry.Entry.{Entry}
use Rattle.tile_board.specs.Histories.{IsComplete, IsLegal, commands_of, done_by, names, next_command, now_of}
use Rattle.tile_board.specs.Places.{cursor_at}
use Rattle.tile_board.specs.Lacking.{AreLackingIn, LackingView}
use Rattle.tile_board.specs.States.{AreCursors, IsState, TellsHistory, board_view_of}
use Rattle.tile_board.proofs.HistoryLemmas.{done_push, done_within, legal_none}
use Rattle.tile_board.proofs.KeptLemmas.{kept_none}
use Rattle.tile_board.proofs.SurfaceLemmas.{surfaces_none}
use Rattle.tile_board.proofs.ListLemmas.{get_below, get_beyond, get_none, none_below}
use Rattle.sums_and_lists.proofs.Tests.{same_number}

-- ---- cursors
pub cursor_is : (s : Session) (H : List Entry) (marks : List ℕ) → IsLegal s H → AreCursors s H marks → (a : ℕ) → cursor_at marks a ≡ done_by a H
cursor_is s H marks legal are zero = (let l = done_within s H legal 0 in omega (arith, l))
cursor_is s H marks legal are (suc k) = elim (cases_lt k (length marks)) [
  | inl l ↦ (let e : k + 1 ≡ suc k = omega arith in rw e at (are.done k l))
  | inr m ↦ (
      let past = get_or_past marks k 0 m in
      let none : slice_get s.scripts.items k ≡ None = get_beyond s.scripts.items k (omega (arith, are.count, m)) in
      let few : done_by (suc k) H ≤ 0 = subst (λ (o : Option Script). done_by (suc k) H ≤ length (commands_of o)) none (done_within s H legal (suc k)) in
      past ∙ omega (arith, few))
]

-- an analyst with a next command has a cursor, which stands at done commands
pub next_below : (s : Session) (H : List Entry) (marks : List ℕ) (a : ℕ) (c : Command) → AreCursors s H marks → next_command s H a ≡ Some c → (1 ≤ a) × (a - 1 < length marks) × (slice_index marks (a - 1) ≡ done_by a H)
next_below s H marks zero c are n = absurd (nothing n)
  where
    nothing : next_command s H zero ≡ Some c → ⊥
    nothing m = cc
next_below s H marks (suc k) c are n =
    let below : k < length marks = elim (cases_lt k (length marks)) [
      | inl l ↦ l
      | inr m ↦ (
          let none : slice_get s.scripts.items k ≡ None = get_beyond s.scripts.items k (omega (arith, are.count, m)) in
          absurd (nothing (subst (λ (o : Option Script). slice_get (commands_of o) (done_by (suc k) H) ≡ Some c) none n)))
    ] in
    let e : suc k - 1 ≡ k = omega arith in
    let f : k + 1 ≡ suc k = omega arith in
    (omega arith, rw e below, rw e (rw f at (are.done k below)))
  where
    nothing : slice_get (commands_of None) (done_by (suc k) H) ≡ Some c → ⊥
    nothing m = cc

-- the cursors after an entry that names one analyst
pub cursors_push : (s : Session) (H : List Entry) (marks : List ℕ) (e : Entry) (a : ℕ) (c : Command) → AreCursors s H marks → next_command s H a ≡ Some c → ((b : ℕ) → names b e ≡ (a == b)) → now_of (H ++ (e ∷ [])) ≤ now_of H + 1 → AreCursors s (H ++ (e ∷ [])) (set marks (a - 1) (slice_index marks (a - 1) + 1))
cursors_push s H marks e a c are n named step =
    let here = next_below s H marks a c are n in
    record {
      count = length-set marks (a - 1) (slice_index marks (a - 1) + 1) ∙ are.count;
      done = λ k l. (
          let m : k < length marks = omega (arith, l, length-set marks (a - 1) (slice_index marks (a - 1) + 1)) in
          elim (cases_eq k (a - 1)) [
            | inl q ↦ (
                rw q (get_or-set_same marks (a - 1) (slice_index marks (a - 1) + 1) 0 here.1 ∙ ap (λ (x : ℕ). x + 1) here.2 ∙ counted here.0)
                )
            | inr d ↦ get_or-set_other marks (a - 1) k (slice_index marks (a - 1) + 1) 0 d ∙ are.done k m ∙ other (k + 1) (λ q. d (omega (arith, q)))
          ]);
      few = (
          let more = sum_by-set (λ (x : ℕ). x) marks (a - 1) (slice_index marks (a - 1) + 1) 0 here.1 in
          omega (arith, step, are.few, more));
    }
  where
    other_false : (x y : ℕ) → (x ≡ y → ⊥) → (x == y) ≡ false
    other_false x y d = grind (arith, nat_tests)

    counted : 1 ≤ a → done_by a H + 1 ≡ done_by (a - 1 + 1) (H ++ (e ∷ []))
    counted l = (let q : a - 1 + 1 ≡ a = omega (arith, l) in rw q (sym (done_push H e a ∙ ap (λ (t : Bool). done_by a H + cond t 1 0) (named a ∙ same_number a))))

    other : (b : ℕ) → (a ≡ b → ⊥) → done_by b H ≡ done_by b (H ++ (e ∷ []))
    other b d = sym (done_push H e b ∙ ap (λ (t : Bool). done_by b H + cond t 1 0) (named b ∙ other_false a b d) ∙ omega arith)

-- ---- what the limits of a session leave: there is room for one more revision
pub cursors_short : (s : Session) (H : List Entry) (marks : List ℕ) → IsLegal s H → AreCursors s H marks → (k : ℕ) → k < length marks → slice_index marks k ≤ 4096
cursors_short s H marks legal are k l = script_end (slice_get s.scripts.items k) refl
  where
    script_end : (o : Option Script) → slice_get s.scripts.items k ≡ o → slice_index marks k ≤ 4096
    script_end None g = absurd (none_below s.scripts.items k (omega (arith, l, are.count)) g)
    script_end (Some script) g =
        let done : slice_index marks k ≡ done_by (suc k) H = (let e : k + 1 ≡ suc k = omega arith in rw e at (are.done k l)) in
        let within : done_by (suc k) H ≤ length script.commands.items = subst (λ (o : Option Script). done_by (suc k) H ≤ length (commands_of o)) g (done_within s H legal (suc k)) in
        let short = s.short k script g in
        omega (arith, done, within, short, script.commands.ok.0)

pub room_for_one : (s : Session) (H : List Entry) (marks : List ℕ) → IsLegal s H → AreCursors s H marks → now_of H + 1 < 2 ^ 32
room_for_one s H marks legal are =
    let most = sum_by-le (λ (x : ℕ). x) 4096 marks (λ k d l. subst (λ (x : ℕ). x ≤ 4096) (get_or_default marks k 0 d l) (cursors_short s H marks legal are k l)) in
    omega (arith, most, are.few, are.count, s.analysts.1)

-- ---- scripts at their ends
AreDone : Session → List ℕ → Type 0
AreDone s marks = (k : ℕ) (script : Script) → slice_get s.scripts.items k ≡ Some script → slice_index marks k ≡ length script.commands.items

module _ (s : Session) (H : List Entry) (marks : List ℕ) (legal : IsLegal s H) (are : AreCursors s H marks) where
  has_cursor : (k : ℕ) (script : Script) → slice_get s.scripts.items k ≡ Some script → slice_index marks k ≡ done_by (suc k) H
  has_cursor k script g = (let e : k + 1 ≡ suc k = omega arith in rw e at (are.done k (omega (arith, get_below s.scripts.items k script g, are.count))))

  ends : AreDone s marks → IsComplete s H
  unfolding AreDone
  ends all zero = refl
  ends all (suc k) = at (slice_get s.scripts.items k) refl
    where
      at : (o : Option Script) → slice_get s.scripts.items k ≡ o → slice_get (commands_of o) (done_by (suc k) H) ≡ None
      at None g = refl
      at (Some script) g = get_beyond script.commands.items (done_by (suc k) H) (omega (arith, all k script g, has_cursor k script g))

  ended : IsComplete s H → AreDone s marks
  unfolding AreDone
  ended complete k script g =
      let over = get_none script.commands.items (done_by (suc k) H) (subst (λ (o : Option Script). slice_get (commands_of o) (done_by (suc k) H) ≡ None) g (complete (suc k))) in
      let within : done_by (suc k) H ≤ length script.commands.items = subst (λ (o : Option Script). done_by (suc k) H ≤ length (commands_of o)) g (done_within s H legal (suc k)) in
      omega (arith, over, within, has_cursor k script g)

  pub complete_is : (b : Bool) → (IsTrue b ↔ ((k : ℕ) (script : Script) → slice_get s.scripts.items k ≡ Some script → slice_index marks k ≡ length script.commands.items)) → IsTrue b ↔ IsComplete s H
  unfolding AreDone
  complete_is b is = (λ h. ends (is.0 h), λ h. is.1 (ended h))

-- ---- before the first entry
pub tells_none : (s : Session) (held : RevisionsView) → held.tiling ≡ s.scene.tiling → AreRevisionsOf (open_at s.first_mask) [] held → TellsHistory s [] held (replicate (length s.scripts.items) 0) None
tells_none s held tiling revisions = record {
  tiling = tiling;
  revisions = revisions;
  cursors = record {
    count = count;
    done = λ i l. get_or-replicate (length s.scripts.items) i 0 0 (omega (arith, l, count));
    few = omega arith;
  };
  newest = refl;
}
  where
    count : length (replicate {A = ℕ} (length s.scripts.items) 0) ≡ length s.scripts.items
    count = length-replicate {A = ℕ} (length s.scripts.items) 0

pub state_new : (s : Session) (held : RevisionsView) (entries : List Entry) (kept : List (Option TileResult)) (surfaces : List Parts) (waiting : LackingView) (marks : List ℕ) → entries ≡ [] → kept ≡ replicate (tiles_of s.scene.tiling) None → surfaces ≡ [] → held.tiling ≡ s.scene.tiling → AreRevisionsOf (open_at s.first_mask) [] held → AreLackingIn kept waiting → marks ≡ replicate (length s.scripts.items) 0 → IsState (board_view_of s entries kept surfaces) held waiting marks None
state_new s held entries kept surfaces waiting marks e k p tiling revisions lacking m = rw (e, k, p, m) (record {
  board = record { legal = legal_none s; kept = kept_none s; surfaces = surfaces_none s };
  past = tells_none s held tiling revisions;
  lacking = rw k at lacking;
})
