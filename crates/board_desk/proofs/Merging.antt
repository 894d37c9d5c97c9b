-- From the look after a join to what is told of it.
use Rattle.std.proofs.Common.{◌≡◌, ◌⊎◌, inl, inr, ⊎_elim, ℕ, ◌<◌, ◌≤◌, leb, Bool, true, false, cond, List, [], Option, Some, length, ap, sym, ◌∙◌, subst, arith}
use Rattle.atomic_table.specs.Seated.{TableId}
use Rattle.tile_board.specs.Histories.{newest_of}
use Rattle.board_desk.specs.declared.pass.Heard.{Heard}
use Rattle.board_desk.specs.Mine.{mine_of}
use Rattle.board_desk.specs.Passes.{IsSound}
use Rattle.board_desk.specs.Seats.{IsHeard, pass_view}
use Rattle.board_desk.proofs.Ending.{same_next}
use mathlib.Core.List.{IsPrefix}
use Rattle.tile_board.specs.declared.entry.Entry.{Entry}
use Rattle.board_desk.specs.declared.law.View.{View}
use Rattle.board_desk.specs.Rules.{HoldsIn, Merges, Place, longer_of, with_seen}
use Rattle.board_desk.proofs.Histories.{prefix_self}
use Rattle.board_desk.proofs.Fitting.{length_cases}

merged_at : (v w n : View) (b : Bool) → ((b ≡ true) × (length w.own.seen ≤ length v.own.seen)) ⊎ ((b ≡ false) × (length v.own.seen ≤ length w.own.seen))
    → n ≡ cond b (with_seen v v.own.seen w.own.seen) (with_seen v w.own.seen v.own.seen) → HoldsIn n.own.seen n.beside → Merges v w n
merged_at v w n true h is m =
    let short : length w.own.seen ≤ length v.own.seen = ⊎_elim (λ (t : (true ≡ true) × (length w.own.seen ≤ length v.own.seen)). t.1) (λ (t : (true ≡ false) × (length v.own.seen ≤ length w.own.seen)). absurd (cc (t.0))) h in
    let seen : n.own.seen ≡ v.own.seen = ap (λ (x : View). x.own.seen) is in
    let other : n.beside.seen ≡ w.own.seen = ap (λ (x : View). x.beside.seen) is in record {
      one = inl (seen, short);
      first = subst (λ (l : List Entry). IsPrefix v.own.seen l) (sym seen) (prefix_self v.own.seen);
      second = subst (λ (l : List Entry). IsPrefix l n.own.seen) other m.begins;
    }
merged_at v w n false h is m =
    let short : length v.own.seen ≤ length w.own.seen = ⊎_elim (λ (t : (false ≡ true) × (length w.own.seen ≤ length v.own.seen)). absurd (cc (t.0))) (λ (t : (false ≡ false) × (length v.own.seen ≤ length w.own.seen)). t.1) h in
    let seen : n.own.seen ≡ w.own.seen = ap (λ (x : View). x.own.seen) is in
    let other : n.beside.seen ≡ v.own.seen = ap (λ (x : View). x.beside.seen) is in record {
      one = inr (seen, short);
      first = subst (λ (l : List Entry). IsPrefix l n.own.seen) other m.begins;
      second = subst (λ (l : List Entry). IsPrefix w.own.seen l) (sym seen) (prefix_self w.own.seen);
    }

pub merged : (v w n : View) → n ≡ longer_of v w → HoldsIn n.own.seen n.beside → Merges v w n
merged v w n is m = merged_at v w n (leb (length w.own.seen) (length v.own.seen)) (length_cases (length w.own.seen) (length v.own.seen)) is m

-- the seat that took in another has seen the other's history, where that is longer
other_seen : (v w n : View) → Merges v w n → length v.own.seen < length w.own.seen → n.own.seen ≡ w.own.seen
other_seen v w n m less = ⊎_elim (λ (t : (n.own.seen ≡ v.own.seen) × (length w.own.seen ≤ length v.own.seen)). absurd (omega (arith, t.1, less))) (λ (t : (n.own.seen ≡ w.own.seen) × (length v.own.seen ≤ length w.own.seen)). t.0) m.one

-- what is remembered then
pub heard_more : (t u z : TableId) (e f g : Bool) (m w k : Place) (h j : Heard) → IsHeard (pass_view t m e) h → IsHeard (pass_view u w f) j → h.front < j.front → Merges m.0 w.0 k.0 → k.0.own.mine ≡ m.0.own.mine
    → IsHeard (pass_view z k g) record { front = j.front; newest = j.newest; done = h.done }
heard_more t u z e f g m w k h j one other less merges mine =
    let seen : k.0.own.seen ≡ w.0.own.seen = other_seen m.0 w.0 k.0 merges (omega (arith, one.front, other.front, less)) in record {
      front = ap (λ (l : List Entry). length l) seen ∙ other.front;
      newest = ap newest_of seen ∙ other.newest;
      done = ap (λ (l : List Entry). length l) mine ∙ one.done;
    }

-- an end that was told stays one
pub sound_merged : (t u : TableId) (e : Bool) (m k : Place) → IsSound (pass_view t m e) → k.0.own.analyst ≡ m.0.own.analyst → k.0.session ≡ m.0.session → k.0.own.mine ≡ m.0.own.mine → k.0.own.mine ≡ mine_of k.0.own.analyst k.0.own.seen
    → IsSound (pass_view u k e)
sound_merged t u e m k sound who_is session_is mine_is exact = record {
  exact = exact;
  at_end = λ on s a of who.
      let his : m.0.own.analyst ≡ Some a = sym who_is ∙ who in
      let both : mine_of k.0.own.analyst k.0.own.seen ≡ mine_of m.0.own.analyst m.0.own.seen = sym exact ∙ (mine_is ∙ sound.exact) in
      let same : mine_of (Some a) k.0.own.seen ≡ mine_of (Some a) m.0.own.seen = ap (λ (o : Option ℕ). mine_of o k.0.own.seen) (sym who) ∙ (both ∙ ap (λ (o : Option ℕ). mine_of o m.0.own.seen) his) in
      same_next s a k.0.own.seen m.0.own.seen same ∙ sound.at_end on s a (sym session_is ∙ of) his;
}

-- taking in changes neither the analyst nor the entries
pub longer_same : (v w : View) (k : Place) → k ≡ (longer_of v w, []) → (k.0.own.analyst ≡ v.own.analyst) × (k.0.session ≡ v.session) × (k.0.own.mine ≡ v.own.mine) × (k.0.holds ≡ v.holds)
longer_same v w k is = at (leb (length w.own.seen) (length v.own.seen)) (ap (λ (p : Place). p.0) is)
  where
    at : (b : Bool) → k.0 ≡ cond b (with_seen v v.own.seen w.own.seen) (with_seen v w.own.seen v.own.seen) → (k.0.own.analyst ≡ v.own.analyst) × (k.0.session ≡ v.session) × (k.0.own.mine ≡ v.own.mine) × (k.0.holds ≡ v.holds)
    at true e = (ap (λ (x : View). x.own.analyst) e, ap (λ (x : View). x.session) e, ap (λ (x : View). x.own.mine) e, ap (λ (x : View). x.holds) e)
    at false e = (ap (λ (x : View). x.own.analyst) e, ap (λ (x : View). x.session) e, ap (λ (x : View). x.own.mine) e, ap (λ (x : View). x.holds) e)
