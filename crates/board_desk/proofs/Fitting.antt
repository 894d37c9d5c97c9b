-- What seats know, after each kind of step.
use Rattle.std.proofs.Common.{◌≡◌, ◌≢◌, ◌⊎◌, inl, inr, ⊎_elim, ℕ, zero, suc, ◌+◌, ◌≤◌, ◌<◌, eqb, leb, Bool, true, false, cond, List, [], ◌∷◌, ◌++◌, length, set, Some, None, refl, ap, sym, ◌∙◌, subst, arith}
use mathlib.Core.List.{IsPrefix}
use mathlib.Core.Option.{some}
use lib.ListN.{get_elem?}
use Rattle.std.proofs.lemmas.Bool.Decides.{nat_tests}
use Rattle.atomic_table.proofs.Lists.{at_set}
use Rattle.raster_model.specs.declared.session.Session.{Session}
use Rattle.tile_board.specs.declared.entry.Entry.{Entry}
use Rattle.board_desk.specs.declared.law.View.{View}
use Rattle.board_desk.specs.Mine.{mine_of}
use Rattle.board_desk.specs.Rules.{HoldsIn, Fits, claim, no_claim, opener, spent, enrolling, enrolled, plain_copy, with_seen, holding_it, given}
use Rattle.board_desk.proofs.Histories.{prefix_nil, prefix_self, prefix_more, same_mine, none_before, mine_between}

-- the view of one seat changes
pub each_set : (P : ℕ → View → Type 0) (vs : List View) (me : ℕ) (w : View) → P me w → ((j : ℕ) (v : View) → j ≢ me → get_elem? vs j ≡ some v → P j v)
    → (j : ℕ) (v : View) → get_elem? (set vs me w) j ≡ some v → P j v
each_set P vs me w mine others j v e = ⊎_elim (λ (t : (j ≡ me) × (w ≡ v)). subst (λ (x : ℕ × View). P x.0 x.1) (λ i. (sym t.0 i, t.1 i)) mine)
    (λ (t : (j ≢ me) × (get_elem? vs j ≡ some v)). others j v t.0 t.1) (at_set vs me j w v e)

-- a seat comes at the end
at_end : (l : List View) (a b : View) (j : ℕ) → get_elem? (l ++ a ∷ []) j ≡ some b → (get_elem? l j ≡ some b) ⊎ ((j ≡ length l) × (some a ≡ some b))
at_end [] a b zero e = inr (refl, e)
at_end [] a b (suc j) e = inl e
at_end (x ∷ xs) a b zero e = inl e
at_end (x ∷ xs) a b (suc j) e = ⊎_elim inl (λ (t : (j ≡ length xs) × (some a ≡ some b)). inr (ap suc t.0, t.1)) (at_end xs a b j e)

pub each_end : (P : ℕ → View → Type 0) (vs : List View) (w : View) → P (length vs) w → ((j : ℕ) (v : View) → get_elem? vs j ≡ some v → P j v)
    → (j : ℕ) (v : View) → get_elem? (vs ++ w ∷ []) j ≡ some v → P j v
each_end P vs w mine others j v e = ⊎_elim (λ t. others j v t)
    (λ (t : (j ≡ length vs) × (some w ≡ some v)). let same : w ≡ v = cc (t.1) in subst (λ (x : ℕ × View). P x.0 x.1) (λ i. (sym t.0 i, same i)) mine) (at_end vs w v j e)

meets_none : (log : List Entry) → HoldsIn log no_claim
meets_none log = record { begins = prefix_nil log; exact = refl }

meets_plain : (log seen : List Entry) → IsPrefix seen log → HoldsIn log (claim None seen [])
meets_plain log seen p = record { begins = p; exact = refl }

module _ (session : Session) (log : List Entry) (owner : ℕ → ℕ) (next holder giver out : ℕ) where
  abbrev F : ℕ → View → Type 0
  F = Fits session log owner next holder giver out

  pub spent_fits : (i : ℕ) → F i spent
  spent_fits i = record {
    session_is = λ x e. absurd (cc e);
    own = meets_none log;
    own_seen = refl;
    beside = meets_none [];
    owns = λ a e. absurd (cc e);
    holding = λ e. absurd (cc e);
    giving = λ e. absurd (cc e);
  }

  pub copy_fits : (i j : ℕ) (v : View) → F i v → F j (plain_copy v)
  copy_fits i j v f = record {
    session_is = f.session_is;
    own = meets_plain log v.own.seen f.own.begins;
    own_seen = refl;
    beside = meets_none v.own.seen;
    owns = λ a e. absurd (cc e);
    holding = λ e. absurd (cc e);
    giving = λ e. absurd (cc e);
  }

-- one number more is given out, to the seat n
abbrev pub owner_after : ℕ → ℕ → (ℕ → ℕ) → ℕ → ℕ
owner_after next n owner a = cond (eqb a next) n (owner a)

owner_before : (a next n : ℕ) (owner : ℕ → ℕ) → a < next → owner_after next n owner a ≡ owner a
owner_before a next n owner h = grind (arith, nat_tests)

owner_now : (next n : ℕ) (owner : ℕ → ℕ) → owner_after next n owner next ≡ n
owner_now next n owner = grind (arith, nat_tests)

module _ (session : Session) (log : List Entry) (owner : ℕ → ℕ) (next holder giver out n : ℕ) where
  -- what a seat knows stays so, except of the number that comes next
  pub still_fits : (i : ℕ) (v : View) → v.gives ≡ false → Fits session log owner next holder giver out i v → Fits session log (owner_after next n owner) (next + 1) holder giver out i v
  still_fits i v idle f = record {
    session_is = f.session_is;
    own = f.own;
    own_seen = f.own_seen;
    beside = f.beside;
    owns = λ a e. let o = f.owns a e in (owner_before a next n owner o.1 ∙ o.0, omega arith);
    holding = f.holding;
    giving = λ e. absurd (cc (e, idle));
  }

  pub enrolling_fits : (i : ℕ) (v : View) → v.gives ≡ true → Fits session log owner next holder giver out i v → Fits session log (owner_after next n owner) (next + 1) holder giver out i (enrolling v)
  enrolling_fits i v on f = record {
    session_is = f.session_is;
    own = f.own;
    own_seen = f.own_seen;
    beside = f.beside;
    owns = λ a e. let o = f.owns a e in (owner_before a next n owner o.1 ∙ o.0, omega arith);
    holding = f.holding;
    giving = λ e. let g = f.giving on in (g.0, ap (λ (k : ℕ). k + 1) g.1);
  }

  pub enrolled_fits : (i : ℕ) (v : View) → v.gives ≡ true → mine_of (Some next) log ≡ [] → Fits session log owner next holder giver out i v
      → Fits session log (owner_after next n owner) (next + 1) holder giver out n (enrolled v)
  enrolled_fits i v on free f =
      let g = f.giving on in
      let nothing : mine_of (Some v.next) log ≡ [] = ap (λ (k : ℕ). mine_of (Some k) log) g.1 ∙ free in record {
        session_is = f.session_is;
        own = record { begins = f.own.begins; exact = sym nothing };
        own_seen = sym (none_before (Some v.next) v.own.seen log f.own.begins nothing);
        beside = meets_none v.own.seen;
        owns = λ a e. let same : v.next ≡ a = cc e in let here : next ≡ a = sym g.1 ∙ same in (ap (owner_after next n owner) (sym here) ∙ owner_now next n owner, omega arith);
        holding = λ e. absurd (cc e);
        giving = λ e. absurd (cc e);
      }

-- the number that is given out next has one giver
pub not_giving : (b : Bool) → ((b ≡ true) → ⊥) → b ≡ false
not_giving true h = absurd (h refl)
not_giving false h = refl

-- what a seat that has no board knows once it has seen a longer beginning
pub longer_fits : (session : Session) (log : List Entry) (owner : ℕ → ℕ) (next holder giver out : ℕ) (i : ℕ) (v : View) (seen shorter : List Entry)
    → v.holds ≡ false → IsPrefix v.own.seen seen → IsPrefix seen log → IsPrefix shorter seen
    → Fits session log owner next holder giver out i v → Fits session log owner next holder giver out i (with_seen v seen shorter)
longer_fits session log owner next holder giver out i v seen shorter idle up to short f = record {
  session_is = f.session_is;
  own = record { begins = to; exact = f.own.exact };
  own_seen = f.own_seen ∙ sym (mine_between v.own.analyst v.own.seen seen log up to (sym f.own_seen ∙ f.own.exact));
  beside = meets_plain seen shorter short;
  owns = f.owns;
  holding = λ e. absurd (cc (e, idle));
  giving = f.giving;
}

pub length_cases : (m n : ℕ) → ((leb m n ≡ true) × (m ≤ n)) ⊎ ((leb m n ≡ false) × (n ≤ m))
length_cases m n = elim (leb m n) as (λ b. (leb m n ≡ b) → ((leb m n ≡ true) × (m ≤ n)) ⊎ ((leb m n ≡ false) × (n ≤ m))) [ true ↦ λ e. inl (e, grind (arith, nat_tests)) | false ↦ λ e. inr (e, grind (arith, nat_tests)) ] refl

-- what others know while one takes the board
module _ (session : Session) (log : List Entry) (owner : ℕ → ℕ) (next giver : ℕ) where
  pub takes_fits : (holder i : ℕ) (v : View) → Fits session log owner next holder giver 0 i v → Fits session log owner next i giver 1 i (holding_it v log)
  takes_fits holder i v f = record {
    session_is = f.session_is;
    own = record { begins = prefix_self log; exact = f.own.exact };
    own_seen = f.own.exact;
    beside = meets_none log;
    owns = f.owns;
    holding = λ e. (refl, refl, refl);
    giving = f.giving;
  }

  pub no_holder_fits : (holder holder' i : ℕ) (v : View) → Fits session log owner next holder giver 0 i v → Fits session log owner next holder' giver 1 i v
  no_holder_fits holder holder' i v f = record {
    session_is = f.session_is;
    own = f.own;
    own_seen = f.own_seen;
    beside = f.beside;
    owns = f.owns;
    holding = λ e. let h = f.holding e in absurd (omega (arith, h.2));
    giving = f.giving;
  }

  pub gives_fits : (added : List Entry) (i : ℕ) (v : View) → ((a : ℕ) → (v.own.analyst ≡ Some a → ⊥) → mine_of (Some a) added ≡ []) → v.holds ≡ true
      → (log' : List Entry) → log' ≡ log ++ added → Fits session log owner next i giver 1 i v → Fits session log' owner next i giver 0 i (given v log')
  gives_fits added i v others on log' e f = record {
    session_is = f.session_is;
    own = record { begins = prefix_self log'; exact = refl };
    own_seen = refl;
    beside = meets_none log';
    owns = f.owns;
    holding = λ e. absurd (cc e);
    giving = f.giving;
  }

  -- another seat, whose analyst is not the one of the seat i that adds
  pub others_fit : (added : List Entry) (i j : ℕ) (v w : View) → ((a : ℕ) → (v.own.analyst ≡ Some a → ⊥) → mine_of (Some a) added ≡ []) → j ≢ i
      → Fits session log owner next i giver 1 i v → Fits session log owner next i giver 1 j w → Fits session (log ++ added) owner next i giver 0 j w
  others_fit added i j v w others apart f g = record {
    session_is = g.session_is;
    own = record {
      begins = prefix_more w.own.seen log added g.own.begins;
      exact = g.own.exact ∙ sym (same_mine w.own.analyst log added (λ a is. others a (λ his. apart (sym (g.owns a is).0 ∙ (f.owns a his).0))));
    };
    own_seen = g.own_seen;
    beside = g.beside;
    owns = g.owns;
    holding = λ e. let h = g.holding e in absurd (apart (sym h.0));
    giving = g.giving;
  }

pub newcomer_fits : (session : Session) (log : List Entry) (owner : ℕ → ℕ) (next holder giver out i : ℕ) → Fits session log owner next holder giver out i (plain_copy (opener session))
newcomer_fits session log owner next holder giver out i = record {
  session_is = λ x e. cc e;
  own = meets_none log;
  own_seen = refl;
  beside = meets_none [];
  owns = λ a e. absurd (cc e);
  holding = λ e. absurd (cc e);
  giving = λ e. absurd (cc e);
}

pub opener_fits : (session : Session) → Fits session [] (λ a. 0) 1 0 0 0 0 (opener session)
opener_fits session = record {
  session_is = λ x e. cc e;
  own = meets_none [];
  own_seen = refl;
  beside = meets_none [];
  owns = λ a e. absurd (cc e);
  holding = λ e. absurd (cc e);
  giving = λ e. (refl, refl);
}
