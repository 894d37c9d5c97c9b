-- Each step keeps the rule, and tells what its play says.
use Rattle.std.proofs.Common.{◌≡◌, ◌≢◌, inl, inr, ⊎_elim, ℕ, zero, suc, ◌+◌, ◌%◌, ◌^◌, ◌≤◌, ◌<◌, ◌==◌, leb, Bool, true, false, cond, List, [], ◌∷◌, ◌++◌, length, set, get_or, Some, refl, ap, sym, ◌∙◌, subst, arith}
use Rattle.std.specs.Bool.{MatchBool}
use Rattle.std.proofs.lemmas.List.{length-set}
use mathlib.Core.List.{IsPrefix}
use mathlib.Core.Option.{some, none}
use lib.ListN.{get_elem?}
use prog.Atomic.{either}
use Rattle.atomic_table.specs.Table.{State, Step, step, Act, keeps, takes, gives, stepped, Valid, homes_after, carried_after, Allows, Enters, Splits, Joins, opening}
use Rattle.atomic_table.proofs.Lists.{set_else}
use Rattle.raster_model.specs.declared.session.Session.{Session}
use Rattle.tile_board.specs.declared.entry.Entry.{Entry}
use Rattle.tile_board.specs.BoardView.{BoardView}
use Rattle.board_desk.specs.declared.law.View.{View}
use Rattle.board_desk.specs.Mine.{mine_of}
use Rattle.board_desk.specs.Rules.{HoldsIn, Fits, Item, Homes, IsAtHome, IsRuled, Place, opener, spent, enrolling, enrolled, plain_copy, with_seen, longer_of, beside_of, holding_it, given, looked, sat, took, gave, TakesOut, Grown}
use Rattle.board_desk.proofs.Fitting.{each_set, each_end, spent_fits, copy_fits, owner_after, still_fits, enrolling_fits, enrolled_fits, not_giving, longer_fits, length_cases, takes_fits, no_holder_fits, gives_fits, others_fit, newcomer_fits, opener_fits}
use Rattle.board_desk.proofs.Histories.{prefix_self, prefix_shorter, same_mine}

abbrev Table : Type 0
Table = State Item View

-- ---- the word that tells whether the board is out
word_else : (ws : List ℕ) (i x : ℕ) → i ≢ 2 → get_or (set ws i x) 2 0 ≡ get_or ws 2 0
word_else [] i x other = refl
word_else (a ∷ ws) zero x other = refl
word_else (a ∷ []) (suc i) x other = refl
word_else (a ∷ b ∷ ws) (suc zero) x other = refl
word_else (a ∷ b ∷ []) (suc (suc i)) x other = refl
word_else (a ∷ b ∷ c ∷ ws) (suc (suc zero)) x other = absurd (other refl)
word_else (a ∷ b ∷ c ∷ ws) (suc (suc (suc i))) x other = refl

word_there : (ws : List ℕ) (x : ℕ) → 2 < length ws → get_or (set ws 2 x) 2 0 ≡ x
word_there [] x l = absurd (omega arith)
word_there (a ∷ []) x l = absurd (omega arith)
word_there (a ∷ b ∷ []) x l = absurd (omega arith)
word_there (a ∷ b ∷ c ∷ ws) x l = refl

pub ticket_apart : (i : ℕ) → i < 2 → i ≢ 2
ticket_apart i l e = omega (arith, l, e)

pub bell_apart : (i : ℕ) → 2 < i → i ≢ 2
bell_apart i l e = omega (arith, l, e)

still_wide : (ws : List ℕ) (i x : ℕ) → 2 < length ws → 2 < length (set ws i x)
still_wide ws i x l = omega (arith, l, length-set ws i x)

-- ---- steps that change views alone
-- the rule over other views, of which some may own the next number
module _ (session : Session) (s : Table) (k : IsRuled session s) where
  abbrev F : (ℕ → ℕ) → ℕ → ℕ → View → Type 0
  F owner next = Fits session k.log owner next k.holder k.giver k.out

  over : (views : List View) (owner : ℕ → ℕ) (next : ℕ) → k.next ≤ next → ((j : ℕ) (v : View) → get_elem? views j ≡ some v → F owner next j v) → IsRuled session record { words = s.words; homes = s.homes; views = views }
  over views owner next on each = record {
    log = k.log;
    owner = owner;
    next = next;
    holder = k.holder;
    giver = k.giver;
    out = k.out;
    wide = k.wide;
    out_is = k.out_is;
    slot = k.slot;
    left = λ a l. k.left a (omega (arith, on, l));
    each = each;
  }

-- a new seat gets the next number
pub enrolls : (session : Session) (id : ℕ) (v : View) → v.gives ≡ true → Splits (IsRuled session) id v (enrolling v) (enrolled v)
enrolls session id v on s k at =
    let mine = k.each id v at in
    let n : ℕ = length (set s.views id (enrolling v)) in
    let owner = owner_after k.next n k.owner in
    over session s k (set s.views id (enrolling v) ++ enrolled v ∷ []) owner (k.next + 1) (omega arith)
    (each_end (F session s k owner (k.next + 1)) (set s.views id (enrolling v)) (enrolled v)
    (enrolled_fits session k.log k.owner k.next k.holder k.giver k.out n id v on (k.left k.next (omega arith)) mine)
    (each_set (F session s k owner (k.next + 1)) s.views id (enrolling v) (enrolling_fits session k.log k.owner k.next k.holder k.giver k.out n id v on mine)
    (λ j w other e. (
    let f = k.each j w e in
    still_fits session k.log k.owner k.next k.holder k.giver k.out n j w (not_giving w.gives (λ g. other (sym (f.giving g).0 ∙ (mine.giving on).0))) f))))

-- a new seat with no analyst
pub copies : (session : Session) (id : ℕ) (v : View) → Splits (IsRuled session) id v v (plain_copy v)
copies session id v s k at =
    let mine = k.each id v at in
    over session s k (set s.views id v ++ plain_copy v ∷ []) k.owner k.next (omega arith)
    (each_end (F session s k k.owner k.next) (set s.views id v) (plain_copy v) (copy_fits session k.log k.owner k.next k.holder k.giver k.out id (length (set s.views id v)) v mine)
    (each_set (F session s k k.owner k.next) s.views id v mine (λ j w other e. k.each j w e)))

-- a seat takes in another
joins : (session : Session) (id other : ℕ) (v w both : View)
    → ((log : List Entry) (owner : ℕ → ℕ) (next holder giver out : ℕ) → Fits session log owner next holder giver out id v → Fits session log owner next holder giver out other w
    → Fits session log owner next holder giver out id both)
    → Joins (IsRuled session) id v other w both spent
joins session id other v w both makes s k at apart there =
    let there' : get_elem? s.views other ≡ some w = sym (set_else s.views id other both (λ e. apart e)) ∙ there in
    over session s k (set (set s.views id both) other spent) k.owner k.next (omega arith)
    (each_set (F session s k k.owner k.next) (set s.views id both) other spent (spent_fits session k.log k.owner k.next k.holder k.giver k.out other)
    (λ j x not_other e. each_set (F session s k k.owner k.next) s.views id both (makes k.log k.owner k.next k.holder k.giver k.out (k.each id v at) (k.each other w there'))
    (λ i y not_id e'. k.each i y e') j x e))

pub returns_seat : (session : Session) (id other : ℕ) (v w : View) → v.holds ≡ false → Joins (IsRuled session) id v other w (longer_of v w) spent
returns_seat session id other v w idle = joins session id other v w (longer_of v w) (λ log owner next holder giver out f g.
    ⊎_elim
    (λ (t : (leb (length w.own.seen) (length v.own.seen) ≡ true) × (length w.own.seen ≤ length v.own.seen)).
    subst (λ (b : Bool). Fits session log owner next holder giver out id (cond b (with_seen v v.own.seen w.own.seen) (with_seen v w.own.seen v.own.seen))) (sym t.0)
    (longer_fits session log owner next holder giver out id v v.own.seen w.own.seen idle (prefix_self v.own.seen) f.own.begins (prefix_shorter w.own.seen v.own.seen log g.own.begins f.own.begins t.1) f))
    (λ (t : (leb (length w.own.seen) (length v.own.seen) ≡ false) × (length v.own.seen ≤ length w.own.seen)).
    let up = prefix_shorter v.own.seen w.own.seen log f.own.begins g.own.begins t.1 in
    subst (λ (b : Bool). Fits session log owner next holder giver out id (cond b (with_seen v v.own.seen w.own.seen) (with_seen v w.own.seen v.own.seen))) (sym t.0)
    (longer_fits session log owner next holder giver out id v w.own.seen v.own.seen idle up g.own.begins up f))
    (length_cases (length w.own.seen) (length v.own.seen)))

pub settles : (session : Session) (id other : ℕ) (v w : View) → v.holds ≡ true → Joins (IsRuled session) id v other w (beside_of v w) spent
settles session id other v w on = joins session id other v w (beside_of v w) (λ log owner next holder giver out f g. record {
  session_is = f.session_is;
  own = f.own;
  own_seen = f.own_seen;
  beside = subst (λ (l : List Entry). HoldsIn l w.own) (sym (f.holding on).1) g.own;
  owns = f.owns;
  holding = f.holding;
  giving = f.giving;
})

-- a seat comes with no split
pub sits : (session : Session) (slots : ℕ) → Enters (IsRuled session) slots 0 (λ n w. sat (step slots 0 0 0 none) (opener session, []) n (w, []))
sits session slots s k len fits = (
  plain_copy (opener session),
  over session s k (s.views ++ plain_copy (opener session) ∷ []) k.owner k.next (omega arith)
      (each_end (F session s k k.owner k.next) s.views (plain_copy (opener session)) (newcomer_fits session k.log k.owner k.next k.holder k.giver k.out (length s.views)) k.each),
  refl,
)

-- ---- steps on a word
module _ (session : Session) (slots : ℕ) where
  -- any change of another word than that of the board
  pub looks : (id i : ℕ) (m : Place) (f : ℕ → ℕ) (st : Step Item) → i ≢ 2 → Allows (IsRuled session) slots id m i f (looked st m)
  looks id i m f st other s k len at fits =
      let mine = k.each id m.0 at in (
        m.0,
        keeps,
        tt,
        record {
          log = k.log;
          owner = k.owner;
          next = k.next;
          holder = k.holder;
          giver = k.giver;
          out = k.out;
          wide = still_wide s.words i (f (get_or s.words i 0)) k.wide;
          out_is = word_else s.words i (f (get_or s.words i 0)) other ∙ k.out_is;
          slot = k.slot;
          left = k.left;
          each = each_set (F session s k k.owner k.next) s.views id m.0 mine (λ j w apart e. k.each j w e);
        },
        (refl, mine.beside, mine.own_seen),
      )

  -- a load, which changes nothing
  pub loads : (id : ℕ) (m : Place) → Allows (IsRuled session) slots id m 0 (λ n. n) (looked (step slots 0 0 0 none) m)
  loads id m = looks id 0 m (λ n. n) (step slots 0 0 0 none) (ticket_apart 0 (omega arith))

  -- one more on another word
  pub adds_one : (id i : ℕ) (m : Place) → i ≢ 2 → Allows (IsRuled session) slots id m i (λ n. (n + 1) % 2 ^ 64) (looked (step slots i 1 0 none) m)
  adds_one id i m other = looks id i m (λ n. (n + 1) % 2 ^ 64) (step slots i 1 0 none) other

  -- ---- taking the board
  abbrev TakesGoal : Table → ℕ → Place → Type 0
  TakesGoal s id m = (w : View) × (a : Act Item) × Valid s.homes m.1 a × IsRuled session (stepped s 2 (either (get_or s.words 2 0 == 0) 1 (get_or s.words 2 0)) id m.1 w a)
      × took (step slots 2 0 1 none) m (get_or s.words 2 0) (w, carried_after m.1 a)

  takes_free : (id : ℕ) (m : Place) (s : Table) (k : IsRuled session s) → get_elem? s.views id ≡ some m.0 → k.out ≡ 0 → IsAtHome session k.log s.homes → TakesGoal s id m
  takes_free id m s k at free home =
      let found : get_or s.words 2 0 ≡ 0 = k.out_is ∙ free in
      let now : (i : ℕ) (v : View) → get_elem? s.views i ≡ some v → Fits session k.log k.owner k.next k.holder k.giver 0 i v = λ i v e. subst (λ (z : ℕ). Fits session k.log k.owner k.next k.holder k.giver z i v) free (k.each i v e) in
      let own = now id m.0 at in
      let b : BoardView = home.board in
      let is : k.log ≡ b.entries = sym home.log_is in (
        holding_it m.0 b.entries,
        takes 0 (Some b),
        ap (λ (hs : Homes). get_elem? hs 0) home.there,
        record {
          log = k.log;
          owner = k.owner;
          next = k.next;
          holder = id;
          giver = k.giver;
          out = 1;
          wide = still_wide s.words 2 (either (get_or s.words 2 0 == 0) 1 (get_or s.words 2 0)) k.wide;
          out_is = word_there s.words (either (get_or s.words 2 0 == 0) 1 (get_or s.words 2 0)) k.wide ∙ ap (λ (z : ℕ). either (z == 0) 1 z) found;
          slot = inr (refl, ap (λ (hs : Homes). set hs 0 none) home.there);
          left = k.left;
          each = each_set (Fits session k.log k.owner k.next id k.giver 1) s.views id (holding_it m.0 b.entries)
              (subst (λ (l : List Entry). Fits session k.log k.owner k.next id k.giver 1 id (holding_it m.0 l)) is (takes_fits session k.log k.owner k.next k.giver k.holder id m.0 own))
              (λ j w other e. no_holder_fits session k.log k.owner k.next k.giver k.holder id j w (now j w e));
        },
        subst (λ (r : ℕ). MatchBool (r == 0) (TakesOut m (holding_it m.0 b.entries, (0, Some b) ∷ m.1)) ((holding_it m.0 b.entries, (0, Some b) ∷ m.1) ≡ m)) (sym found) record {
          board = b;
          now = refl;
          begins = subst (λ (l : List Entry). IsPrefix m.0.own.seen l) is own.own.begins;
          exact = own.own.exact ∙ ap (mine_of m.0.own.analyst) is;
          session_is = λ x e. own.session_is x e ∙ sym home.session_is;
        },
      )

  takes_none : (id : ℕ) (m : Place) (s : Table) (k : IsRuled session s) → get_elem? s.views id ≡ some m.0 → k.out ≡ 1 → TakesGoal s id m
  takes_none id m s k at one =
      let found : get_or s.words 2 0 ≡ 1 = k.out_is ∙ one in (
        m.0,
        keeps,
        tt,
        record {
          log = k.log;
          owner = k.owner;
          next = k.next;
          holder = k.holder;
          giver = k.giver;
          out = k.out;
          wide = still_wide s.words 2 (either (get_or s.words 2 0 == 0) 1 (get_or s.words 2 0)) k.wide;
          out_is = word_there s.words (either (get_or s.words 2 0 == 0) 1 (get_or s.words 2 0)) k.wide ∙ (ap (λ (z : ℕ). either (z == 0) 1 z) found ∙ sym one);
          slot = k.slot;
          left = k.left;
          each = each_set (F session s k k.owner k.next) s.views id m.0 (k.each id m.0 at) (λ j w other e. k.each j w e);
        },
        subst (λ (r : ℕ). MatchBool (r == 0) (TakesOut m m) (m ≡ m)) (sym found) refl,
      )

  pub takes_board : (id : ℕ) (m : Place) → Allows (IsRuled session) slots id m 2 (λ n. either (n == 0) 1 n) (took (step slots 2 0 1 none) m)
  takes_board id m s k len at fits =
      ⊎_elim (λ (t : (k.out ≡ 0) × IsAtHome session k.log s.homes). takes_free id m s k at t.0 t.1) (λ (t : (k.out ≡ 1) × (s.homes ≡ none ∷ [])). takes_none id m s k at t.0) k.slot

  -- ---- giving it back
  pub gives_board : (id : ℕ) (m : Place) (b : BoardView) → m.1 ≡ (0, Some b) ∷ [] → m.0.holds ≡ true → Grown m.0 b
      → Allows (IsRuled session) slots id m 2 (λ _. 0) (λ _. gave (step slots 2 0 0 none) m 0)
  gives_board id m b has on grown s k len at fits =
      let v : View = m.0 in
      let f = k.each id v at in
      let h = f.holding on in
      let here : k.holder ≡ id = h.0 in
      let one : k.out ≡ 1 = h.2 in
      let away : s.homes ≡ none ∷ [] = ⊎_elim (λ (t : (k.out ≡ 0) × IsAtHome session k.log s.homes). absurd (omega (arith, t.0, one))) (λ (t : (k.out ≡ 1) × (s.homes ≡ none ∷ [])). t.1) k.slot in
      let now : (i : ℕ) (w : View) → get_elem? s.views i ≡ some w → Fits session k.log k.owner k.next id k.giver 1 i w =
      λ i w e. subst (λ (z : ℕ × ℕ). Fits session k.log k.owner k.next z.0 k.giver z.1 i w) (λ t. (here t, one t)) (k.each i w e) in
      let own = now id v at in
      let is : b.entries ≡ k.log ++ grown.added = grown.log_is ∙ ap (λ (l : List Entry). l ++ grown.added) h.1 in
      let same : b.session ≡ session = grown.same_session ∙ f.session_is grown.session grown.session_is in
      let back : homes_after s.homes m.1 gives ≡ some (Some b) ∷ [] =
      ap (λ (c : List (ℕ × Item)). homes_after s.homes c gives) has ∙ ap (λ (hs : Homes). set hs 0 (some (Some b))) away in (
        given v b.entries,
        gives,
        tt,
        record {
          log = b.entries;
          owner = k.owner;
          next = k.next;
          holder = id;
          giver = k.giver;
          out = 0;
          wide = still_wide s.words 2 0 k.wide;
          out_is = word_there s.words 0 k.wide;
          slot = inl (refl, record { board = b; there = back; log_is = refl; session_is = same });
          left = λ a le. ap (mine_of (Some a)) is ∙ (same_mine (Some a) k.log grown.added (λ c e. grown.others c (λ his. let o = own.owns c his in let c_is : a ≡ c = cc e in absurd (omega arith))) ∙ k.left a le);
          each = each_set (Fits session b.entries k.owner k.next id k.giver 0) s.views id (given v b.entries)
              (gives_fits session k.log k.owner k.next k.giver grown.added id v grown.others on b.entries is own)
              (λ j w other e. subst (λ (l : List Entry). Fits session l k.owner k.next id k.giver 0 j w) (sym is)
              (others_fit session k.log k.owner k.next k.giver grown.added id j v w grown.others other own (now j w e)));
        },
        (λ c e.
            let inner : b ≡ c = cc e in
            let goal_of : BoardView → Type 0 = λ x. ◌≡◌ {A = Place} (given v b.entries, carried_after m.1 gives) (given v x.entries, []) in
            subst goal_of inner (ap (λ (l : List (ℕ × Item)). let r : Place = (given v b.entries, carried_after l gives) in r) has)),
      )

-- ---- the table at the start
opens : (session : Session) (b : BoardView) (words : List ℕ) → 2 < length words → get_or words 2 0 ≡ 0 → b.entries ≡ [] → b.session ≡ session → IsRuled session record { words = words; homes = some (Some b) ∷ []; views = opener session ∷ [] }
opens session b words wide zero_there empty is = record {
  log = [];
  owner = λ a. 0;
  next = 1;
  holder = 0;
  giver = 0;
  out = 0;
  wide = wide;
  out_is = zero_there;
  slot = inl (refl, record { board = b; there = refl; log_is = empty; session_is = is });
  left = λ a h. refl;
  each = each_end (Fits session [] (λ a. 0) 1 0 0 0) [] (opener session) (opener_fits session) (λ j v e. absurd (cc e));
}

pub opens_at : (session : Session) (b : BoardView) (words : List ℕ) (items : List Item) → 2 < length words → get_or words 2 0 ≡ 0 → items ≡ Some b ∷ [] → b.entries ≡ [] → b.session ≡ session → IsRuled session (opening words items (opener session))
opens_at session b words items wide zero_there here empty is = subst (λ (xs : List Item). IsRuled session (opening words xs (opener session))) (sym here) (opens session b words wide zero_there empty is)
