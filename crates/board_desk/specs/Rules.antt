-- The rule of the desk's table: there is one history, the board at home has it, and what each seat has seen begins it. No clause of a public function cites this file.
use Rattle.std.specs.Prelude.{◌≡◌, ℕ, ◌+◌, ◌<◌, ◌≤◌, ◌==◌, leb, Bool, true, false, ◌⊎◌, List, [], ◌∷◌, ◌++◌, length, slice_index, Option, Some, None, cond}
use Rattle.std.specs.Bool.{MatchBool}
use mathlib.Core.List.{IsPrefix}
use mathlib.Core.Option.{some, none}
use lib.ListN.{get_elem?}
use Rattle.atomic_table.specs.Table.{State, Me, Step}
use Rattle.raster_model.specs.declared.session.Session.{Session}
use Rattle.tile_board.specs.declared.entry.Entry.{Entry}
use Rattle.tile_board.specs.BoardView.{BoardView}
use Rattle.board_desk.specs.declared.law.Claim.{Claim}
use Rattle.board_desk.specs.declared.law.View.{View}
use Rattle.board_desk.specs.Mine.{mine_of}

-- a claim stands in a history: what was seen begins the history, and the claim's entries are the analyst's entries there
pub record HoldsIn (log : List Entry) (c : Claim) : Type 0 where
  pub begins : IsPrefix c.seen log
  pub exact : c.mine ≡ mine_of c.analyst log

-- what the seat i knows, if the history is `log`: the session, what its own claim and the claim beside it say, and which analysts' numbers and which board are its own
pub record Fits (session : Session) (log : List Entry) (owner : ℕ → ℕ) (next holder giver out : ℕ) (i : ℕ) (v : View) : Type 0 where
  pub session_is : (x : Session) → v.session ≡ Some x → x ≡ session
  pub own : HoldsIn log v.own
  pub own_seen : v.own.mine ≡ mine_of v.own.analyst v.own.seen
  pub beside : HoldsIn v.own.seen v.beside
  pub owns : (a : ℕ) → v.own.analyst ≡ Some a → (owner a ≡ i) × (a < next)
  pub holding : v.holds ≡ true → (holder ≡ i) × (v.own.seen ≡ log) × (out ≡ 1)
  pub giving : v.gives ≡ true → (giver ≡ i) × (v.next ≡ next)

abbrev pub Item : Type 0
Item = Option BoardView

abbrev pub Homes : Type 0
Homes = List (mathlib.Core.Option.Option Item)

-- the board lies in the slot, with the history and the session
pub record IsAtHome (session : Session) (log : List Entry) (homes : Homes) : Type 0 where
  pub board : BoardView
  pub there : homes ≡ some (Some board) ∷ []
  pub log_is : board.entries ≡ log
  pub session_is : board.session ≡ session

-- the word 2 tells whether the board is at home or out; each number of an analyst has one seat, and the numbers that are left have no entries
pub record IsRuled (session : Session) (s : State Item View) : Type 0 where
  pub log : List Entry
  -- which seat has an analyst's number, the first number that is left, which seat has the board, and which gives out numbers
  pub owner : ℕ → ℕ
  pub next : ℕ
  pub holder : ℕ
  pub giver : ℕ
  pub out : ℕ
  pub wide : 2 < length s.words
  pub out_is : slice_index s.words 2 ≡ out
  pub slot : ((out ≡ 0) × IsAtHome session log s.homes) ⊎ ((out ≡ 1) × (s.homes ≡ none ∷ []))
  pub left : (a : ℕ) → next ≤ a → mine_of (Some a) log ≡ []
  pub each : (i : ℕ) (v : View) → get_elem? s.views i ≡ some v → Fits session log owner next holder giver out i v

-- ---- views
abbrev pub claim : Option ℕ → List Entry → List Entry → Claim
claim a seen mine = record { analyst = a; seen = seen; mine = mine }

abbrev pub no_claim : Claim
no_claim = claim None [] []

abbrev pub view : Option Session → Claim → Claim → Bool → Bool → ℕ → View
view s own beside holds gives next = record { session = s; own = own; beside = beside; holds = holds; gives = gives; next = next }

-- the first seat, which gives out the numbers from 1 on; a seat that another took in
abbrev pub opener : Session → View
opener s = view (Some s) no_claim no_claim false true 1

abbrev pub spent : View
spent = view None no_claim no_claim false false 0

-- a seat that gave out a number, and the seat that got it
abbrev pub enrolling : View → View
enrolling v = view v.session v.own v.beside v.holds v.gives (v.next + 1)

abbrev pub enrolled : View → View
enrolled v = view v.session (claim (Some v.next) v.own.seen []) no_claim false false 0

-- a seat with no analyst that has seen as much as another
abbrev pub plain_copy : View → View
plain_copy v = view v.session (claim None v.own.seen []) no_claim false false 0

-- a seat that took in another: it has seen the longer history, and has the shorter beside it; or it has the other's claim beside its own
abbrev pub with_seen : View → List Entry → List Entry → View
with_seen v seen beside = view v.session (claim v.own.analyst seen v.own.mine) (claim None beside []) v.holds v.gives v.next

abbrev pub longer_of : View → View → View
longer_of v w = cond (leb (length w.own.seen) (length v.own.seen)) (with_seen v v.own.seen w.own.seen) (with_seen v w.own.seen v.own.seen)

abbrev pub beside_of : View → View → View
beside_of v w = view v.session v.own w.own v.holds v.gives v.next

-- a seat that has the board, and one that gave it back, with this history
abbrev pub holding_it : View → List Entry → View
holding_it v log = view v.session (claim v.own.analyst log v.own.mine) no_claim true v.gives v.next

abbrev pub given : View → List Entry → View
given v log = view v.session (claim v.own.analyst log (mine_of v.own.analyst log)) no_claim false v.gives v.next

-- ---- what the steps tell
abbrev pub Place : Type 0
Place = Me Item View

abbrev pub looked : Step Item → Place → ℕ → Place → Type 0
looked st m found n = (n ≡ m) × HoldsIn m.0.own.seen m.0.beside × (m.0.own.mine ≡ mine_of m.0.own.analyst m.0.own.seen)

-- a new seat, which has seen nothing
abbrev pub sat : Step Item → Place → ℕ → Place → Type 0
sat st m found n = n ≡ (plain_copy m.0, [])

-- the seat has the board, whose history begins with all that the seat had seen and has its analyst's entries
pub record TakesOut (m n : Place) : Type 0 where
  pub board : BoardView
  pub now : n ≡ (holding_it m.0 board.entries, (0, Some board) ∷ m.1)
  pub begins : IsPrefix m.0.own.seen board.entries
  pub exact : m.0.own.mine ≡ mine_of m.0.own.analyst board.entries
  pub session_is : (x : Session) → m.0.session ≡ Some x → x ≡ board.session

abbrev pub took : Step Item → Place → ℕ → Place → Type 0
took st m found n = MatchBool (found == 0) (TakesOut m n) (n ≡ m)

abbrev pub gave : Step Item → Place → ℕ → Place → Type 0
gave st m found n = (b : BoardView) → m.1 ≡ (0, Some b) ∷ [] → n ≡ (given m.0 b.entries, [])

-- ---- what the lock's functions tell
-- what the board of a seat may have become: these entries were added, and none of them names another analyst
pub record Grown (v : View) (b : BoardView) : Type 0 where
  pub added : List Entry
  pub log_is : b.entries ≡ v.own.seen ++ added
  pub others : (a : ℕ) → (v.own.analyst ≡ Some a → ⊥) → mine_of (Some a) added ≡ []
  pub session : Session
  pub session_is : v.session ≡ Some session
  pub same_session : b.session ≡ session

-- the board c is the board b with some entries more, none of which names another analyst
pub record Grows (analyst : Option ℕ) (b c : BoardView) : Type 0 where
  pub added : List Entry
  pub log_is : c.entries ≡ b.entries ++ added
  pub session_is : c.session ≡ b.session
  pub others : (a : ℕ) → (analyst ≡ Some a → ⊥) → mine_of (Some a) added ≡ []

-- the seat with the view v took the board b out, and is n now
pub record Held (v : View) (b : BoardView) (place : Place) : Type 0 where
  pub now : place ≡ (holding_it v b.entries, (0, None) ∷ [])
  pub begins : IsPrefix v.own.seen b.entries
  pub exact : v.own.mine ≡ mine_of v.own.analyst b.entries
  pub session_is : (x : Session) → v.session ≡ Some x → x ≡ b.session

-- what was seen is now the longer of both histories, and the other begins it
pub record Merges (v w n : View) : Type 0 where
  pub one : ((n.own.seen ≡ v.own.seen) × (length w.own.seen ≤ length v.own.seen)) ⊎ ((n.own.seen ≡ w.own.seen) × (length v.own.seen ≤ length w.own.seen))
  pub first : IsPrefix v.own.seen n.own.seen
  pub second : IsPrefix w.own.seen n.own.seen
