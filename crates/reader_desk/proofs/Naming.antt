-- Steps of readers and of the writer keep the rule that all views name one shelf.
use Rattle.std.proofs.Common.{◌≡◌, ◌≢◌, ℕ, List, [], ◌∷◌, ◌++◌, ap, set, refl, sym, ◌∙◌, subst, ⊎_elim, None, Some, Option}
use Rattle.std.specs.Prelude.{MatchResult, Result, Ok, Err}
use Rattle.std.specs.List.{fold}
use Rattle.std.proofs.lemmas.List.Sums.{fold-append}
use mathlib.Core.Option.{some}
use lib.ListN.{get_elem?}
use Rattle.atomic_table.proofs.Lists.{at_set, at_snoc}
use Rattle.logbook.specs.Pages.{Book}
use Rattle.left_right.specs.Register.{Admits, Forks, Merges, TurnsAt}
use Rattle.reader_desk.specs.Fronts.{ShelfView}
use Rattle.reader_desk.specs.Seats.{NamesShelf}
use Rattle.reader_desk.specs.Rules.{AreOfShelf, IsOfShelf, Met}

abbrev pub holds : ShelfView → List (Option ShelfView) → Type 0
holds shown views = AreOfShelf shown.shelf views

pub admits : Admits holds None
admits x views h seat v at = ⊎_elim (h seat v) (λ (e : None ≡ v). subst (IsOfShelf x.shelf) e tt) (at_snoc views None v seat at)

-- a view at one place gives way to another one of the shelf
set_named : (shelf : Book) (views : List (Option ShelfView)) (seat : ℕ) (v : Option ShelfView) → AreOfShelf shelf views → IsOfShelf shelf v → AreOfShelf shelf (set views seat v)
set_named shelf views seat v h own j u e =
    ⊎_elim (λ (t : (j ≡ seat) × (v ≡ u)). subst (IsOfShelf shelf) t.1 own) (λ (t : (j ≢ seat) × (get_elem? views j ≡ some u)). h j u t.1) (at_set views seat j v u e)

pub meets : (seat : ℕ) (v : Option ShelfView) (x y : ShelfView) → y.shelf ≡ x.shelf → TurnsAt holds seat v x y Met
meets seat v x y same views h at = (
  Some y,
  set_named y.shelf views seat (Some y) (subst (λ (s : Book). AreOfShelf s views) (sym same) h) refl,
  (h seat v at, refl),
)

pub forks : (seat : ℕ) (v : Option ShelfView) → Forks holds seat v v v
forks seat v x views h at j u e = ⊎_elim (set_named x.shelf views seat v h (h seat v at) j u) (λ (same : v ≡ u). subst (IsOfShelf x.shelf) same (h seat v at)) (at_snoc (set views seat v) v u j e)

pub merges : (seat : ℕ) (v : Option ShelfView) (other : ℕ) (w : Option ShelfView) → Merges holds seat v other w w None
merges seat v other w x views h at apart there =
    let own : IsOfShelf x.shelf w = ⊎_elim (λ (t : (other ≡ seat) × (w ≡ w)). absurd (apart t.0)) (λ (t : (other ≢ seat) × (get_elem? views other ≡ some w)). h other w t.1) (at_set views seat other w w there) in
    set_named x.shelf (set views seat w) other None (set_named x.shelf views seat w h own) tt

-- what is shown after these operations: each takes the place of what was shown
abbrev pub last_shown : ShelfView → List ShelfView → ShelfView
last_shown shown log = fold (λ (_ front : ShelfView). front) shown log

pub last_wins : (shown longer : ShelfView) (log more : List ShelfView) → more ≡ log ++ longer ∷ [] → last_shown shown more ≡ longer
last_wins shown longer log more is = ap (last_shown shown) is ∙ fold-append (λ (_ front : ShelfView). front) shown log (longer ∷ [])

-- a stand names its shelf after it showed more of it, whether it had the memory or not
pub names_after : {U E : Type 0} (answer : Result U E) (shelf : Book) (v w : Option ShelfView) (x y longer : ShelfView) (more rest : List ShelfView) → NamesShelf shelf v → x.shelf ≡ shelf → longer.shelf ≡ shelf → last_shown x more ≡ longer
    → MatchResult answer (λ _. (y ≡ last_shown x more) × (rest ≡ [])) (λ _. (y ≡ x) × (rest ≡ more)) → MatchResult answer (λ _. Met v x y w) (λ _. w ≡ v) → NamesShelf shelf w × (y.shelf ≡ shelf)
names_after (Ok done) shelf v w x y longer more rest names same of last values rule =
    let own : y.shelf ≡ shelf = ap (λ (f : ShelfView). f.shelf) (values.0 ∙ last) ∙ of in
    (record { front = y; is = rule.1; same = own }, own)
names_after (Err fault) shelf v w x y longer more rest names same of last values rule =
    (subst (NamesShelf shelf) (sym rule) names, ap (λ (f : ShelfView). f.shelf) values.0 ∙ same)
