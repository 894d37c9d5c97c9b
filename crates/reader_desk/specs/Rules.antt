-- The rules of the list of what was placed, and of what is shown. No clause of a public function cites this file.
use Rattle.std.specs.Prelude.{◌≡◌, ℕ, ◌+◌, ◌≤◌, ◌==◌, false, true, List, [], ◌∷◌, ◌++◌, length, replicate, MatchBool, Option, Some, IfSome}
use mathlib.Core.Option.{some}
use lib.ListN.{get_elem?}
use Rattle.logbook.specs.Pages.{Book, Cell, Named, Nib, Step, View, may_make, may_write, nib}
use Rattle.logbook.specs.declared.tokens.Pen.{Pen}
use Rattle.surface_snapshots.specs.Parts.{Parts}
use Rattle.reader_desk.specs.Fronts.{ShelfView}

-- an entry of the list; a step that adds none asks for None
abbrev pub Item : Type 0
Item = Option Parts

-- a word for each of so many surfaces, and words for more, which are not at home
abbrev pub words_for : ℕ → ℕ → List Cell
words_for placed ahead = replicate placed (0, true) ++ replicate ahead (0, false)

-- the first word is how many words there are; the second is not used; then come those for surfaces. So the next surface comes with the first word that is not at home, and only who has its pen adds it
abbrev pub words : ℕ → ℕ → List Cell
words placed ahead = (placed + ahead + 2, true) ∷ (0, true) ∷ words_for placed ahead

abbrev pub IsCounted : List Cell → List Item → Type 0
IsCounted cells log = (ahead : ℕ) × (cells ≡ words (length log) ahead)

-- the pen of the word for the next surface after so many
abbrev pub next_nib : ℕ → Nib
next_nib placed = nib may_write (placed + 2) 0

abbrev pub head_of : Book → Named
head_of shelf = record { tracked = true; key = 0; book = shelf }

-- a pen is that of the word for the next surface after those of a list
abbrev pub IsNextPen : Pen → ShelfView → Type 0
IsNextPen pen placed = (pen.book ≡ placed.shelf) × (pen.nib ≡ next_nib (length placed.surfaces))

-- if there were as many words as was expected, one was added, and the pen is its
abbrev pub AddsWord : Step Item → View Item ℕ → ℕ → View Item ℕ → Type 0
AddsWord step v found w = MatchBool (found == step.old) (w.1.0 ≡ nib may_make step.old 0) (Unit {0})

-- the surface was added to all that had been seen
abbrev pub AddsNext : Step Item → View Item ℕ → ℕ → View Item ℕ → Type 0
AddsNext step v found w = w.0 ≡ v.0 ++ step.ask ∷ []

-- no more was placed than the pen says, which is as before
abbrev pub IsAll : Step Item → View Item ℕ → ℕ → View Item ℕ → Type 0
IsAll step v found w = (length w.0 + 2 ≤ v.1.0.key) × (w.1.0 ≡ v.1.0)

-- each view that names a shelf names this one
abbrev pub IsOfShelf : Book → Option ShelfView → Type 0
IsOfShelf shelf view = IfSome view (λ front. front.shelf ≡ shelf)

abbrev pub AreOfShelf : Book → List (Option ShelfView) → Type 0
AreOfShelf shelf views = (seat : ℕ) (view : Option ShelfView) → get_elem? views seat ≡ some view → IsOfShelf shelf view

-- what was shown before is of the shelf that the view named, and the view names the shelf of what is shown afterwards
abbrev pub Met : Option ShelfView → ShelfView → ShelfView → Option ShelfView → Type 0
Met old before after new = IsOfShelf before.shelf old × (new ≡ Some after)
