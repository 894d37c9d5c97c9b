-- The lines of a session's script part: what a line's bytes, without its line feed, spell.
use Rattle.std.specs.Prelude.{◌≡◌, ℕ, ◌==◌, ◌||◌, ◌&&◌, not, Bool, IsTrue, List, ◌∷◌, ◌++◌, length, codes}
use Rattle.raster_model.specs.declared.script.Command.TheVariants.{Change, Settle, Show}
use Rattle.raster_model.specs.declared.script.Edit.TheVariants.{Mask, Unmask}
use Rattle.raster_model.specs.declared.script.Rect.{Rect}
use Rattle.pgm_planes.specs.Gaps.{begins, is_number, capped_number}
use Rattle.session_script.specs.declared.word.Word.{Word}
use Rattle.session_script.specs.declared.word.Word.TheVariants as words

abbrev pub is_zero : ℕ → Bool
is_zero b = b == 48

-- a plain number: decimal digits, of which the first is 0 in `0` alone
abbrev pub is_plain : List ℕ → Bool
is_plain digits = is_number digits && (not (begins is_zero digits) || (length digits == 1))

abbrev pub rect_by : ℕ → ℕ → ℕ → ℕ → Rect
rect_by x0 y0 x1 y1 = record { x0 = x0; y0 = y0; x1 = x1; y1 = y1 }

-- four plain numbers, each after one SP; one above 4,294,967,295 counts as that number
pub record SpellsRect (bytes : List ℕ) (rect : Rect) : Type 0 where
  pub left : List ℕ
  pub top : List ℕ
  pub right : List ℕ
  pub bottom : List ℕ
  pub parts : bytes ≡ 32 ∷ (left ++ (32 ∷ (top ++ (32 ∷ (right ++ (32 ∷ bottom))))))
  pub plain : IsTrue (is_plain left) × IsTrue (is_plain top) × IsTrue (is_plain right) × IsTrue (is_plain bottom)
  pub corners : rect ≡ rect_by (capped_number left) (capped_number top) (capped_number right) (capped_number bottom)

-- the name of an edit and a rectangle
abbrev pub SpellsEdit : List ℕ → List ℕ → Rect → Type 0
SpellsEdit name line rect = (fields : List ℕ) × (line ≡ name ++ fields) × SpellsRect fields rect

-- the line spells the word
abbrev pub Spells : List ℕ → Word → Type 0
Spells line words.Analyst = line ≡ codes "analyst"
Spells line words.End = line ≡ codes "end"
Spells line (words.Command (Change (Mask rect))) = SpellsEdit (codes "mask") line rect
Spells line (words.Command (Change (Unmask rect))) = SpellsEdit (codes "unmask") line rect
Spells line (words.Command Settle) = line ≡ codes "settle"
Spells line (words.Command Show) = line ≡ codes "show"

-- the line spells no word
abbrev pub SpellsNone : List ℕ → Type 0
SpellsNone line = (word : Word) → Spells line word → ⊥
