-- Parsing the fields of a line from left to right: words of helpers, which no clause of a public function cites.
use Rattle.std.specs.Prelude.{ℕ, ◌==◌, if◌then◌else◌, List, [], ◌∷◌, codes, take, drop, Option, Some, None}
use Rattle.std.specs.List.{prefix_len}
use Rattle.std.specs.Borrow.{Bor}
use Rattle.raster_model.specs.declared.script.Command.TheVariants.{Change, Settle, Show}
use Rattle.raster_model.specs.declared.script.Edit.TheVariants.{Mask, Unmask}
use Rattle.raster_model.specs.declared.script.Rect.{Rect}
use Rattle.pgm_planes.specs.Gaps.{is_digit, capped_number}
use Rattle.session_script.specs.declared.word.Word.{Word}
use Rattle.session_script.specs.declared.word.Word.TheVariants as words
use Rattle.session_script.specs.Lines.{is_plain, rect_by}

-- how many digits stand in front
unfoldable pub digits_in : List ℕ → ℕ
digits_in bytes = prefix_len is_digit bytes

-- the plain number in front, which takes all digits there, and what follows it
unfoldable pub plain_number_in : List ℕ → Option (ℕ × List ℕ)
plain_number_in bytes = if is_plain (take (digits_in bytes) bytes) then Some (capped_number (take (digits_in bytes) bytes), drop (digits_in bytes) bytes) else None

-- the same after an SP
unfoldable pub field_in : List ℕ → Option (ℕ × List ℕ)
field_in [] = None
field_in (b ∷ bytes) = if b == 32 then plain_number_in bytes else None

-- the corners, where nothing follows
abbrev pub rect_unless : ℕ → ℕ → ℕ → ℕ → List ℕ → Option Rect
rect_unless x0 y0 x1 y1 [] = Some (rect_by x0 y0 x1 y1)
rect_unless x0 y0 x1 y1 (b ∷ rest) = None

abbrev pub if_given : {A B : Type 0} → Option A → (A → Option B) → Option B
if_given None f = None
if_given (Some x) f = f x

unfoldable pub rect_in : List ℕ → Option Rect
rect_in bytes = if_given (field_in bytes) (λ a. if_given (field_in a.1) (λ b. if_given (field_in b.1) (λ c. if_given (field_in c.1) (λ d. rect_unless a.0 b.0 c.0 d.0 d.1))))

-- a number and what follows it, as a function gave them
abbrev pub given_field : Option (ℕ × Bor (List ℕ)) → Option (ℕ × List ℕ)
given_field None = None
given_field (Some f) = Some (f.0, f.1.now)

-- ---- the word of a line

-- what follows a name in front of a line
abbrev pub after_name : List ℕ → List ℕ → Option (List ℕ)
after_name [] line = Some line
after_name (b ∷ name) [] = None
after_name (b ∷ name) (c ∷ line) = if b == c then after_name name line else None

-- the word, where nothing follows its name
abbrev pub if_ends : Word → Option (List ℕ) → Option Word
if_ends word None = None
if_ends word (Some []) = Some word
if_ends word (Some (b ∷ rest)) = None

-- the edit, where a rectangle follows its name
abbrev pub of_rect : (Rect → Word) → Option Rect → Option Word
of_rect f None = None
of_rect f (Some r) = Some (f r)

abbrev pub of_fields : (Rect → Word) → Option (List ℕ) → Option Word
of_fields f None = None
of_fields f (Some fields) = of_rect f (rect_in fields)

abbrev pub or_else : Option Word → Option Word → Option Word
or_else None o = o
or_else (Some w) o = Some w

abbrev pub masks : Rect → Word
masks rect = words.Command (Change (Mask rect))

abbrev pub unmasks : Rect → Word
unmasks rect = words.Command (Change (Unmask rect))

abbrev pub edit_in : List ℕ → Option Word
edit_in line = or_else (of_fields masks (after_name (codes "mask") line)) (of_fields unmasks (after_name (codes "unmask") line))

abbrev pub command_in : List ℕ → Option Word
command_in line = or_else (if_ends (words.Command Settle) (after_name (codes "settle") line)) (or_else (if_ends (words.Command Show) (after_name (codes "show") line)) (edit_in line))

-- the word that a line spells
unfoldable pub word_in : List ℕ → Option Word
word_in line = or_else (if_ends words.Analyst (after_name (codes "analyst") line)) (or_else (if_ends words.End (after_name (codes "end") line)) (command_in line))
