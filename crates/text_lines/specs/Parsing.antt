-- What readers of the fields of a line say.
use Rattle.std.specs.Prelude.{◌≡◌, ℕ, ◌<◌, ◌^◌, List, ◌∷◌, ◌++◌, Option, MatchOption, ⊤}
use Rattle.std.specs.Borrow.{Bor}
use Rattle.raster_model.specs.declared.script.Rect.{Rect}
use Rattle.text_lines.specs.Numbers.{BeginsField, IsToken}
use Rattle.text_lines.specs.Text.{field_text}

-- a number of 32 bits; one of 128
abbrev pub IsWord : ℕ → Type 0
IsWord n = n < 2 ^ 32

abbrev pub IsWide : ℕ → Type 0
IsWide n = n < 2 ^ 128

-- two numbers of 32 bits, and a box of them
abbrev pub AreWords : ℕ × ℕ → Type 0
AreWords p = IsWord p.0 × IsWord p.1

pub record IsRectOfWords (rect : Rect) : Type 0 where
  pub x0 : IsWord rect.x0
  pub y0 : IsWord rect.y0
  pub x1 : IsWord rect.x1
  pub y1 : IsWord rect.y1

-- two numbers, each after a space
abbrev pub pair_text : ℕ × ℕ → List ℕ
pair_text p = field_text p.0 ++ field_text p.1

-- a number of 32 bits, and what follows it
abbrev pub IsWordThen : {A : Type 0} → (A → Type 0) → ℕ × A → Type 0
IsWordThen MayStand p = IsWord p.0 × MayStand p.1

abbrev pub field_then : {A : Type 0} → (A → List ℕ) → ℕ × A → List ℕ
field_then text p = field_text p.0 ++ text p.1

-- a text after a word
abbrev pub behind : {A : Type 0} → List ℕ → (A → List ℕ) → A → List ℕ
behind word text a = word ++ text a

-- the bytes are the text of a value that may stand; or they are the text of none
abbrev pub IsParsedAs : {A : Type 0} → (A → Type 0) → (A → List ℕ) → List ℕ → Option A → Type 0
IsParsedAs {A} MayStand text bytes result = MatchOption result ((a : A) → MayStand a → bytes ≡ text a → ⊥) (λ a. MayStand a × (bytes ≡ text a))

-- what follows a word in front; or the word is not there
abbrev pub IsAfter : List ℕ → List ℕ → Option (Bor (List ℕ)) → Type 0
IsAfter word bytes result = MatchOption result ((rest : List ℕ) → bytes ≡ word ++ rest → ⊥) (λ rest. bytes ≡ word ++ rest.now)

-- a space, bytes up to the next space, and the rest; or no space in front
abbrev pub IsSplit : List ℕ → Option (Bor (List ℕ) × Bor (List ℕ)) → Type 0
IsSplit bytes result = MatchOption result ((more : List ℕ) → bytes ≡ 32 ∷ more → ⊥) (λ p. IsToken p.0.now × BeginsField p.1.now × (bytes ≡ 32 ∷ (p.0.now ++ p.1.now)))

-- a field in front and what follows it, which is empty or begins with a space; or no such field
abbrev pub IsFieldTaken : (ℕ → Type 0) → List ℕ → Option (ℕ × Bor (List ℕ)) → Type 0
IsFieldTaken MayStand bytes result = MatchOption result ((n : ℕ) (rest : List ℕ) → MayStand n → BeginsField rest → bytes ≡ field_text n ++ rest → ⊥) (λ f. MayStand f.0 × BeginsField f.1.now × (bytes ≡ field_text f.0 ++ f.1.now))

-- any rule may stand
abbrev pub IsAnyRule : {A : Type 0} → A → Type 0
IsAnyRule a = ⊤
