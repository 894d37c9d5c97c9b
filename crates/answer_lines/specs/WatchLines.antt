-- What was published, and what each reader saw of it, in lines.
use Rattle.std.specs.Prelude.{◌≡◌, ◌==◌, ◌+◌, ℕ, List, [], ◌++◌, All, Contains, Option, Some, None, codes, flat_map, length, slice_index_or}
use Rattle.std.specs.List.{filter, last_or, list_any}
use Rattle.std.specs.List.Sorted.{IsStrictlyIncreasing}
use Rattle.text_lines.specs.Text.{field_text, texts_below}

-- of the published revisions those that a reader kept, in their order
abbrev pub seen_of : List ℕ → List ℕ → List ℕ
seen_of published kept = filter (λ r. list_any (λ k. k == r) kept) published

-- the last of a list, where there is one
abbrev pub last_in : List ℕ → Option ℕ
last_in numbers = last_or None numbers

-- ---- lines

unfoldable pub published_line : ℕ → List ℕ
published_line revision = codes "published" ++ (field_text revision ++ codes "\n")

-- the number of a reader, and what it saw
unfoldable pub reader_line : ℕ → List ℕ → List ℕ
reader_line number seen = codes "reader" ++ (field_text number ++ (flat_map field_text seen ++ codes "\n"))

-- a line for each publication, and then one for each reader, of which the first has the number 1
unfoldable pub watch_text : List ℕ → List (List ℕ) → List ℕ
watch_text published seen = flat_map published_line published ++ texts_below (length seen) (λ reader. reader_line (reader + 1) (slice_index_or seen reader []))

-- ---- what a reader may have seen of what was published

-- it rises strictly, is among the published revisions, and ends with the last of them; it is nothing where nothing was published
pub record IsSeen (published seen : List ℕ) : Type 0 where
  pub rises : IsStrictlyIncreasing seen
  pub among : All (Contains published) seen
  pub ends : last_in seen ≡ last_in published

-- so it is if what was published rises, and the last of it was kept
abbrev pub SeenEndWithTheLast : Type 0
SeenEndWithTheLast = (published kept : List ℕ) → IsStrictlyIncreasing published → ((last : ℕ) → last_in published ≡ Some last → Contains kept last) → IsSeen published (seen_of published kept)
