-- How the pixels of a mask lie in words, which no public clause cites: row by row, and each row begins with a word of its own.
use Rattle.std.specs.Prelude.{◌≡◌, ℕ, ◌+◌, ◌*◌, ◌/◌, ◌%◌, ◌<◌, Bool, ◌==◌, List, map}
use Rattle.std.specs.Int.{bit_at}
use Rattle.std.specs.List.{range_with_len}
use Rattle.raster_model.specs.declared.plane.Plane.{Plane}
use Rattle.raster_model.specs.Bits.{has_bit}
use Rattle.raster_model.specs.Masks.{open_by}
use Rattle.raster_model.specs.Sums.{Field}

-- words in a row of w pixels
abbrev pub words_across : ℕ → ℕ
words_across w = (w + 63) / 64

-- the bit of a pixel, among the bits of all words
abbrev pub bit_of : ℕ → Field ℕ
bit_of w x y = y * (words_across w * 64) + x

-- the bits of the pixels, in row order
unfoldable pub pixels_of : ℕ → ℕ → List ℕ → List Bool
pixels_of width height words = map (λ k. has_bit words (bit_of width (k % width) (k / width))) (range_with_len 0 (width * height))

-- the word at a place of row y tells of each of its pixels whether a mask plane opens it
abbrev pub IsWordOf : Plane → ℕ → ℕ → ℕ → Type 0
IsWordOf plane y place word = (x : ℕ) → x < plane.width → x / 64 ≡ place → (bit_at word (x % 64) == 1) ≡ open_by plane x y

-- so do the first n words, row by row
abbrev pub AreWordsOf : Plane → ℕ → List ℕ → Type 0
AreWordsOf plane n words = (x y : ℕ) → x < plane.width → y < plane.height → y * words_across plane.width + x / 64 < n → has_bit words (bit_of plane.width x y) ≡ open_by plane x y
