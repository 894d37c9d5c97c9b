-- A list of words of 64 bits as one row of bits, the lowest bit of each word first.
use Rattle.std.specs.Prelude.{◌≡◌, ◌≢◌, ◌⊎◌, ℕ, ◌+◌, ◌*◌, ◌/◌, ◌%◌, ◌<◌, ◌≤◌, Bool, not, ◌==◌, List, slice_index}
use Rattle.std.specs.Int.{bit_at}

-- bit b of the words
abbrev pub has_bit : List ℕ → ℕ → Bool
has_bit words b = bit_at (slice_index words (b / 64)) (b % 64) == 1

-- the new words are the old ones but for the bits from `first` to before `end`, which are as the test says
pub record AreBitsSet (old new : List ℕ) (first end : ℕ) (set : Bool) : Type 0 where
  pub inside : (b : ℕ) → first ≤ b → b < end → has_bit new b ≡ set
  pub outside : (b : ℕ) → (b < first) ⊎ (end ≤ b) → has_bit new b ≡ has_bit old b

-- each bit from `first` to before `end` is as the test says; one is not
abbrev pub AreAllBits : List ℕ → ℕ → ℕ → Bool → Type 0
AreAllBits words first end set = (b : ℕ) → first ≤ b → b < end → has_bit words b ≡ set

abbrev pub HasOtherBit : List ℕ → ℕ → ℕ → Bool → Type 0
HasOtherBit words first end set = (b : ℕ) × (first ≤ b) × (b < end) × (has_bit words b ≢ set)

-- the ones of a word are the bits from `first` to `last`
pub record AreOnes (first last ones : ℕ) : Type 0 where
  pub inside : (i : ℕ) → first ≤ i → i ≤ last → bit_at ones i ≡ 1
  pub outside : (i : ℕ) → (i < first) ⊎ (last < i) → bit_at ones i ≡ 0

-- the new word is the old one but for its bits where `ones` has a 1, which are as the test says
pub record AreOnesSet (old new ones : ℕ) (set : Bool) : Type 0 where
  pub inside : (i : ℕ) → i < 64 → bit_at ones i ≡ 1 → (bit_at new i == 1) ≡ set
  pub outside : (i : ℕ) → i < 64 → bit_at ones i ≡ 0 → bit_at new i ≡ bit_at old i

-- the word at a place has ones where its bits lie from `first` to `last`, numbered through all words
pub record AreOnesOf (place first last ones : ℕ) : Type 0 where
  pub inside : (i : ℕ) → i < 64 → first ≤ place * 64 + i → place * 64 + i ≤ last → bit_at ones i ≡ 1
  pub outside : (i : ℕ) → i < 64 → (place * 64 + i < first) ⊎ (last < place * 64 + i) → bit_at ones i ≡ 0

-- a bit of two words is not the same
abbrev pub DifferInBit : ℕ → ℕ → Type 0
DifferInBit a b = (i : ℕ) × (i < 64) × (bit_at a i ≢ bit_at b i)

-- the bits of a word tell of each number from `start` to before `end` whether it is not 0; the others are 0
pub record TellsNonzero (numbers : List ℕ) (start end word : ℕ) : Type 0 where
  pub told : (i : ℕ) → start + i < end → (bit_at word i == 1) ≡ not (slice_index numbers (start + i) == 0)
  pub rest : (i : ℕ) → i < 64 → end ≤ start + i → bit_at word i ≡ 0
