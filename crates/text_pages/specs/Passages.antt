-- Texts that are one text after another, and the adding of all passages of one.
use Rattle.std.specs.Prelude.{ℕ, ◌+◌, ◌<◌, List}
use Rattle.text_lines.specs.Adding.{Adds, View}
use Rattle.text_lines.specs.Text.{texts_below}

-- the texts f a, f (a + 1) .. of n places, one after the other
abbrev pub texts_from : (ℕ → List ℕ) → ℕ → ℕ → List ℕ
texts_from f a n = texts_below n (λ i. f (a + i))

-- all passages of a text were added, one after the other, and something is known of each
pub record AddsAll (before after : View) (count : ℕ) (words : ℕ → List ℕ) (holds : ℕ → Type 0) : Type 0 where
  pub added : Adds before after (texts_below count words)
  pub known : (i : ℕ) → i < count → holds i
