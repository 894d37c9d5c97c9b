-- Texts of places from one on.
use Rattle.std.proofs.Common.{◌≡◌, ℕ, zero, suc, ◌+◌, ◌-◌, ◌<◌, ◌≤◌, List, [], ◌++◌, inl, inr, refl, sym, ap, ◌∙◌, append_assoc, arith}
use Rattle.std.proofs.lemmas.Bool.{cases_lt}
use Rattle.std.proofs.lemmas.List.{append-nil}
use Rattle.text_lines.specs.Adding.{Adds, View}
use Rattle.text_lines.specs.Text.{texts_below}
use Rattle.text_lines.proofs.AddLemmas.{adds_nothing, adds_then}
use Rattle.text_lines.proofs.ChainLemmas.{adds_is}
use Rattle.text_lines.proofs.TextLemmas.{texts_none}
use Rattle.text_pages.specs.Passages.{texts_from}

-- n of them and then m more
from_join : (f : ℕ → List ℕ) (a n m : ℕ) → texts_from f a (n + m) ≡ texts_from f a n ++ texts_from f (a + n) m
unfolding texts_below
from_join f a n zero = (let e : n + zero ≡ n = omega arith in rw e (sym (append-nil (texts_from f a n))))
from_join f a n (suc m) =
    let e : n + suc m ≡ suc (n + m) = omega arith in
    let last : a + (n + m) ≡ (a + n) + m = omega arith in
    rw (e, last) (ap (λ (l : List ℕ). l ++ f ((a + n) + m)) (from_join f a n m) ∙ append_assoc (texts_from f a n) (texts_from f (a + n) m) (f ((a + n) + m)))

-- those from a to before b, and then those to before c
pub adds_joined : {v m w : View} (f : ℕ → List ℕ) (a b c : ℕ) → a ≤ b → b ≤ c → Adds v m (texts_from f a (b - a)) → Adds m w (texts_from f b (c - b)) → Adds v w (texts_from f a (c - a))
adds_joined f a b c l k p q =
    let there : a + (b - a) ≡ b = omega (arith, l) in
    let all : c - a ≡ (b - a) + (c - b) = omega (arith, l, k) in
    adds_is (adds_then p q) (ap (texts_from f a) all ∙ from_join f a (b - a) (c - b) ∙ ap (λ (s : ℕ). texts_from f a (b - a) ++ texts_from f s (c - b)) there)

-- one more
pub adds_one_more : {v m w : View} (f : ℕ → List ℕ) (a i : ℕ) → a ≤ i → Adds v m (texts_from f a (i - a)) → Adds m w (f i) → Adds v w (texts_from f a (i + 1 - a))
unfolding texts_below
adds_one_more f a i l p q =
    let more : i + 1 - a ≡ suc (i - a) = omega (arith, l) in
    let there : a + (i - a) ≡ i = omega (arith, l) in
    rw (more, there) (adds_then p q)

-- none
pub from_none : (f : ℕ → List ℕ) (a : ℕ) → texts_from f a (a - a) ≡ []
from_none f a = (let e : a - a ≡ 0 = omega arith in rw e (texts_none (λ i. f (a + i))))

from_zero : (f : ℕ → List ℕ) (n : ℕ) → texts_from f 0 n ≡ texts_below n f
unfolding texts_below
from_zero f zero = refl
from_zero f (suc n) = (let e : 0 + n ≡ n = omega arith in rw e (ap (λ (l : List ℕ). l ++ f n) (from_zero f n)))

-- all from the first
pub from_first : (f : ℕ → List ℕ) (n : ℕ) → texts_from f 0 (n - 0) ≡ texts_below n f
from_first f n = (let e : n - 0 ≡ n = omega arith in rw e (from_zero f n))

-- nothing was added, and there is none from a to before b
pub adds_none : (v : View) (f : ℕ → List ℕ) (a b : ℕ) → b ≡ a → Adds v v (texts_from f a (b - a))
adds_none v f a b e = adds_is (adds_nothing v) (rw e (from_none f a))

-- as far as a number, and then as far as another
pub known_joined : (known : ℕ → Type 0) (a b c : ℕ) → ((i : ℕ) → a ≤ i → i < b → known i) → ((i : ℕ) → b ≤ i → i < c → known i) → (i : ℕ) → a ≤ i → i < c → known i
known_joined known a b c p q i l k =
    elim (cases_lt i b) [
      | inl below ↦ p i l below
      | inr above ↦ q i above k
    ]
