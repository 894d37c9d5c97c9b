-- Lines of values, one for each number below a number.
use Rattle.std.proofs.Common.{◌≡◌, ℕ, zero, suc, ◌≤◌, ◌<◌, List, [], ◌∷◌, ◌++◌, inl, inr, refl, sym, ap, ap₂, subst, ◌∙◌, append_assoc, arith}
use Rattle.std.specs.Prelude.{if◌then◌else◌, nat_lt}
use Rattle.std.proofs.lemmas.Bool.{cases_lt}
use Rattle.std.proofs.lemmas.List.{append-nil}
use Rattle.sums_and_lists.proofs.Orders.{lt_is, not_lt_is}
use Rattle.text_lines.specs.Forms.{AreWholeLines, Form}
use Rattle.text_lines.specs.Text.{texts_below}
use Rattle.text_lines.proofs.FormLemmas.{ComesFirst, ComesAfter, InLine, whole_append, whole_line}
use Rattle.text_lines.proofs.TextLemmas.{IsOneLine, texts_cancel, texts_same, texts_tail}
use Rattle.text_parts.specs.Steps.{TextOf}
use Rattle.text_parts.proofs.ReadsLemmas.{IsPart}

-- the line of each number, of a value that stands for it
abbrev pub line_texts : {A : Type 0} → (ℕ → A → List ℕ) → (ℕ → A) → ℕ → List ℕ
line_texts line f t = line t (f t) ++ 10 ∷ []

abbrev pub AreBelow : {A : Type 0} → (A → Type 0) → ℕ → (ℕ → A) → Type 0
AreBelow Q n f = (t : ℕ) → t < n → Q (f t)

abbrev pub lines_below : {A : Type 0} → (ℕ → A → List ℕ) → ℕ → (ℕ → A) → List ℕ
lines_below line n f = texts_below n (line_texts line f)

pub lines_whole : {A : Type 0} (line : ℕ → A → List ℕ) (n : ℕ) (f : ℕ → A) → AreWholeLines (lines_below line n f)
unfolding texts_below
lines_whole line zero f = inl refl
lines_whole line (suc n) f = whole_append (lines_below line n f) (line_texts line f n) (lines_whole line n f) (whole_line (line n (f n)))

module _ {A : Type 0} (Q : A → Type 0) (line : ℕ → A → List ℕ) (n : ℕ) (inside : (t : ℕ) → t < n → (a : A) → Q a → InLine (line t a)) where
  one_line : (f : ℕ → A) → AreBelow Q n f → (t : ℕ) → t < n → IsOneLine (line_texts line f t)
  one_line f a t lt = (line t (f t), (inside t lt (f t) (a t lt), refl))

  pub lines_apart : (f g : ℕ → A) (r s : List ℕ) → AreBelow Q n f → AreBelow Q n g → lines_below line n f ++ r ≡ lines_below line n g ++ s → ((t : ℕ) → t < n → line_texts line f t ≡ line_texts line g t) × (r ≡ s)
  lines_apart f g r s a b e = texts_cancel n (line_texts line f) (line_texts line g) r s (one_line f a) (one_line g b) e

  pub lines_part : (a : A) → Q a → IsPart (AreBelow Q n) (lines_below line n)
  lines_part a q = record {
    some = ((λ t. a), λ t lt. q);
    code = record {
      whole = λ p a. subst AreWholeLines (sym a.1.1) (lines_whole line n a.0);
      free = λ p m a b. (lines_apart a.0 b.0 m [] a.1.0 b.1.0 (ap (λ (l : List ℕ). l ++ m) (sym a.1.1) ∙ b.1.1 ∙ sym (append-nil (lines_below line n b.0)))).1;
    };
  }

-- after those of the first k numbers comes that of the next
module _ {A : Type 0} (Q : A → Type 0) (line : ℕ → A → List ℕ) (n : ℕ) (inside : (t : ℕ) → t < n → (a : A) → Q a → InLine (line t a)) (k : ℕ) (here : k < n) (values : ℕ → A) (before : AreBelow Q k values) where
  abbrev pub LinesLeft : Form
  LinesLeft t = TextOf (AreBelow Q n) (lines_below line n) (lines_below line k values ++ t)

  pub lines_after : ComesAfter (lines_below line k values) LinesLeft (TextOf (AreBelow Q n) (lines_below line n))
  lines_after = record { whole = lines_whole line k values; to = λ t h. h; «from» = λ t h. h }

  module _ (a : A) where
    abbrev pub with_value : ℕ → A
    with_value t = if nat_lt t k then values t else a

    value_before : (t : ℕ) → t < k → with_value t ≡ values t
    value_before t lt = rw (lt_is t k lt) refl

    value_later : (t : ℕ) → k ≤ t → with_value t ≡ a
    value_later t le = rw (not_lt_is t k le) refl

    all_stand : Q a → AreBelow Q n with_value
    all_stand q t lt = elim (cases_lt t k) [
      | inl l ↦ subst Q (sym (value_before t l)) (before t l)
      | inr l ↦ subst Q (sym (value_later t l)) q
    ]

    -- the next line
    pub one_more : (p : List ℕ) → p ≡ line k a ++ 10 ∷ [] → lines_below line (suc k) with_value ≡ lines_below line k values ++ p
    unfolding texts_below
    one_more p e =
        let front = texts_same k (line_texts line values) (line_texts line with_value) (λ t lt. ap (λ (b : A). line t b ++ 10 ∷ []) (sym (value_before t lt))) in
        let last = e ∙ ap (λ (b : A). line k b ++ 10 ∷ []) (sym (value_later k (omega arith))) in
        sym (ap₂ (λ (l m : List ℕ). l ++ m) front last)

    pub with_value_stands : Q a → AreBelow Q (suc k) with_value
    with_value_stands q t lt = all_stand q t (omega (arith, lt, here))

    extended : (p : List ℕ) → Q a → p ≡ line k a ++ 10 ∷ [] → (more : List ℕ) × LinesLeft (p ++ more)
    unfolding texts_below
    extended p q e =
        let tail = texts_tail n k (line_texts line with_value) here in
        (tail.0, (with_value, (all_stand q, sym (append_assoc (lines_below line k values) p tail.0) ∙ ap (λ (l : List ℕ). l ++ tail.0) (sym (one_more p e)) ∙ sym tail.1)))

  -- the line of the next number, of a value as P says, which is the same
  pub line_first : (P : A → Type 0) → ((a : A) → P a → Q a) → ((a : A) → Q a → P a) → IsPart P (λ a. line k a ++ 10 ∷ []) → ComesFirst (TextOf P (λ a. line k a ++ 10 ∷ [])) LinesLeft
  line_first P to «from» part =
      let code = part.code in record {
        splits = λ t h.
            let tail = texts_tail n k (line_texts line h.0) here in
            let same = lines_apart Q line k (λ u lt. inside u (omega (arith, lt, here))) values h.0 t (line_texts line h.0 k ++ tail.0) before (λ u lt. h.1.0 u (omega (arith, lt, here))) (h.1.1 ∙ tail.1 ∙ append_assoc (lines_below line k h.0) (line_texts line h.0 k) tail.0) in
            (line_texts line h.0 k, tail.0, ((h.0 k, («from» (h.0 k) (h.1.0 k here), refl)), same.1));
        extends = λ p h. extended h.0 p (to h.0 h.1.0) h.1.1;
        whole = code.whole;
        free = code.free;
      }
