-- Parts of texts of which it can be told what bytes are for them: a text, the front of one, or the front of none.
use Rattle.std.proofs.Common.{◌≡◌, ℕ, zero, suc, ◌+◌, ◌<◌, List, [], ◌∷◌, ◌++◌, inl, inr, refl, sym, ap, subst, ◌∙◌, append_assoc, arith}
use Rattle.std.proofs.lemmas.List.{append-nil}
use Rattle.text_lines.specs.Forms.{Begins, Form, LineOf}
use Rattle.text_lines.specs.Text.{texts_below}
use Rattle.text_lines.proofs.BreakLemmas.{IsDecided, decided_after, decided_at, decided_same, line_decided, parts_decided}
use Rattle.text_lines.proofs.FormLemmas.{ComesAfter, ComesFirst, InLine, not_nil}
use Rattle.text_lines.proofs.SeqLemmas.{SameForms}
use Rattle.text_parts.specs.Steps.{TextOf, both, in_turn}
use Rattle.text_parts.specs.Text.{ended_line}
use Rattle.text_parts.proofs.LineForms.{AreBelow, LinesLeft, line_first, lines_apart, lines_below, one_more, with_value, with_value_stands}
use Rattle.text_parts.proofs.ReadsLemmas.{IsLineKind, IsPart, line_part, long_kind, turn_after, turn_first}
use Rattle.text_parts.proofs.TellLemmas.{Tells}

-- what comes first begins the whole
pub first_begins : (F1 F : Form) → ComesFirst F1 F → Begins F1 [] → Begins F []
first_begins F1 F f b = let more = f.extends b.0 b.1 in (b.0 ++ more.0, more.1)

module _ {A : Type 0} {P : A → Type 0} {f : A → List ℕ} where
  pub part_begins : IsPart P f → Begins (TextOf P f) []
  part_begins c = let a = c.some in (f a.0, (a.0, (a.1, refl)))

  line_same : SameForms (LineOf (TextOf P f)) (TextOf P (ended_line f))
  line_same = record {
    to = λ t l. (l.1.0.0, (l.1.0.1.0, l.1.1 ∙ ap (λ (x : List ℕ). x ++ 10 ∷ []) l.1.0.1.1));
    «from» = λ t a. (f a.0, ((a.0, (a.1.0, refl)), a.1.1));
  }

  -- a line of a kind that is told
  pub kind_decided : {most : ℕ} → IsLineKind P f most → Tells P f → IsDecided (TextOf P (ended_line f))
  kind_decided kind tell t w =
      let some = kind.some in
      decided_same (LineOf (TextOf P f)) (TextOf P (ended_line f)) line_same t (line_decided (TextOf P f) (λ line d. subst InLine (sym d.1.1) (kind.inside d.0 d.1.0)) tell (f some.0, (some.0, (some.1, refl))) t w)

-- texts of two values, one after the other
module _ {A B : Type 0} {P : A → Type 0} {f : A → List ℕ} {Q : B → Type 0} {g : B → List ℕ} (c : IsPart P f) (d : IsPart Q g) where
  pub turn_decided : IsDecided (TextOf P f) → IsDecided (TextOf Q g) → IsDecided (TextOf (both P Q) (in_turn f g))
  turn_decided first second =
      let F = TextOf (both P Q) (in_turn f g) in
      parts_decided (TextOf P f) F (turn_first c d) (λ p a. decided_after p (TextOf Q g) F (subst (λ (l : List ℕ). ComesAfter l (TextOf Q g) F) (sym a.1.1) (turn_after c d a.0 a.1.0)) second) first (part_begins c)

-- lines of values, one for each number below a number
module _ {A : Type 0} (Q : A → Type 0) (line : ℕ → A → List ℕ) (n : ℕ) (inside : (t : ℕ) → t < n → (a : A) → Q a → InLine (line t a)) (some : (a : A) × Q a) (tell : (t : ℕ) → t < n → Tells Q (line t)) where
  abbrev All : Form
  All = TextOf (AreBelow Q n) (lines_below line n)

  none_left : (values : ℕ → A) → AreBelow Q n values → IsDecided (λ (t : List ℕ). All (lines_below line n values ++ t))
  none_left values before [] w = inl (values, (before, append-nil (lines_below line n values)))
  none_left values before (b ∷ t) w = inr (inr (λ g. not_nil b (t ++ g.0) (sym (lines_apart Q line n inside values g.1.0 ((b ∷ t) ++ g.0) [] before g.1.1.0 (g.1.1.1 ∙ sym (append-nil (lines_below line n g.1.0)))).1)))

  left_decided : (m k : ℕ) → k + m ≡ n → (values : ℕ → A) → AreBelow Q k values → IsDecided (λ (t : List ℕ). All (lines_below line k values ++ t))
  left_decided zero k e values before =
      let same : k ≡ n = omega (arith, e) in
      subst (λ (j : ℕ). IsDecided (λ (t : List ℕ). All (lines_below line j values ++ t))) (sym same) (none_left values (subst (λ (j : ℕ). AreBelow Q j values) same before))
  left_decided (suc m) k e values before =
      let here : k < n = omega (arith, e) in
      let kind = long_kind {P = Q} {f = line k} some (inside k here) in
      let part = line_part kind in
      parts_decided (TextOf Q (ended_line (line k))) (LinesLeft Q line n inside k here values before) (line_first Q line n inside k here values before Q (λ a q. q) (λ a q. q) part)
      (λ p a.
      let value = a.0 in
      let next = with_value Q line n inside k here values before value in
      decided_at All (λ t. lines_below line (suc k) next ++ t) (λ t. lines_below line k values ++ (p ++ t))
      (λ t. ap (λ (l : List ℕ). l ++ t) (one_more Q line n inside k here values before value p a.1.1) ∙ append_assoc (lines_below line k values) p t)
      (left_decided m (suc k) (omega (arith, e)) next (with_value_stands Q line n inside k here values before value a.1.0)))
      (kind_decided kind (tell k here)) (part_begins part)

  pub lines_decided : IsDecided All
  unfolding texts_below
  lines_decided = left_decided n 0 (omega arith) (λ t. some.0) (λ t lt. absurd (omega (arith, lt)))
